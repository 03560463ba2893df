-- Laws of readers one after the other, and of the steps that they answer.
use mathlib.Core.Path.{◌≡◌, refl, sym, ap, ap₂, ◌∙◌, subst}
use mathlib.Core.List.{List, [], ◌∷◌, ◌++◌, append_assoc, append-nil}
use Prim.Native.Nat.{ℕ, zero, suc, ◌+◌, ◌-◌, ◌≤◌, ◌<◌}
use native.Mathlib.Omega.{arith}
use lib.ListN.{length, take, drop, length-append, length-drop}
use lib.Seq.{drop-drop}
use Rattle.std.specs.Prelude.{Option, Result, Err}
use Rattle.std.specs.Result.{IsErrAnd}
use Rattle.refusals.specs.Refused.{handed_on}
use Rattle.refusals.specs.declared.Rejection.{Rejection}
use Rattle.term_parser.specs.declared.Read.{Read}
use Rattle.refusals.specs.declared.Refusal.{Refusal}
use Rattle.refusals.specs.declared.Refusal.TheVariants.{TermExpected}
use Rattle.term_parser.specs.Steps.{Step, step, maybe_step}
use Rattle.term_parser.specs.Steps.Step.{At, Absent, Refused}
use Rattle.term_parser.specs.Parsing.{Tokens, Parsed, parsed, absent, refused, plus, follow, required, continued, repeat}
use Rattle.term_parser.specs.Rows.{Rows, rows_of_all}
use Rattle.term_parser.specs.Firmness.{Firm, firm_required}
use Rattle.term_parser.specs.Promises.{on, nothing, no, shown, told, Within, Answers}

pub no_path : {A : Type 0} → ◌≡◌ {A = ℕ} 0 1 → A
no_path e = absurd (omega arith)

-- A step that must not be absent.
abbrev pub required_step : ℕ → Step → Step
required_step line (At next used n) = At next used n
required_step line Absent = Refused TermExpected line
required_step line (Refused r n) = Refused r n

-- A step that reads nothing.
abbrev pub Stopped : Step → Type 0
Stopped (At next used n) = ⊥
Stopped Absent = Unit {0}
Stopped (Refused r line) = Unit {0}

-- An answer that is a refusal, and one that hands it on.
pub stopped_err : (r : Result Read Rejection) {f : Rejection} → r ≡ Err f → Stopped (step r)
stopped_err r e = rw e tt

pub exits : (r s : Result Read Rejection) {f : Rejection} → r ≡ Err f → IsErrAnd s (λ y. y ≡ f) → step s ≡ step r
exits r s e h = ap step (handed_on s h ∙ sym e)

pub exits_maybe : (r : Result Read Rejection) (s : Result (Option Read) Rejection) {f : Rejection} → r ≡ Err f → IsErrAnd s (λ y. y ≡ f) → maybe_step s ≡ step r
exits_maybe r s e h = ap maybe_step (handed_on s h) ∙ sym (ap step e)

pub maybe_exits : (r : Result (Option Read) Rejection) (s : Result Read Rejection) {f : Rejection} → r ≡ Err f → IsErrAnd s (λ y. y ≡ f) → step s ≡ maybe_step r
maybe_exits r s e h = ap step (handed_on s h) ∙ sym (ap maybe_step e)

-- What a reader read that went on to the place `next`.
pub record Got {A : Type 0} (rows : A → Rows) (p : ℕ) (before : Rows) (x : Parsed A) (next : ℕ) (after : Rows) : Type 0 where
  pub item : A
  pub taken : ℕ
  pub is : x ≡ parsed item taken
  pub place : next ≡ p + taken
  pub written : after ≡ before ++ rows item

got_on : {A : Type 0} (rows : A → Rows) (p : ℕ) (before : Rows) (x : Parsed A) {next : ℕ} {after : Rows} → on next after ≡ told rows p before x → Got rows p before x next after
got_on rows p before (parsed a n) e = record { item = a; taken = n; is = refl; place = cc; written = cc }
got_on rows p before absent e = no_path cc
got_on rows p before (refused r line) e = no_path cc

-- what is told of a reader after which another one would read, if a step was shown that reads nothing
passes : {A B : Type 0} (rows : A → Rows) (rowsB : B → Rows) (p q : ℕ) (before before' out out' : Rows) (x : Parsed A) (ts : Tokens) (next : A → Tokens → Parsed B) (r : Step) → Stopped r
    → shown r out ≡ told rows p before x → shown r out' ≡ told rowsB q before' (follow x ts next)
passes rows rowsB p q before before' out out' x ts next (At _ _ _) s e = absurd s
passes rows rowsB p q before before' out out' (parsed a n) ts next Absent s e = no_path cc
passes rows rowsB p q before before' out out' (parsed a n) ts next (Refused r l) s e = no_path cc
passes rows rowsB p q before before' out out' absent ts next Absent s e = refl
passes rows rowsB p q before before' out out' absent ts next (Refused r l) s e = no_path cc
passes rows rowsB p q before before' out out' (refused _ _) ts next Absent s e = no_path cc
passes rows rowsB p q before before' out out' (refused _ _) ts next (Refused r l) s e = e

requires_shown : {A : Type 0} (rows : A → Rows) (p line : ℕ) (before out : Rows) (x : Parsed A) (r : Step) → shown r out ≡ told rows p before x
    → shown (required_step line r) out ≡ told rows p before (required TermExpected line x)
requires_shown rows p line before out (parsed a n) (At _ _ _) e = e
requires_shown rows p line before out (parsed a n) Absent e = no_path cc
requires_shown rows p line before out (parsed a n) (Refused r l) e = no_path cc
requires_shown rows p line before out absent (At _ _ _) e = no_path cc
requires_shown rows p line before out absent Absent e = refl
requires_shown rows p line before out absent (Refused r l) e = no_path cc
requires_shown rows p line before out (refused q m) (At _ _ _) e = no_path cc
requires_shown rows p line before out (refused q m) Absent e = no_path cc
requires_shown rows p line before out (refused q m) (Refused r l) e = e

within_required : (d : ℕ) (ts : Tokens) (p u line : ℕ) (r : Step) → Within d ts p u r → Within d ts p u (required_step line r)
within_required d ts p u line (At _ _ _) w = w
within_required d ts p u line Absent w = tt
within_required d ts p u line (Refused r l) w = tt

pub within_stopped : (d : ℕ) (ts : Tokens) (p u : ℕ) (r : Step) → Stopped r → Within d ts p u r
within_stopped d ts p u (At next used n) h = absurd h
within_stopped d ts p u Absent h = tt
within_stopped d ts p u (Refused r line) h = tt

pub told_plus : {A : Type 0} (rows : A → Rows) (p n : ℕ) (before : Rows) (x : Parsed A) → told rows p before (plus n x) ≡ told rows (p + n) before x
told_plus rows p n before (parsed a m) = let e : p + (n + m) ≡ p + n + m = omega arith in ap (λ i. on i (before ++ rows a)) e
told_plus rows p n before absent = refl
told_plus rows p n before (refused r l) = refl

absent_is : {A : Type 0} (rows : A → Rows) (p : ℕ) (before : Rows) (x : Parsed A) → nothing ≡ told rows p before x → x ≡ absent
absent_is rows p before (parsed a n) e = no_path cc
absent_is rows p before absent e = refl
absent_is rows p before (refused q m) e = no_path cc

-- what a reader owes where there is no such item
pub none_there : {A : Type 0} (d : ℕ) (rows : A → Rows) (x : Parsed A) (ts : Tokens) (p u : ℕ) (before : Rows) → x ≡ absent → Answers d rows x ts p u before Absent before
none_there d rows x ts p u before e = record { is = sym (ap (told rows p (take u before)) e); within = tt; still = λ _. refl }

-- what a firm reader owes
pub firmly : {A : Type 0} (d : ℕ) (rows : A → Rows) (x : Parsed A) (ts : Tokens) (p u : ℕ) (before : Rows) (r : Step) (out : Rows) → Firm x
    → shown r out ≡ told rows p (take u before) x → Within d ts p u r → Answers d rows x ts p u before r out
firmly d rows x ts p u before r out f e w =
    record { is = e; within = w; still = λ z. absurd (f (absent_is rows p (take u before) x (subst (λ (s : Step). shown s out ≡ told rows p (take u before) x) z e))) }

module _ {A : Type 0} {d : ℕ} {rows : A → Rows} {x : Parsed A} {ts : Tokens} {p u : ℕ} {before : Rows} {r : Step} {out : Rows} (h : Answers d rows x ts p u before r out) where
  -- a step that went on
  module _ {next used n : ℕ} (e : r ≡ At next used n) where
    pub got : Got rows p (take u before) x next (take used out)
    got = got_on rows p (take u before) x (subst (λ (s : Step). shown s out ≡ told rows p (take u before) x) e h.is)

    pub moved : (p + d ≤ next) × (next ≤ length ts) × (u ≤ used) × (used + p ≤ u + next)
    moved = subst (Within d ts p u) e h.within

    -- the next reader reads from there
    pub goes_on : {B : Type 0} (rowsB : B → Rows) (then : A → Tokens → Parsed B) (base : Rows)
        → told rowsB p base (follow x (drop p ts) then) ≡ told rowsB next base (then got.item (drop next ts))
    goes_on rowsB then base =
        let g = got in
        ap (λ y. told rowsB p base (follow y (drop p ts) then)) g.is
        ∙ told_plus rowsB p g.taken base (then g.item (drop g.taken (drop p ts)))
        ∙ ap₂ (λ i us. told rowsB i base (then g.item us)) (sym g.place) (drop-drop g.taken p ts ∙ ap (λ i. drop i ts) (sym g.place))

  -- a step that reads nothing is passed on
  pub passed : Stopped r → {B : Type 0} (rowsB : B → Rows) (us : Tokens) (then : A → Tokens → Parsed B) (q : ℕ) (base out' : Rows) → shown r out' ≡ told rowsB q base (follow x us then)
  passed s rowsB us then q base out' = passes rows rowsB p q (take u before) base out out' x us then r s h.is

  pub required_answers : (line : ℕ) (s : Step) → s ≡ required_step line r → Answers d rows (required TermExpected line x) ts p u before s out
  required_answers line s e = rw e (firmly d rows (required TermExpected line x) ts p u before (required_step line r) out (firm_required TermExpected line x)
      (requires_shown rows p line (take u before) out x r h.is) (within_required d ts p u line r h.within))

  pub is_absent : r ≡ Absent → x ≡ absent
  is_absent e = absent_is rows p (take u before) x (subst (λ (s : Step). shown s out ≡ told rows p (take u before) x) e h.is)

  pub is_refused_lem : {q : Refusal} {l : ℕ} → r ≡ Refused q l → x ≡ refused q l
  is_refused_lem {q} {l} e = go x (subst (λ (s : Step). shown s out ≡ told rows p (take u before) x) e h.is)
    where
      go : (y : Parsed A) → no q l ≡ told rows p (take u before) y → y ≡ refused q l
      go (parsed a n) f = no_path cc
      go absent f = no_path cc
      go (refused q' m) f = cc

-- the end of repeated items, and a turn
module _ {A : Type 0} (item : Tokens → Parsed A) (ts : Tokens) (n : ℕ) (done : List A) where
  pub repeat_end : item ts ≡ absent → repeat item ts 0 n done ≡ parsed done n
  unfolding repeat
  repeat_end = go ts
    where
      go : (us : Tokens) → item us ≡ absent → repeat item us 0 n done ≡ parsed done n
      go [] e = simp e
      go (t ∷ us) e = simp e

  pub repeat_refused : {r : Refusal} {l : ℕ} → item ts ≡ refused r l → repeat item ts 0 n done ≡ refused r l
  unfolding repeat
  repeat_refused {r} {l} = go ts
    where
      go : (us : Tokens) → item us ≡ refused r l → repeat item us 0 n done ≡ refused r l
      go [] e = simp e
      go (t ∷ us) e = simp e

pub repeat_skip : {A : Type 0} (item : Tokens → Parsed A) (ts : Tokens) (k n : ℕ) (done : List A) → k ≤ length ts → repeat item ts k n done ≡ repeat item (drop k ts) 0 n done
unfolding repeat
repeat_skip item ts zero n done h = refl
repeat_skip item [] (suc k) n done h = absurd (omega arith)
repeat_skip item (t ∷ ts) (suc k) n done h = repeat_skip item ts k n done (omega arith)

pub repeat_turn : {A : Type 0} (item : Tokens → Parsed A) (ts : Tokens) (n : ℕ) (done : List A) {a : A} {m : ℕ} → item ts ≡ parsed a m → 0 < m → m ≤ length ts
    → repeat item ts 0 n done ≡ repeat item (drop m ts) 0 (n + m) (done ++ (a ∷ []))
unfolding repeat
repeat_turn item [] n done {m = m} e l h = absurd (omega arith)
repeat_turn item (t ∷ ts) n done {m = zero} e l h = absurd (omega arith)
repeat_turn item (t ∷ ts) n done {a = a} {m = suc m} e l h = let d : suc m - 1 ≡ m = omega arith in simp (e, d) (repeat_skip item ts m (n + suc m) (done ++ (a ∷ [])) (omega arith))

pub rows_snoc : {A : Type 0} (rows : A → Rows) (l : List A) (a : A) → rows_of_all rows (l ++ (a ∷ [])) ≡ rows_of_all rows l ++ rows a
unfolding rows_of_all
rows_snoc rows [] a = append-nil _
rows_snoc rows (b ∷ l) a = ap (λ z. rows b ++ z) (rows_snoc rows l a) ∙ sym (append_assoc (rows b) _ _)

-- The items that come after some that are done.
abbrev pub onto : {A : Type 0} → List A → Parsed (List A) → Parsed (List A)
onto done (parsed l n) = parsed (done ++ l) n
onto done absent = absent
onto done (refused r l) = refused r l

continued_onto : {A B : Type 0} (o : Parsed A) (done : List B) (f g : A → ℕ → Parsed (List B)) (x y : Parsed (List B)) → ((a : A) (m : ℕ) → f a m ≡ onto done (g a m)) → x ≡ onto done y
    → continued o f x ≡ onto done (continued o g y)
continued_onto (parsed a m) done f g x y h e = h a m
continued_onto absent done f g x y h e = e
continued_onto (refused r l) done f g x y h e = refl

pub repeat_onto : {A : Type 0} (item : Tokens → Parsed A) (ts : Tokens) (k n : ℕ) (done l : List A) → repeat item ts k n (done ++ l) ≡ onto done (repeat item ts k n l)
unfolding repeat
repeat_onto item [] k n done l = continued_onto (item []) done (λ a m. parsed (done ++ l) n) (λ a m. parsed l n) (parsed (done ++ l) n) (parsed l n) (λ a m. refl) refl
repeat_onto item (t ∷ ts) (suc k) n done l = repeat_onto item ts k n done l
repeat_onto item (t ∷ ts) zero n done l =
    continued_onto (item (t ∷ ts)) done (λ a m. repeat item ts (m - 1) (n + m) ((done ++ l) ++ (a ∷ []))) (λ a m. repeat item ts (m - 1) (n + m) (l ++ (a ∷ []))) (parsed (done ++ l) n) (parsed l n)
    (λ a m. ap (repeat item ts (m - 1) (n + m)) (append_assoc done l (a ∷ [])) ∙ repeat_onto item ts (m - 1) (n + m) done (l ++ (a ∷ []))) refl

-- A loop over items: from place q, k rows and the count c on, the items in `new` were read.
pub record Looped {A : Type 0} (item : Tokens → Parsed A) (rows : A → Rows) (ts : Tokens) (q k c : ℕ) (out₀ : Rows) (p u n : ℕ) (out : Rows) : Type 0 where
  pub new : List A
  pub wrote : take u out ≡ take k out₀ ++ rows_of_all rows new
  pub same : (done : List A) → repeat item (drop q ts) 0 0 done ≡ repeat item (drop p ts) 0 (p - q) (done ++ new)
  pub counted : n ≡ c + length new
  pub from : q ≤ p
  pub to : p ≤ length ts
  pub above : k ≤ u
  pub fits : u + q ≤ k + p
  pub few : n + q ≤ c + p
  pub long : length out ≡ length out₀

module _ {A : Type 0} (item : Tokens → Parsed A) (rows : A → Rows) (ts : Tokens) where
  pub loop_start : (q k c : ℕ) (out : Rows) → q ≤ length ts → Looped item rows ts q k c out q k c out
  unfolding rows_of_all
  loop_start q k c out h = let e : q - q ≡ 0 = omega arith in
      record {
        new = [];
        wrote = sym (append-nil (take k out));
        same = λ done. ap₂ (λ m l. repeat item (drop q ts) 0 m l) (sym e) (sym (append-nil done));
        counted = omega arith;
        from = omega arith;
        to = h;
        above = omega arith;
        fits = omega arith;
        few = omega arith;
        long = refl;
      }

  module _ {q k c : ℕ} {out₀ : Rows} {p u n : ℕ} {out : Rows} (l : Looped item rows ts q k c out₀ p u n out) {r : Step} {out' : Rows} (h : Answers 1 rows (item (drop p ts)) ts p u out r out') where
    pub loop_turn : {p' u' m : ℕ} → r ≡ At p' u' m → length out' ≡ length out → Looped item rows ts q k c out₀ p' u' (n + 1) out'
    loop_turn {p'} {u'} e len =
        let g = got h e in
        let m = moved h e in
        let gp = g.place in
        let d : p' - q ≡ p - q + g.taken = let f = l.from in omega arith in
        record {
          new = l.new ++ (g.item ∷ []);
          wrote = g.written ∙ ap (λ z. z ++ rows g.item) l.wrote ∙ append_assoc (take k out₀) _ _ ∙ ap (λ z. take k out₀ ++ z) (sym (rows_snoc rows l.new g.item));
          same = λ done. l.same done ∙ repeat_turn item (drop p ts) (p - q) (done ++ l.new) g.is (omega (arith, m)) (let z = length-drop p ts in omega (arith, m))
              ∙ ap₂ (λ us i. repeat item us 0 i ((done ++ l.new) ++ (g.item ∷ []))) (drop-drop g.taken p ts ∙ ap (λ i. drop i ts) (sym g.place)) (sym d)
              ∙ ap (λ a. repeat item (drop p' ts) 0 (p' - q) a) (append_assoc done l.new (g.item ∷ []));
          counted = let f = l.counted in let z = length-append l.new (g.item ∷ []) in omega arith;
          from = let f = l.from in omega (arith, m);
          to = m.1;
          above = let f = l.above in omega (arith, m);
          fits = let f = l.fits in omega (arith, m);
          few = let f = l.few in omega (arith, m);
          long = len ∙ l.long;
        }

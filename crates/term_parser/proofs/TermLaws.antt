-- The ways out of `atom`, `app` and `term`.
use mathlib.Core.Path.{◌≡◌, refl, sym, ap, ap₂, ◌∙◌, subst}
use mathlib.Core.Logic.{◌⊎◌, inl, inr, ◌≢◌}
use mathlib.Core.List.{List, [], ◌∷◌, ◌++◌, append_assoc, append-nil}
use Prim.Native.Nat.{ℕ, zero, suc, ◌+◌, ◌-◌, ◌≤◌, ◌<◌, min}
use native.Mathlib.Nat.{add-zero}
use native.Mathlib.Numerals.{add-one}
use native.Mathlib.Omega.{arith}
use borrow.Author.Tests.{eq-eqb, ne_eqb}
use lib.Dec.{eqb}
use lib.ListN.{length, get_or, take, drop, set, length-append, length-take}
use lib.Seq.{drop-drop, take-suc-set, take-set-lt, set_at, get_or_at, get_or-take, length-take-le}
use Rattle.words.specs.Names.{name_kind, metavariable_kind, numeral_kind}
use Rattle.refusals.specs.declared.Refusal.{Refusal}
use Rattle.refusals.specs.declared.Refusal.TheVariants.{ParenthesisLimit, TermExpected}
use Rattle.source_text.specs.Numerals.{numeral_of}
use Rattle.source_text.specs.Parts.{part_of}
use Rattle.term_parser.specs.declared.Token.{Token}
use Rattle.term_parser.specs.Steps.{Step}
use Rattle.term_parser.specs.Steps.Step.{At, Absent, Refused}
use Rattle.term_parser.specs.Source.{place, one, many, Source, numeral, metavariable, name, application, none, more, all_of, extend, count}
use Rattle.term_parser.specs.Parsing.{Tokens, token_of, kind_of, place_of, line_of, last_line, when, Parsed, parsed, absent, refused, plus, follow, required, repeat, sign_of}
use Rattle.term_parser.specs.Grammar.{value, value_at, applied, equated, atom_of, app_of, term_of, parenthesis}
use Rattle.term_parser.specs.Rows.{Rows, row, application_kind, rows_of, rows_of_all}
use Rattle.term_parser.specs.Promises.{on, no, shown, told, Within, Answers, Room, Signed, signed, inside, kind_at, grown, Applying, Equating}
use Rattle.term_parser.specs.Firmness.{firm_app as app_firm, firm_term as term_firm, Firm, firm_sign}
use Rattle.term_parser.proofs.TokenLaws.{token_there}
use Rattle.term_parser.proofs.Readers.{no_path, none_there, Looped, loop_start, loop_turn, required_step, required_answers, firmly, Stopped, got, moved, goes_on, passed, within_stopped, is_absent, is_refused_lem, told_plus, repeat_end, repeat_refused}

-- One row for one token.
module _ {A : Type 0} (rows : A → Rows) {ts : Tokens} {p u : ℕ} {out : Rows} (room : Room ts p u out) (here : p < length ts) where
  pub leaf : {a : A} {x : Parsed A} {line : List ℕ} {r : Step} {out' : Rows} → x ≡ parsed a 1 → rows a ≡ line ∷ [] → r ≡ At (p + 1) (u + 1) 1 → out' ≡ set out u line → Answers 1 rows x ts p u out r out'
  leaf {a} {x} {line} {r} {out'} e f g h =
      let l = room.lent in let b = room.below in
      let t : take (u + 1) out' ≡ take u out ++ rows a = ap (take (u + 1)) h ∙ rw (add-one u) (take-suc-set out u line (omega arith)) ∙ ap (λ z. take u out ++ z) (sym f) in
      rw (g, e) (firmly 1 rows (parsed a 1) ts p u out (At (p + 1) (u + 1) 1) out' (λ z. no_path cc) (ap (on (p + 1)) t) (omega arith, omega arith, omega arith, omega arith))

module _ (text : List ℕ) (last : ℕ) (inner : Tokens → Parsed (Source one)) (us : Tokens) where
  pub atom_name : kind_of us ≡ name_kind → atom_of text last inner us ≡ parsed (name (place_of us)) 1
  unfolding atom_of
  atom_name e = simp (eq-eqb _ _ e)

  module _ (a : kind_of us ≢ name_kind) where
    pub atom_meta : kind_of us ≡ metavariable_kind → atom_of text last inner us ≡ parsed (metavariable (place_of us)) 1
    unfolding atom_of
    atom_meta e = simp (ne_eqb _ _ a, eq-eqb _ _ e)

    module _ (b : kind_of us ≢ metavariable_kind) where
      pub atom_numeral : kind_of us ≡ numeral_kind → atom_of text last inner us ≡ parsed (numeral (place_of us) (value_at text us)) 1
      unfolding atom_of
      atom_numeral e = simp (ne_eqb _ _ a, ne_eqb _ _ b, eq-eqb _ _ e)

      module _ (c : kind_of us ≢ numeral_kind) where
        pub atom_inner : kind_of us ≡ 18 → atom_of text last inner us ≡ inner us
        unfolding atom_of
        atom_inner e = simp (ne_eqb _ _ a, ne_eqb _ _ b, ne_eqb _ _ c, eq-eqb _ _ e)

        pub atom_absent : kind_of us ≢ 18 → atom_of text last inner us ≡ absent
        unfolding atom_of
        atom_absent e = simp (ne_eqb _ _ a, ne_eqb _ _ b, ne_eqb _ _ c, ne_eqb _ _ e)

-- Room further on.
pub room_on : {ts : Tokens} {p u : ℕ} {before : Rows} → Room ts p u before → (p' u' : ℕ) (out : Rows) → p' ≤ length ts → u' + p ≤ u + p' → length out ≡ length before → Room ts p' u' out
room_on r p' u' out h f e = let b = r.below in let l = r.lent in record { here = h; below = omega arith; lent = omega arith; small = r.small }

-- The ways out of `atom`, by the token at its place.
module _ (text : List ℕ) (ts : Tokens) (left : ℕ) {p u : ℕ} {out : Rows} (room : Room ts p u out) {t : Token} (te : t ≡ token_of (drop p ts)) where
  pub kind_is : {k : ℕ} → t.kind ≡ k → kind_of (drop p ts) ≡ k
  kind_is e = sym (ap (λ x. x.kind) te) ∙ e

  pub kind_not : {k : ℕ} → t.kind ≢ k → kind_of (drop p ts) ≢ k
  kind_not n e = n (ap (λ x. x.kind) te ∙ e)

  pub there : {k : ℕ} → t.kind ≡ k → 0 < k → p < length ts
  there e l = token_there ts p (let f = kind_is e in omega arith)

  abbrev reader : Parsed (Source one)
  reader = atom_of text (last_line ts) (inside text ts left) (drop p ts)

  module _ {r : Step} {out' : Rows} (e : r ≡ At (p + 1) (u + 1) 1) where
    pub is_name : t.kind ≡ name_kind → out' ≡ set out u (name_kind ∷ t.start ∷ t.length ∷ 0 ∷ []) → Answers 1 rows_of reader ts p u out r out'
    unfolding rows_of
    is_name k w = leaf rows_of room (there k (omega arith)) (atom_name text (last_line ts) (inside text ts left) (drop p ts) (kind_is k)) (ap (λ x. (name_kind ∷ x.start ∷ x.length ∷ 0 ∷ []) ∷ []) (sym te)) e w

    pub is_meta : t.kind ≢ name_kind → t.kind ≡ metavariable_kind → out' ≡ set out u (metavariable_kind ∷ t.start ∷ t.length ∷ 0 ∷ []) → Answers 1 rows_of reader ts p u out r out'
    unfolding rows_of
    is_meta a k w = leaf rows_of room (there k (omega arith)) (atom_meta text (last_line ts) (inside text ts left) (drop p ts) (kind_not a) (kind_is k))
        (ap (λ x. (metavariable_kind ∷ x.start ∷ x.length ∷ 0 ∷ []) ∷ []) (sym te)) e w

    pub is_numeral_lem : t.kind ≢ name_kind → t.kind ≢ metavariable_kind → t.kind ≡ numeral_kind → {v : ℕ} → v ≡ min (value (numeral_of (part_of text t.start t.length))) 4294967295
        → out' ≡ set out u (numeral_kind ∷ t.start ∷ t.length ∷ v ∷ []) → Answers 1 rows_of reader ts p u out r out'
    unfolding rows_of
    is_numeral_lem a b k ve w = leaf rows_of room (there k (omega arith)) (atom_numeral text (last_line ts) (inside text ts left) (drop p ts) (kind_not a) (kind_not b) (kind_is k))
        (ap (λ x. (numeral_kind ∷ x.start ∷ x.length ∷ min (value (numeral_of (part_of text x.start x.length))) 4294967295 ∷ []) ∷ []) (sym te)
        ∙ ap (λ v. (numeral_kind ∷ t.start ∷ t.length ∷ v ∷ []) ∷ []) (sym ve)) e w

  module _ (a : t.kind ≢ name_kind) (b : t.kind ≢ metavariable_kind) (c : t.kind ≢ numeral_kind) where
    pub is_open : t.kind ≡ 18 → reader ≡ inside text ts left (drop p ts)
    is_open k = atom_inner text (last_line ts) (inside text ts left) (drop p ts) (kind_not a) (kind_not b) (kind_not c) (kind_is k)

    pub is_none : t.kind ≢ 18 → Answers 1 rows_of reader ts p u out Absent out
    is_none k = none_there 1 rows_of reader ts p u out (atom_absent text (last_line ts) (inside text ts left) (drop p ts) (kind_not a) (kind_not b) (kind_not c) (kind_not k))

-- Parentheses.
module _ (text : List ℕ) (last : ℕ) where
  pub no_more : (left : ℕ) (us : Tokens) → left ≡ 0 → parenthesis text last left us ≡ refused ParenthesisLimit (line_of last us)
  unfolding parenthesis
  no_more left us e = rw e

  abbrev closing : Source one → Tokens → Parsed (Source one)
  closing t us = follow (sign_of last 19 us) us (λ _ vs. parsed t 0)

  pub one_more : (left : ℕ) (us : Tokens) → left ≢ 0
      → parenthesis text last left us ≡ plus 1 (follow (term_of text last (parenthesis text last (left - 1)) (drop 1 us)) (drop 1 us) closing)
  unfolding parenthesis
  one_more zero us n = absurd (n refl)
  one_more (suc left) us n = let e : suc left - 1 ≡ left = omega arith in rw e

-- The closing sign.
pub closes : {A : Type 0} (rows : A → Rows) (t : A) (p u : ℕ) (us : Tokens) (before out : Rows) (y : Parsed (Unit {0})) (s : Step) → s ≡ signed p u y → take u out ≡ before ++ rows t
    → shown s out ≡ told rows p before (follow y us (λ _ vs. parsed t 0))
closes rows t p u us before out (parsed _ n) s e w = let f : p + n ≡ p + (n + 0) = omega arith in rw e (ap₂ on f w)
closes rows t p u us before out absent s e w = rw e
closes rows t p u us before out (refused r l) s e w = rw e

sign_firm : (p u : ℕ) (y : Parsed (Unit {0})) (s : Step) → Firm y → s ≡ signed p u y → s ≡ Absent → ⊥
sign_firm p u (parsed a n) s f e z = no_path cc
sign_firm p u absent s f e z = f refl
sign_firm p u (refused r l) s f e z = no_path cc

within_on : (ts : Tokens) (p p' u u' : ℕ) (s : Step) → Within 1 ts p' u' s → p < p' → u ≤ u' → u' + p ≤ u + p' → Within 1 ts p u s
within_on ts p p' u u' (At next used i) (a, b, c, d) l m n = (omega arith, b, omega arith, omega arith)
within_on ts p p' u u' Absent w l m n = tt
within_on ts p p' u u' (Refused r k) w l m n = tt

module _ (text : List ℕ) (ts : Tokens) (p left u : ℕ) (before : Rows) (opened : atom_of text (last_line ts) (inside text ts left) (drop p ts) ≡ inside text ts left (drop p ts)) where
  pub too_deep : left ≡ 0 → {line : ℕ} {out : Rows} → line ≡ line_of (last_line ts) (drop p ts)
      → Answers 1 rows_of (atom_of text (last_line ts) (inside text ts left) (drop p ts)) ts p u before (Refused ParenthesisLimit line) out
  too_deep z e = record { is = ap (no ParenthesisLimit) e ∙ sym (ap (told rows_of p (take u before)) (opened ∙ no_more text (last_line ts) left (drop p ts) z)); within = tt; still = λ f. no_path cc }

  module _ (n : left ≢ 0) {r : Step} {out : Rows} (h : Answers 1 rows_of (term_of text (last_line ts) (inside text ts (left - 1)) (drop (p + 1) ts)) ts (p + 1) u before r out) where
    opens : told rows_of p (take u before) (atom_of text (last_line ts) (inside text ts left) (drop p ts))
        ≡ told rows_of (p + 1) (take u before) (follow (term_of text (last_line ts) (inside text ts (left - 1)) (drop (p + 1) ts)) (drop (p + 1) ts) (closing text (last_line ts)))
    opens =
        ap (told rows_of p (take u before)) (opened ∙ one_more text (last_line ts) left (drop p ts) n)
        ∙ told_plus rows_of p 1 (take u before) (follow (term_of text (last_line ts) (parenthesis text (last_line ts) (left - 1)) (drop 1 (drop p ts))) (drop 1 (drop p ts)) (closing text (last_line ts)))
        ∙ ap (λ us. told rows_of (p + 1) (take u before) (follow (term_of text (last_line ts) (inside text ts (left - 1)) us) us (closing text (last_line ts)))) (drop-drop 1 p ts)

    pub inner_stopped : Stopped r → Answers 1 rows_of (atom_of text (last_line ts) (inside text ts left) (drop p ts)) ts p u before r out
    inner_stopped s = record { is = passed h s rows_of (drop (p + 1) ts) (closing text (last_line ts)) (p + 1) (take u before) out ∙ sym opens; within = within_stopped 1 ts p u r s; still = h.still }

    pub inner_closed : {next k n : ℕ} → r ≡ At next k n → {s : Step} → Signed (sign_of (last_line ts) 19 (drop next ts)) ts next k s
        → Answers 1 rows_of (atom_of text (last_line ts) (inside text ts left) (drop p ts)) ts p u before s out
    inner_closed {next} {k} e {s} g =
        let m = moved h e in
        record {
          is = closes rows_of (got h e).item next k (drop next ts) (take u before) out (sign_of (last_line ts) 19 (drop next ts)) s g.is (got h e).written ∙ sym (opens ∙ goes_on h e rows_of (closing text (last_line ts)) (take u before));
          within = within_on ts p next u k s g.within (omega (arith, m)) m.2 (omega (arith, m));
          still = λ z. absurd (sign_firm next k (sign_of (last_line ts) 19 (drop next ts)) s (firm_sign (last_line ts) 19 (drop next ts)) g.is z);
        }

-- The row at the root of the last term: the rows up to u' are those before the term, the root's, and the rest.
pub record Rooted (out before : Rows) (u u' : ℕ) (line : List ℕ) (rest : Rows) : Type 0 where
  pub wrote : take u' out ≡ before ++ (line ∷ rest)
  pub long : length before ≡ u
  pub low : u < u'

module _ {out before : Rows} {u u' : ℕ} {line : List ℕ} {rest : Rows} (h : Rooted out before u u' line rest) where
  root_is : get_or out u [] ≡ line
  root_is = sym (get_or-take u' out u [] h.low) ∙ ap (λ l. get_or l u []) h.wrote ∙ get_or_at before line rest [] u h.long

  pub root_kind : kind_at out u ≡ get_or line 0 0
  root_kind = ap (λ l. get_or l 0 0) root_is

  pub root_count : get_or (get_or out u []) 3 0 ≡ get_or line 3 0
  root_count = ap (λ l. get_or l 3 0) root_is

  pub root_grown : (n : ℕ) → take u' (grown out u n) ≡ before ++ ((application_kind ∷ get_or line 1 0 ∷ get_or line 2 0 ∷ n ∷ []) ∷ rest)
  root_grown n =
      let new : List ℕ = application_kind ∷ get_or (get_or out u []) 1 0 ∷ get_or (get_or out u []) 2 0 ∷ n ∷ [] in
      take-set-lt u' out u new h.low ∙ ap (λ l. set l u new) h.wrote ∙ set_at before line rest new u h.long
      ∙ ap (λ l. before ++ ((application_kind ∷ get_or l 1 0 ∷ get_or l 2 0 ∷ n ∷ []) ∷ rest)) root_is

-- Lists of terms.
pub count_all : (l : List (Source one)) → count (all_of l) ≡ length l
unfolding count all_of
count_all [] = refl
count_all (t ∷ l) = let e = count_all l in omega arith

pub rows_all : (l : List (Source one)) → rows_of (all_of l) ≡ rows_of_all rows_of l
unfolding rows_of rows_of_all all_of
rows_all [] = refl
rows_all (t ∷ l) = ap (λ z. rows_of t ++ z) (rows_all l)

pub count_extend : (us : Source many) (t : Source one) → count (extend us t) ≡ count us + 1
unfolding count extend
count_extend none t = refl
count_extend (more u us) t = let e = count_extend us t in omega arith

pub rows_extend : (us : Source many) (t : Source one) → rows_of (extend us t) ≡ rows_of us ++ rows_of t
unfolding rows_of extend
rows_extend none t = append-nil _
rows_extend (more u us) t = ap (λ z. rows_of u ++ z) (rows_extend us t) ∙ sym (append_assoc (rows_of u) _ _)

-- How a step ended that may have changed the root's row: it went to p with u' rows, or was refused.
abbrev pub Stays : ℕ → ℕ → Step → Type 0
Stays p u' r = (r ≡ At p u' 1) ⊎ Stopped r

stays_within : (ts : Tokens) (p q u u' : ℕ) (r : Step) → Stays q u' r → p < q → q ≤ length ts → u ≤ u' → u' + p ≤ u + q → Within 1 ts p u r
stays_within ts p q u u' r (inl e) a b c d = subst (Within 1 ts p u) (sym e) (omega arith, b, c, d)
stays_within ts p q u u' r (inr s) a b c d = within_stopped 1 ts p u r s

-- A term applied to the terms behind it.
module _ (ts : Tokens) (p : ℕ) (out before : Rows) (u u' n : ℕ) (r : Step) (out' : Rows) (h : Applying ts p out u u' n r out') where
  applies : (t : Source one) (done : List (Source one)) → take u' out ≡ before ++ (rows_of t ++ rows_of_all rows_of done) → length before ≡ u → u < u' → n ≡ length done
      → (shown r out' ≡ told rows_of p before (applied (line_of (last_line ts) (drop p ts)) t done)) × Stays p u' r
  unfolding rows_of rows_of_all
  applies t [] w long low c =
      let (e, f) = h.none c in
      (rw (e, f) (ap₂ on (sym (add-zero p)) (w ∙ ap (λ z. before ++ z) (append-nil (rows_of t)))), inl e)
  applies (name (place s l)) (a ∷ done) w long low c =
      let g : Rooted out before u u' (row name_kind (place s l) 0) (rows_of_all rows_of (a ∷ done)) = record { wrote = w; long = long; low = low } in
      let (e, f) = h.name (omega arith) (root_kind g) in (
        rw (e, f) (ap₂ on (sym (add-zero p)) (root_grown g n
            ∙ ap₂ (λ m z. before ++ ((application_kind ∷ s ∷ l ∷ m ∷ []) ∷ z)) (c ∙ sym (count_all (a ∷ done))) (sym (rows_all (a ∷ done))))),
        inl e,
      )
  applies (numeral (place s l) v) (a ∷ done) w long low c =
      let g : Rooted out before u u' (row numeral_kind (place s l) (min v 4294967295)) (rows_of_all rows_of (a ∷ done)) = record { wrote = w; long = long; low = low } in
      let e = h.other (omega arith) (λ z. let k = root_kind g in omega arith) in
      (rw e refl, inr (rw e tt))
  applies (metavariable (place s l)) (a ∷ done) w long low c =
      let g : Rooted out before u u' (row metavariable_kind (place s l) 0) (rows_of_all rows_of (a ∷ done)) = record { wrote = w; long = long; low = low } in
      let e = h.other (omega arith) (λ z. let k = root_kind g in omega arith) in
      (rw e refl, inr (rw e tt))
  applies (application (place s l) us) (a ∷ done) w long low c =
      let g : Rooted out before u u' (row application_kind (place s l) (count us)) (rows_of us ++ rows_of_all rows_of (a ∷ done)) = record { wrote = w; long = long; low = low } in
      let e = h.other (omega arith) (λ z. let k = root_kind g in omega arith) in
      (rw e refl, inr (rw e tt))

-- A term with one argument more.
module _ (ts : Tokens) (p : ℕ) (out before : Rows) (u u' : ℕ) (r : Step) (out' : Rows) (h : Equating ts p out u u' r out') where
  equates : (t a : Source one) → take u' out ≡ before ++ (rows_of t ++ rows_of a) → length before ≡ u → u < u'
      → (shown r out' ≡ told rows_of p before (equated (line_of (last_line ts) (drop p ts)) t a)) × Stays p u' r
  unfolding rows_of count
  equates (name (place s l)) a w long low =
      let g : Rooted out before u u' (row name_kind (place s l) 0) (rows_of a) = record { wrote = w; long = long; low = low } in
      let (e, f) = h.name (root_kind g) in
      (rw (e, f) (ap₂ on (sym (add-zero p)) (root_grown g 1 ∙ ap (λ z. before ++ ((application_kind ∷ s ∷ l ∷ 1 ∷ []) ∷ z)) (sym (append-nil (rows_of a))))), inl e)
  equates (application (place s l) us) a w long low =
      let g : Rooted out before u u' (row application_kind (place s l) (count us)) (rows_of us ++ rows_of a) = record { wrote = w; long = long; low = low } in
      let (e, f) = h.more (root_kind g) in (
        rw (e, f) (ap₂ on (sym (add-zero p)) (root_grown g (get_or (get_or out u []) 3 0 + 1)
            ∙ ap₂ (λ m z. before ++ ((application_kind ∷ s ∷ l ∷ m ∷ []) ∷ z)) (ap (λ m. m + 1) (root_count g) ∙ sym (count_extend us a)) (sym (rows_extend us a)))),
        inl e,
      )
  equates (numeral (place s l) v) a w long low =
      let g : Rooted out before u u' (row numeral_kind (place s l) (min v 4294967295)) (rows_of a) = record { wrote = w; long = long; low = low } in
      let k = root_kind g in
      let e = h.other (λ z. omega arith) (λ z. omega arith) in
      (rw e refl, inr (rw e tt))
  equates (metavariable (place s l)) a w long low =
      let g : Rooted out before u u' (row metavariable_kind (place s l) 0) (rows_of a) = record { wrote = w; long = long; low = low } in
      let k = root_kind g in
      let e = h.other (λ z. omega arith) (λ z. omega arith) in
      (rw e refl, inr (rw e tt))

-- Each term has a row at least.
rows_some : (t : Source one) → 0 < length (rows_of t)
unfolding rows_of
rows_some (numeral p v) = omega arith
rows_some (metavariable p) = omega arith
rows_some (name p) = omega arith
rows_some (application p us) = omega arith

rows_more : (k : ℕ) (out before : Rows) (t : Source one) → take k out ≡ before ++ rows_of t → length before < k
rows_more k out before t w =
    let a = length-take k out in let b : length (take k out) ≡ length before + length (rows_of t) = ap length w ∙ length-append before (rows_of t) in let c = rows_some t in omega arith

count_rows : (us : Source many) → count us ≤ length (rows_of us)
unfolding rows_of count
count_rows none = omega arith
count_rows (more t us) = let e = count_rows us in let f = rows_some t in let g = length-append (rows_of t) (rows_of us) in omega arith

-- The root's row, where it has arguments, has fewer of them than there are rows.
pub few_arguments : (t : Source one) (out before rest : Rows) (u u' : ℕ) → take u' out ≡ before ++ (rows_of t ++ rest) → length before ≡ u → u < u' → u' ≤ length out
    → kind_at out u ≡ application_kind → get_or (get_or out u []) 3 0 < u' - u
unfolding rows_of
few_arguments (name (place s l)) out before rest u u' w long low h k =
    let g : Rooted out before u u' (row name_kind (place s l) 0) rest = record { wrote = w; long = long; low = low } in let e = root_kind g in absurd (omega arith)
few_arguments (numeral (place s l) v) out before rest u u' w long low h k =
    let g : Rooted out before u u' (row numeral_kind (place s l) (min v 4294967295)) rest = record { wrote = w; long = long; low = low } in let e = root_kind g in absurd (omega arith)
few_arguments (metavariable (place s l)) out before rest u u' w long low h k =
    let g : Rooted out before u u' (row metavariable_kind (place s l) 0) rest = record { wrote = w; long = long; low = low } in let e = root_kind g in absurd (omega arith)
few_arguments (application (place s l) us) out before rest u u' w long low h k =
    let g : Rooted out before u u' (row application_kind (place s l) (count us)) (rows_of us ++ rest) = record { wrote = w; long = long; low = low } in
    let e = root_count g in
    let c = count_rows us in
    let m : u' ≡ length before + suc (length (rows_of us) + length rest) = sym (length-take-le u' out h) ∙ ap length w ∙ length-append before _ ∙ ap (λ z. length before + suc z) (length-append (rows_of us) rest) in
    omega arith

module _ (text : List ℕ) (ts : Tokens) (left : ℕ) where
  abbrev pub atom_at : Tokens → Parsed (Source one)
  atom_at = atom_of text (last_line ts) (inside text ts left)

  abbrev pub app_at : Tokens → Parsed (Source one)
  app_at = app_of text (last_line ts) (inside text ts left)

  abbrev pub term_at : Tokens → Parsed (Source one)
  term_at = term_of text (last_line ts) (inside text ts left)

  -- what comes after the first atom
  abbrev arguments : Source one → Tokens → Parsed (Source one)
  arguments t us = follow (repeat atom_at us 0 0 []) us (λ args vs. applied (line_of (last_line ts) vs) t args)

  abbrev pub head_at : ℕ → Parsed (Source one)
  head_at p = required TermExpected (line_of (last_line ts) (drop p ts)) (atom_at (drop p ts))

  app_is : (p : ℕ) → app_at (drop p ts) ≡ follow (head_at p) (drop p ts) arguments
  unfolding app_of
  app_is p = refl

  pub firm_app : (us : Tokens) → Firm (app_at us)
  firm_app us = app_firm text (last_line ts) (inside text ts left) us

  -- The ways out of `app`: no first atom,
  module _ {p u : ℕ} {before : Rows} (room : Room ts p u before) {r : Step} {out : Rows} (h : Answers 1 rows_of (head_at p) ts p u before r out) where
    pub app_stopped : Stopped r → Answers 1 rows_of (app_at (drop p ts)) ts p u before r out
    app_stopped s = firmly 1 rows_of (app_at (drop p ts)) ts p u before r out (firm_app (drop p ts))
        (passed h s rows_of (drop p ts) arguments p (take u before) out ∙ sym (ap (told rows_of p (take u before)) (app_is p))) (within_stopped 1 ts p u r s)

    -- and then, after a first one,
    module _ {q k i : ℕ} (e : r ≡ At q k i) {p' u' n : ℕ} {out₁ : Rows} (l : Looped atom_at rows_of ts q k 0 out p' u' n out₁) {s : Step} {out₂ : Rows} (a : Answers 1 rows_of (atom_at (drop p' ts)) ts p' u' out₁ s out₂) where
      -- the rest decides
      rest_is : (x : Parsed (List (Source one))) → repeat atom_at (drop p' ts) 0 (p' - q) l.new ≡ x
          → told rows_of p (take u before) (app_at (drop p ts)) ≡ told rows_of q (take u before) (follow x (drop q ts) (λ args vs. applied (line_of (last_line ts) vs) (got h e).item args))
      rest_is x f = ap (told rows_of p (take u before)) (app_is p) ∙ goes_on h e rows_of arguments (take u before)
          ∙ ap (λ y. told rows_of q (take u before) (follow y (drop q ts) (λ args vs. applied (line_of (last_line ts) vs) (got h e).item args))) (l.same [] ∙ f)

      -- a refused atom,
      pub app_refused : {refusal : Refusal} {line : ℕ} → s ≡ Refused refusal line → {out₃ : Rows} → Answers 1 rows_of (app_at (drop p ts)) ts p u before (Refused refusal line) out₃
      app_refused {refusal} {line} f {out₃} = firmly 1 rows_of (app_at (drop p ts)) ts p u before (Refused refusal line) out₃ (firm_app (drop p ts))
          (sym (rest_is (refused refusal line) (repeat_refused atom_at (drop p' ts) (p' - q) l.new (is_refused_lem a f)))) tt

      -- or no more atoms
      pub app_applied : s ≡ Absent → {t : Step} {out₃ : Rows} → Applying ts p' out₂ u u' n t out₃ → Answers 1 rows_of (app_at (drop p ts)) ts p u before t out₃
      app_applied f {t} {out₃} g =
          let gh = got h e in
          let m = moved h e in
          let lent = room.lent in let below = room.below in
          let here = room.here in
          let lfrom = l.from in let lto = l.to in let lab = l.above in let lfits = l.fits in
          let long : length (take u before) ≡ u = length-take-le u before (omega arith) in
          let w : take u' out₂ ≡ take u before ++ (rows_of gh.item ++ rows_of_all rows_of l.new) =
          ap (take u') (a.still f) ∙ l.wrote ∙ ap (λ z. z ++ rows_of_all rows_of l.new) gh.written ∙ append_assoc (take u before) _ _ in
          let low : u < u' = let z = rows_more k out (take u before) gh.item gh.written in omega arith in
          let (is, stays) = applies ts p' out₂ (take u before) u u' n t out₃ g gh.item l.new w long low (let ct = l.counted in omega arith) in
          let d : q + (p' - q) ≡ p' = omega arith in
          firmly 1 rows_of (app_at (drop p ts)) ts p u before t out₃ (firm_app (drop p ts))
          (is ∙ sym (rest_is (parsed l.new (p' - q)) (repeat_end atom_at (drop p' ts) (p' - q) l.new (is_absent a f))
          ∙ told_plus rows_of q (p' - q) (take u before) (applied (line_of (last_line ts) (drop (p' - q) (drop q ts))) gh.item l.new)
          ∙ ap₂ (λ i us. told rows_of i (take u before) (applied (line_of (last_line ts) us) gh.item l.new)) d (drop-drop (p' - q) q ts ∙ ap (λ i. drop i ts) d)))
          (stays_within ts p p' u u' t stays (omega (arith, m)) lto (omega (arith, m)) (omega (arith, m)))

  -- What `app` has read from place p and u rows on: a first atom and others behind it, n in all;
  pub record Some (p u : ℕ) (before : Rows) (p' u' n : ℕ) (out : Rows) : Type 0 where
    pub first : Step
    pub after : Rows
    pub head : Answers 1 rows_of (head_at p) ts p u before first after
    pub next : ℕ
    pub rows : ℕ
    pub items : ℕ
    pub went : first ≡ At next rows items
    pub loop : Looped atom_at rows_of ts next rows 1 after p' u' n out
    pub long : length after ≡ length before

  -- or nothing yet.
  abbrev pub Atoms : ℕ → ℕ → Rows → ℕ → ℕ → ℕ → Rows → Type 0
  Atoms p u before p' u' n out = ((p' ≡ p) × (u' ≡ u) × (n ≡ 0) × (out ≡ before)) ⊎ Some p u before p' u' n out

  pub atoms_start : {p u : ℕ} {before : Rows} → Atoms p u before p u 0 before
  atoms_start = inl (refl, refl, refl, refl)

  -- The others alone.
  others : {q k : ℕ} {out : Rows} {p' u' n : ℕ} {out₁ : Rows} → Looped atom_at rows_of ts q k 1 out p' u' n out₁ → Looped atom_at rows_of ts q k 0 out p' u' (n - 1) out₁
  others l =
      let c = l.counted in let f = l.few in
      record {
        new = l.new;
        wrote = l.wrote;
        same = l.same;
        counted = omega arith;
        from = l.from;
        to = l.to;
        above = l.above;
        fits = l.fits;
        few = omega arith;
        long = l.long;
      }

  module _ {p u : ℕ} {before : Rows} (room : Room ts p u before) {p' u' n : ℕ} {out : Rows} where
    pub atoms_room : Atoms p u before p' u' n out → Room ts p' u' out
    atoms_room (inl (a, b, c, d)) = rw (a, b, d) room
    atoms_room (inr s) = let m = moved s.head s.went in let l = s.loop in let f = l.fits in
        room_on room p' u' out l.to (omega (arith, m)) (l.long ∙ s.long)

    pub atoms_from : Atoms p u before p' u' n out → p ≤ p'
    atoms_from (inl (a, b, c, d)) = omega arith
    atoms_from (inr s) = let m = moved s.head s.went in let f = s.loop.from in omega (arith, m)

    pub atoms_past : Atoms p u before p' u' n out → (n ≡ 0 → ⊥) → p < p'
    atoms_past (inl (a, b, c, d)) z = absurd (z c)
    atoms_past (inr s) z = let m = moved s.head s.went in let f = s.loop.from in omega (arith, m)

    pub atoms_few : Atoms p u before p' u' n out → n ≤ p'
    atoms_few (inl (a, b, c, d)) = omega arith
    atoms_few (inr s) = let m = moved s.head s.went in let f = s.loop.few in omega (arith, m)

    -- The next atom is read, is not there, or is refused.
    module _ {r : Step} {out' : Rows} (h : Answers 1 rows_of (atom_at (drop p' ts)) ts p' u' out r out') where
      start : (p' ≡ p) × (u' ≡ u) × (n ≡ 0) × (out ≡ before) → Answers 1 rows_of (head_at p) ts p u before (required_step (line_of (last_line ts) (drop p ts)) r) out'
      start (a, b, c, d) =
          let g : Answers 1 rows_of (atom_at (drop p ts)) ts p u before r out' = rw (a, b, d) at h in
          required_answers g (line_of (last_line ts) (drop p ts)) (required_step (line_of (last_line ts) (drop p ts)) r) refl

      pub atoms_turn : Atoms p u before p' u' n out → {q k i : ℕ} → r ≡ At q k i → length out' ≡ length out → Atoms p u before q k (n + 1) out'
      atoms_turn (inl (a, b, c, d)) {q} {k} {i} e len =
          let g = start (a, b, c, d) in
          let w : required_step (line_of (last_line ts) (drop p ts)) r ≡ At q k i = ap (required_step (line_of (last_line ts) (drop p ts))) e in
          inr record {
            first = required_step (line_of (last_line ts) (drop p ts)) r;
            after = out';
            head = g;
            next = q;
            rows = k;
            items = i;
            went = w;
            loop = (let z : n + 1 ≡ 1 = omega arith in rw z (loop_start atom_at rows_of ts q k 1 out' (moved g w).1));
            long = len ∙ ap length d;
          }
      atoms_turn (inr s) e len =
          inr record {
            first = s.first;
            after = s.after;
            head = s.head;
            next = s.next;
            rows = s.rows;
            items = s.items;
            went = s.went;
            loop = loop_turn atom_at rows_of ts s.loop h e len;
            long = s.long;
          }

      pub atoms_none : Atoms p u before p' u' n out → r ≡ Absent → n ≡ 0 → {line : ℕ} → line ≡ line_of (last_line ts) (drop p' ts)
          → Answers 1 rows_of (app_at (drop p ts)) ts p u before (Refused TermExpected line) out'
      atoms_none (inl (a, b, c, d)) e z {line} f =
          let l : line_of (last_line ts) (drop p ts) ≡ line = sym (f ∙ ap (λ i. line_of (last_line ts) (drop i ts)) a) in
          let w : required_step (line_of (last_line ts) (drop p ts)) r ≡ Refused TermExpected line = ap (required_step (line_of (last_line ts) (drop p ts))) e ∙ ap (Refused TermExpected) l in
          let g : Answers 1 rows_of (head_at p) ts p u before (Refused TermExpected line) out' = rw w at start (a, b, c, d) in
          app_stopped room g tt
      atoms_none (inr s) e z f = let c = s.loop.counted in absurd (omega arith)

      pub atoms_applied : Atoms p u before p' u' n out → r ≡ Absent → (n ≡ 0 → ⊥) → {t : Step} {out₃ : Rows} → Applying ts p' out' u u' (n - 1) t out₃
          → Answers 1 rows_of (app_at (drop p ts)) ts p u before t out₃
      atoms_applied (inl (a, b, c, d)) e z g = absurd (z c)
      atoms_applied (inr s) e z g = app_applied room s.head s.went (others s.loop) h e g

      pub atoms_refused : Atoms p u before p' u' n out → {refusal : Refusal} {line : ℕ} → r ≡ Refused refusal line
          → Answers 1 rows_of (app_at (drop p ts)) ts p u before (Refused refusal line) out'
      atoms_refused (inl (a, b, c, d)) {refusal} {line} e =
          let w : required_step (line_of (last_line ts) (drop p ts)) r ≡ Refused refusal line = ap (required_step (line_of (last_line ts) (drop p ts))) e in
          let g : Answers 1 rows_of (head_at p) ts p u before (Refused refusal line) out' = rw w at start (a, b, c, d) in
          app_stopped room g tt
      atoms_refused (inr s) e = app_refused room s.head s.went (others s.loop) h e

  -- The ways out of `term`: no first application,
  abbrev equation : Source one → Tokens → Parsed (Source one)
  equation t us = when (eqb (kind_of us) 23) (λ _. plus 1 (follow (app_at (drop 1 us)) (drop 1 us) (λ a vs. equated (line_of (last_line ts) vs) t a))) (λ _. parsed t 0)

  term_is : (p : ℕ) → term_at (drop p ts) ≡ follow (app_at (drop p ts)) (drop p ts) equation
  unfolding term_of
  term_is p = refl

  pub firm_term : (us : Tokens) → Firm (term_at us)
  firm_term us = term_firm text (last_line ts) (inside text ts left) us

  module _ {p u : ℕ} {before : Rows} (room : Room ts p u before) {r : Step} {out : Rows} (h : Answers 1 rows_of (app_at (drop p ts)) ts p u before r out) where
    pub term_stopped : Stopped r → Answers 1 rows_of (term_at (drop p ts)) ts p u before r out
    term_stopped s = firmly 1 rows_of (term_at (drop p ts)) ts p u before r out (firm_term (drop p ts))
        (passed h s rows_of (drop p ts) equation p (take u before) out ∙ sym (ap (told rows_of p (take u before)) (term_is p))) (within_stopped 1 ts p u r s)

    module _ {q k i : ℕ} (e : r ≡ At q k i) where
      then_is : told rows_of p (take u before) (term_at (drop p ts)) ≡ told rows_of q (take u before) (equation (got h e).item (drop q ts))
      then_is = ap (told rows_of p (take u before)) (term_is p) ∙ goes_on h e rows_of equation (take u before)

      -- no sign behind it,
      pub term_plain : kind_of (drop q ts) ≢ 23 → Answers 1 rows_of (term_at (drop p ts)) ts p u before (At q k i) out
      term_plain n = firmly 1 rows_of (term_at (drop p ts)) ts p u before (At q k i) out (firm_term (drop p ts))
          (ap₂ on (sym (add-zero q)) (got h e).written ∙ sym (then_is ∙ ap (told rows_of q (take u before)) (not_equals n))) (moved h e)
        where
          not_equals : kind_of (drop q ts) ≢ 23 → equation (got h e).item (drop q ts) ≡ parsed (got h e).item 0
          not_equals m = simp (ne_eqb _ _ m)

      -- or one, and then
      module _ (f : kind_of (drop q ts) ≡ 23) {s : Step} {out₁ : Rows} (b : Answers 1 rows_of (app_at (drop (q + 1) ts)) ts (q + 1) k out s out₁) where
        abbrev result : Source one → Tokens → Parsed (Source one)
        result a vs = equated (line_of (last_line ts) vs) (got h e).item a

        equals_is : told rows_of p (take u before) (term_at (drop p ts)) ≡ told rows_of (q + 1) (take u before) (follow (app_at (drop (q + 1) ts)) (drop (q + 1) ts) result)
        equals_is = then_is ∙ ap (told rows_of q (take u before)) equals ∙ told_plus rows_of q 1 (take u before) (follow (app_at (drop 1 (drop q ts))) (drop 1 (drop q ts)) result)
            ∙ ap (λ us. told rows_of (q + 1) (take u before) (follow (app_at us) us result)) (drop-drop 1 q ts)
          where
            equals : equation (got h e).item (drop q ts) ≡ plus 1 (follow (app_at (drop 1 (drop q ts))) (drop 1 (drop q ts)) result)
            equals = simp (eq-eqb _ _ f)

        -- no second application,
        pub second_stopped : Stopped s → Answers 1 rows_of (term_at (drop p ts)) ts p u before s out₁
        second_stopped st = firmly 1 rows_of (term_at (drop p ts)) ts p u before s out₁ (firm_term (drop p ts))
            (passed b st rows_of (drop (q + 1) ts) result (q + 1) (take u before) out₁ ∙ sym equals_is) (within_stopped 1 ts p u s st)

        module _ {p' u' j : ℕ} (g : s ≡ At p' u' j) where
          wrote : take u' out₁ ≡ take u before ++ (rows_of (got h e).item ++ rows_of (got b g).item)
          wrote = (got b g).written ∙ ap (λ z. z ++ rows_of (got b g).item) (got h e).written ∙ append_assoc (take u before) _ _

          long : length (take u before) ≡ u
          long = let lent = room.lent in let below = room.below in let here = room.here in length-take-le u before (omega arith)

          low : u < u'
          low = let z = rows_more k out (take u before) (got h e).item (got h e).written in let l = long in omega (arith, moved b g)

          -- the root's row has room for one argument more
          pub root_room : u' ≤ length out₁ → kind_at out₁ u ≡ application_kind → get_or (get_or out₁ u []) 3 0 < 65536
          root_room d c =
              let z = few_arguments (got h e).item out₁ (take u before) (rows_of (got b g).item) u u' wrote long low d c in
              let small = room.small in omega (arith, moved h e, moved b g)

          -- or one
          pub term_equated : {t : Step} {out₂ : Rows} → Equating ts p' out₁ u u' t out₂ → Answers 1 rows_of (term_at (drop p ts)) ts p u before t out₂
          term_equated {t} {out₂} i =
              let (is, stays) = equates ts p' out₁ (take u before) u u' t out₂ i (got h e).item (got b g).item wrote long low in
              firmly 1 rows_of (term_at (drop p ts)) ts p u before t out₂ (firm_term (drop p ts))
              (is ∙ sym (equals_is ∙ goes_on b g rows_of result (take u before)))
              (stays_within ts p p' u u' t stays (omega (arith, moved h e, moved b g)) (moved b g).1 (omega (arith, moved h e, moved b g)) (omega (arith, moved h e, moved b g)))

-- Laws of lists of items, and of items behind a sign.
use mathlib.Core.Path.{◌≡◌, refl, sym, ap, ap₂, ◌∙◌, subst}
use mathlib.Core.Logic.{◌≢◌}
use mathlib.Core.List.{List, [], ◌∷◌, ◌++◌, append_assoc, append-nil}
use Prim.Native.Nat.{ℕ, suc, ◌+◌, ◌-◌, ◌≤◌, ◌<◌}
use native.Mathlib.Omega.{arith}
use borrow.Author.Tests.{eq-eqb, ne_eqb}
use lib.Dec.{eqb}
use lib.ListN.{length, take, drop, set}
use lib.Seq.{drop-drop}
use Rattle.refusals.specs.declared.Refusal.{Refusal}
use Rattle.std.specs.Prelude.{Result, Err}
use Rattle.refusals.specs.declared.Rejection.{Rejection}
use Rattle.term_parser.specs.declared.Read.{Read}
use Rattle.term_parser.specs.Steps.{Step, step}
use Rattle.term_parser.specs.Steps.Step.{At, Absent, Refused}
use Rattle.term_parser.specs.Parsing.{Tokens, token_of, kind_of, place_of, line_of, last_line, sign_of, Parsed, parsed, absent, refused, plus, follow, behind, repeat}
use Rattle.words.specs.Names.{name_kind}
use Rattle.refusals.specs.declared.Refusal.TheVariants.{NameExpected}
use Rattle.term_parser.specs.declared.Token.{Token}
use Rattle.term_parser.specs.Grammar.{name_of}
use Rattle.term_parser.specs.Lists.{separated, unless, title_of, names_of, patterns_of}
use Rattle.term_parser.proofs.TokenLaws.{token_there}
use Rattle.term_parser.proofs.TermLaws.{leaf, closes, app_at, firm_app}
use Rattle.term_parser.specs.Rows.{Rows, rows_of, rows_of_all, name_rows}
use Rattle.term_parser.specs.Source.{Source, one}
use Rattle.term_parser.specs.Promises.{on, no, shown, told, Within, Answers, Lists, Room, Signed}
use Rattle.term_parser.specs.Firmness.{Firm, firm_follow, firm_repeat, firm_when, firm_sign, firm_name, firm_parsed}
use Rattle.term_parser.proofs.Readers.{no_path, firmly, Stopped, got, moved, goes_on, passed, within_stopped, is_absent, is_refused_lem, told_plus, Looped, onto, repeat_onto, repeat_end, repeat_refused}

-- An item behind a sign.
module _ {A : Type 0} (kind : ℕ) (item : Tokens → Parsed A) (ts : Tokens) (p : ℕ) where
  pub behind_is : kind_of (drop p ts) ≡ kind → behind kind item (drop p ts) ≡ plus 1 (item (drop (p + 1) ts))
  behind_is e = go ∙ ap (λ us. plus 1 (item us)) (drop-drop 1 p ts)
    where
      go : behind kind item (drop p ts) ≡ plus 1 (item (drop 1 (drop p ts)))
      go = simp (eq-eqb _ _ e)

  pub behind_not : kind_of (drop p ts) ≢ kind → behind kind item (drop p ts) ≡ absent
  behind_not e = simp (ne_eqb _ _ e)

  pub behind_answers : {rows : A → Rows} {d u : ℕ} {before : Rows} {r : Step} {out : Rows} → kind_of (drop p ts) ≡ kind → Answers d rows (item (drop (p + 1) ts)) ts (p + 1) u before r out
      → Answers 1 rows (behind kind item (drop p ts)) ts p u before r out
  behind_answers {rows} {d} {u} {before} {r} {out} e h = record {
    is = h.is ∙ sym (ap (told rows p (take u before)) (behind_is e) ∙ told_plus rows p 1 (take u before) (item (drop (p + 1) ts)));
    within = nearer r h.within;
    still = h.still;
  }
    where
      nearer : (s : Step) → Within d ts (p + 1) u s → Within 1 ts p u s
      nearer (At next used n) (a, b, c, f) = (omega arith, b, c, omega arith)
      nearer Absent w = tt
      nearer (Refused q l) w = tt

-- An item, unless a sign stands there.
module _ {A : Type 0} (kind : ℕ) (item : Tokens → Parsed A) (us : Tokens) where
  pub unless_not : kind_of us ≢ kind → unless kind item us ≡ item us
  unless_not e = simp (ne_eqb _ _ e)

  pub unless_answers : {rows : A → Rows} {ts : Tokens} {p u : ℕ} {before : Rows} {r : Step} {out : Rows} → kind_of us ≢ kind → Answers 1 rows (item us) ts p u before r out → Answers 1 rows (unless kind item us) ts p u before r out
  unless_answers {rows} {ts} {p} {u} {before} {r} {out} e h = subst (λ (x : Parsed A). Answers 1 rows x ts p u before r out) (sym (unless_not e)) h

-- Names.
module _ (ts : Tokens) {p u : ℕ} {out : Rows} (room : Room ts p u out) {t : Token} (te : t ≡ token_of (drop p ts)) where
  kind_of_lem : {k : ℕ} → t.kind ≡ k → kind_of (drop p ts) ≡ k
  kind_of_lem e = sym (ap (λ x. x.kind) te) ∙ e

  pub name_there : t.kind ≡ name_kind → p < length ts
  name_there k = token_there ts p (let e = kind_of_lem k in omega arith)

  pub name_is : kind_of (drop p ts) ≡ name_kind → name_of (last_line ts) (drop p ts) ≡ parsed (place_of (drop p ts)) 1
  name_is e = simp (eq-eqb _ _ e)

  pub name_not : kind_of (drop p ts) ≢ name_kind → name_of (last_line ts) (drop p ts) ≡ refused NameExpected (line_of (last_line ts) (drop p ts))
  name_not e = simp (ne_eqb _ _ e)

  pub name_answers : {r : Step} {out' : Rows} → t.kind ≡ name_kind → r ≡ At (p + 1) (u + 1) 1 → out' ≡ set out u (name_kind ∷ t.start ∷ t.length ∷ 0 ∷ [])
      → Answers 1 name_rows (name_of (last_line ts) (drop p ts)) ts p u out r out'
  name_answers k e w = leaf name_rows room (name_there k) (name_is (kind_of_lem k)) (ap (λ x. (name_kind ∷ x.start ∷ x.length ∷ 0 ∷ []) ∷ []) (sym te)) e w

  pub name_refused : {l : ℕ} → t.kind ≢ name_kind → l ≡ line_of (last_line ts) (drop p ts) → Answers 1 name_rows (name_of (last_line ts) (drop p ts)) ts p u out (Refused NameExpected l) out
  name_refused {l} n e = firmly 1 name_rows (name_of (last_line ts) (drop p ts)) ts p u out (Refused NameExpected l) out (firm_name (last_line ts) (drop p ts))
      (ap (no NameExpected) e ∙ sym (ap (told name_rows p (take u out)) (name_not (λ z. n (ap (λ x. x.kind) te ∙ z))))) tt

-- An item and then a sign.
module _ {A : Type 0} {d : ℕ} {rows : A → Rows} {x : Parsed A} {ts : Tokens} {p u : ℕ} {before : Rows} {r : Step} {out : Rows} (h : Answers d rows x ts p u before r out) (last kind : ℕ) where
  abbrev signing : A → Tokens → Parsed A
  signing a us = follow (sign_of last kind us) us (λ _ vs. parsed a 0)

  abbrev pub then_sign : Parsed A
  then_sign = follow x (drop p ts) signing

  pub firm_signed : Firm x → Firm then_sign
  firm_signed f = firm_follow x (drop p ts) signing f (λ a us. firm_follow (sign_of last kind us) us (λ _ vs. parsed a 0) (firm_sign last kind us) (λ _ vs. firm_parsed a 0))

  pub before_sign : Firm x → Stopped r → Answers (d + 1) rows then_sign ts p u before r out
  before_sign f s = firmly (d + 1) rows then_sign ts p u before r out (firm_signed f) (passed h s rows (drop p ts) signing p (take u before) out) (within_stopped (d + 1) ts p u r s)

  pub then_sign_lem : Firm x → {q k i : ℕ} → r ≡ At q k i → {s : Step} → Signed (sign_of last kind (drop q ts)) ts q k s → Answers (d + 1) rows then_sign ts p u before s out
  then_sign_lem f {q} {k} e {s} g =
      firmly (d + 1) rows then_sign ts p u before s out (firm_signed f)
      (closes rows (got h e).item q k (drop q ts) (take u before) out (sign_of last kind (drop q ts)) s g.is (got h e).written ∙ sym (goes_on h e rows signing (take u before)))
      (further s g.within)
    where
      further : (z : Step) → Within 1 ts q k z → Within (d + 1) ts p u z
      further (At next used n) (a, b, c, o) = (omega (arith, moved h e), b, omega (arith, moved h e), omega (arith, moved h e))
      further Absent w = tt
      further (Refused y l) w = tt

pub firm_title : (last : ℕ) (us : Tokens) → Firm (title_of last us)
firm_title last us = firm_follow (name_of last us) us (λ n vs. follow (sign_of last 20 vs) vs (λ _ ws. parsed n 0)) (firm_name last us)
    (λ n vs. firm_follow (sign_of last 20 vs) vs (λ _ ws. parsed n 0) (firm_sign last 20 vs) (λ _ ws. firm_parsed n 0))

-- A step that read one item more.
abbrev pub one_more_item : Step → Step
one_more_item (At next used n) = At next used (n + 1)
one_more_item Absent = Absent
one_more_item (Refused v l) = Refused v l

shown_more : (s : Step) (out : Rows) → shown (one_more_item s) out ≡ shown s out
shown_more (At next used n) out = refl
shown_more Absent out = refl
shown_more (Refused v l) out = refl

-- a refusal reads no item more
pub handed_more : (r : Result Read Rejection) {f : Rejection} → r ≡ Err f → step r ≡ one_more_item (step r)
handed_more r e = rw e refl

told_onto : {A : Type 0} (rows : A → Rows) (q : ℕ) (before : Rows) (a : A) (y : Parsed (List A)) → told (rows_of_all rows) q before (onto (a ∷ []) y) ≡ told (rows_of_all rows) q (before ++ rows a) y
unfolding rows_of_all
told_onto rows q before a (parsed l n) = ap (on (q + n)) (sym (append_assoc before (rows a) (rows_of_all rows l)))
told_onto rows q before a absent = refl
told_onto rows q before a (refused v l) = refl

more_items : {A : Type 0} (a : A) (k : ℕ) (y : Parsed (List A)) {m : ℕ} → ((items : List A) (taken : ℕ) → y ≡ parsed items taken → m ≡ length items)
    → {items : List A} {taken : ℕ} → plus k (onto (a ∷ []) y) ≡ parsed items taken → m + 1 ≡ length items
more_items a k (parsed l n) {m} c {items} e = let v : items ≡ a ∷ l = cc in let w : length items ≡ suc (length l) = ap length v in let d = c l n refl in omega arith
more_items a k absent c e = no_path cc
more_items a k (refused v l) c e = no_path cc

-- Items as long as there are some.
module _ {A : Type 0} (item : Tokens → Parsed A) (rows : A → Rows) (ts : Tokens) where
  module _ {q k : ℕ} {out₀ : Rows} {p u n : ℕ} {out : Rows} (l : Looped item rows ts q k 0 out₀ p u n out) where
    pub list_end : item (drop p ts) ≡ absent → Lists 0 rows (repeat item (drop q ts) 0 0 []) ts q k out₀ (At p u n) out
    list_end e =
        let x : repeat item (drop q ts) 0 0 [] ≡ parsed l.new (p - q) = l.same [] ∙ repeat_end item (drop p ts) (p - q) l.new e in
        let f = l.from in
        let d : p ≡ q + (p - q) = omega arith in
        record {
          answers = firmly 0 (rows_of_all rows) (repeat item (drop q ts) 0 0 []) ts q k out₀ (At p u n) out (firm_repeat item (drop q ts) 0 0 [])
              (ap₂ on d l.wrote ∙ sym (ap (told (rows_of_all rows) q (take k out₀)) x))
              (omega arith, l.to, l.above, l.fits);
          counted = λ next used m g a i z. let c = l.counted in let w : m ≡ n = cc in let v : a ≡ l.new = cc in let o : length a ≡ length l.new = ap length v in omega arith;
        }

    module _ {r : Step} {out' : Rows} (h : Answers 1 rows (item (drop p ts)) ts p u out r out') where
      pub list_absent : r ≡ Absent → Lists 0 rows (repeat item (drop q ts) 0 0 []) ts q k out₀ (At p u n) out'
      list_absent e = subst (Lists 0 rows (repeat item (drop q ts) 0 0 []) ts q k out₀ (At p u n)) (sym (h.still e)) (list_end (is_absent h e))

      pub list_refused : {v : Refusal} {m : ℕ} → r ≡ Refused v m → Lists 0 rows (repeat item (drop q ts) 0 0 []) ts q k out₀ (Refused v m) out'
      list_refused {v} {m} e = record {
        answers = firmly 0 (rows_of_all rows) (repeat item (drop q ts) 0 0 []) ts q k out₀ (Refused v m) out' (firm_repeat item (drop q ts) 0 0 [])
            (sym (ap (told (rows_of_all rows) q (take k out₀)) (l.same [] ∙ repeat_refused item (drop p ts) (p - q) l.new (is_refused_lem h e)))) tt;
        counted = λ _ _ _ g. no_path cc;
      }

  -- A first one, and then the others.
  module _ (first : Tokens → Parsed A) where
    abbrev pub chain : Tokens → Parsed (List A)
    chain us = follow (first us) us (λ a vs. repeat item vs 0 0 (a ∷ []))

    module _ (firm : (us : Tokens) → Firm (first us)) where
      pub firm_chain : (us : Tokens) → Firm (chain us)
      firm_chain us = firm_follow (first us) us (λ a vs. repeat item vs 0 0 (a ∷ [])) (firm us) (λ a vs. firm_repeat item vs 0 0 (a ∷ []))

      module _ {p u : ℕ} {before : Rows} {r : Step} {out : Rows} (h : Answers 1 rows (first (drop p ts)) ts p u before r out) where
        pub chain_stopped : Stopped r → Lists 1 rows (chain (drop p ts)) ts p u before r out
        chain_stopped s = record {
          answers = firmly 1 (rows_of_all rows) (chain (drop p ts)) ts p u before r out (firm_chain (drop p ts))
              (passed h s (rows_of_all rows) (drop p ts) (λ a vs. repeat item vs 0 0 (a ∷ [])) p (take u before) out) (within_stopped 1 ts p u r s);
          counted = λ _ _ _ g. absurd (subst Stopped g s);
        }

        -- the others were read, or one was refused
        module _ {q k i : ℕ} (e : r ≡ At q k i) {s : Step} {out₁ : Rows} (l : Lists 0 rows (repeat item (drop q ts) 0 0 []) ts q k out s out₁) where
          abbrev others : Parsed (List A)
          others = repeat item (drop q ts) 0 0 []

          chain_is : told (rows_of_all rows) p (take u before) (chain (drop p ts)) ≡ told (rows_of_all rows) q (take k out) others
          chain_is = goes_on h e (rows_of_all rows) (λ a vs. repeat item vs 0 0 (a ∷ [])) (take u before)
              ∙ ap (told (rows_of_all rows) q (take u before)) (repeat_onto item (drop q ts) 0 0 ((got h e).item ∷ []) [])
              ∙ told_onto rows q (take u before) (got h e).item others
              ∙ ap (λ z. told (rows_of_all rows) q z others) (sym (got h e).written)

          pub chain_goes_on : Lists 1 rows (chain (drop p ts)) ts p u before (one_more_item s) out₁
          chain_goes_on = record {
            answers = firmly 1 (rows_of_all rows) (chain (drop p ts)) ts p u before (one_more_item s) out₁ (firm_chain (drop p ts))
                (shown_more s out₁ ∙ l.answers.is ∙ sym chain_is) (further s l.answers.within);
            counted = counts s l.counted;
          }
            where
              further : (z : Step) → Within 0 ts q k z → Within 1 ts p u (one_more_item z)
              further (At next used n) (a, b, c, d) = (omega (arith, moved h e), b, omega (arith, moved h e), omega (arith, moved h e))
              further Absent w = tt
              further (Refused v m) w = tt

              whole : chain (drop p ts) ≡ plus (got h e).taken (onto ((got h e).item ∷ []) others)
              whole =
                  ap (λ y. follow y (drop p ts) (λ b vs. repeat item vs 0 0 (b ∷ []))) (got h e).is
                  ∙ ap (λ us. plus (got h e).taken (repeat item us 0 0 ((got h e).item ∷ []))) (drop-drop (got h e).taken p ts ∙ ap (λ o. drop o ts) (sym (got h e).place))
                  ∙ ap (plus (got h e).taken) (repeat_onto item (drop q ts) 0 0 ((got h e).item ∷ []) [])

              counts : (z : Step) → ((next used n : ℕ) → z ≡ At next used n → (items : List A) (taken : ℕ) → others ≡ parsed items taken → n ≡ length items)
                  → (next used n : ℕ) → one_more_item z ≡ At next used n → (items : List A) (taken : ℕ) → chain (drop p ts) ≡ parsed items taken → n ≡ length items
              counts (At next used m) c next' used' n f items taken g = let w : n ≡ m + 1 = cc in w ∙ more_items (got h e).item (got h e).taken others (c next used m refl) (sym whole ∙ g)
              counts Absent c next used n f items taken g = no_path cc
              counts (Refused v m) c next used n f items taken g = no_path cc

pub firm_separated : {A : Type 0} (kind : ℕ) (item : Tokens → Parsed A) → ((us : Tokens) → Firm (item us)) → (us : Tokens) → Firm (separated kind item us)
firm_separated kind item f us = firm_follow (item us) us (λ a vs. repeat (behind kind item) vs 0 0 (a ∷ [])) (f us) (λ a vs. firm_repeat (behind kind item) vs 0 0 (a ∷ []))

pub firm_names : (last : ℕ) (us : Tokens) → Firm (names_of last us)
firm_names last us = firm_follow (name_of last us) us (λ a vs. repeat (unless 20 (name_of last)) vs 0 0 (a ∷ [])) (firm_name last us) (λ a vs. firm_repeat (unless 20 (name_of last)) vs 0 0 (a ∷ []))

-- Patterns.
module _ (text : List ℕ) (ts : Tokens) where
  abbrev last : ℕ
  last = last_line ts

  pub firm_patterns : (us : Tokens) → Firm (patterns_of text last us)
  firm_patterns us = firm_when (eqb (kind_of us) 16) (λ _. parsed [] 0) (λ _. separated 21 (app_at text ts 64) us) (firm_parsed [] 0) (firm_separated 21 (app_at text ts 64) (firm_app text ts 64) us)

  module _ {p u : ℕ} {before : Rows} where
    pub patterns_none : p ≤ length ts → kind_of (drop p ts) ≡ 16 → Lists 0 rows_of (patterns_of text last (drop p ts)) ts p u before (At p u 0) before
    unfolding rows_of_all
    patterns_none h e = record {
      answers = firmly 0 (rows_of_all rows_of) (patterns_of text last (drop p ts)) ts p u before (At p u 0) before (firm_patterns (drop p ts))
          (ap₂ on (let z : p ≡ p + 0 = omega arith in z) (sym (append-nil (take u before))) ∙ sym (ap (told (rows_of_all rows_of) p (take u before)) is)) (omega arith, h, omega arith, omega arith);
      counted = λ _ _ n g l m z. let a : n ≡ 0 = cc in let b : l ≡ [] = cc in let c : length l ≡ 0 = ap length b in omega arith;
    }
      where
        is : patterns_of text last (drop p ts) ≡ parsed [] 0
        is = simp (eq-eqb _ _ e)

    pub patterns_some : kind_of (drop p ts) ≢ 16 → {r : Step} {out : Rows} → Lists 1 rows_of (separated 21 (app_at text ts 64) (drop p ts)) ts p u before r out
        → Lists 0 rows_of (patterns_of text last (drop p ts)) ts p u before r out
    patterns_some e {r} {out} h = subst (λ (x : Parsed (List (Source one))). Lists 0 rows_of x ts p u before r out) (sym is)
        (record { answers = record { is = h.answers.is; within = less r h.answers.within; still = h.answers.still }; counted = h.counted })
      where
        is : patterns_of text last (drop p ts) ≡ separated 21 (app_at text ts 64) (drop p ts)
        is = simp (ne_eqb _ _ e)

        less : (s : Step) → Within 1 ts p u s → Within 0 ts p u s
        less (At next used n) (a, b, c, d) = (omega arith, b, c, d)
        less Absent w = tt
        less (Refused v l) w = tt

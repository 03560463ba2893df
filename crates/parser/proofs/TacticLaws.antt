-- The ways out of `tactic`.
use mathlib.Core.Path.{◌≡◌, refl, sym, ap, ap₂, ◌∙◌}
use mathlib.Core.Logic.{◌≢◌}
use mathlib.Core.List.{◌++◌, append-nil}
use Prim.Native.Nat.{ℕ, ◌+◌, ◌≤◌}
use native.Mathlib.Omega.{arith}
use borrow.Author.Tests.{eq-eqb, ne_eqb}
use lib.Dec.{eqb}
use mathlib.Core.Bool.{◌&&◌}
use lib.ListN.{length, take, drop}
use lib.Seq.{drop-drop}
use Rattle.refusals.specs.declared.Refusal.TheVariants.{ByForm}
use Rattle.term_parser.specs.Steps.{Step}
use Rattle.term_parser.specs.Steps.Step.{At, Absent, Refused}
use Rattle.term_parser.specs.Source.{Place}
use Rattle.parser.specs.Source.{Tactic, auto, induction}
use Rattle.term_parser.specs.Parsing.{Tokens, when, kind_of, line_of, last_line, Parsed, parsed, absent, refused, plus, follow}
use Rattle.term_parser.specs.Grammar.{name_of}
use Rattle.parser.specs.Declarations.{by_of, tactic_of}
use Rattle.term_parser.specs.Rows.{Rows, name_rows}
use Rattle.parser.specs.Rows.{tactic_rows}
use Rattle.term_parser.specs.Promises.{on, no, told, Within, Answers}
use Rattle.term_parser.specs.Firmness.{Firm, firm_plus, firm_parsed, firm_refused, firm_when, firm_follow, firm_name}
use Rattle.term_parser.proofs.TokenLaws.{token_there}
use Rattle.term_parser.proofs.Readers.{no_path, told_plus}

-- the name's rows are the tactic's
made_told : (q : ℕ) (before : Rows) (us : Tokens) (x : Parsed Place) → told tactic_rows q before (follow x us (λ y vs. parsed (induction y) 0)) ≡ told name_rows q before x
made_told q before us (parsed a n) = let e : q + (n + 0) ≡ q + n = omega arith in ap (λ i. on i (before ++ name_rows a)) e
made_told q before us absent = refl
made_told q before us (refused r l) = refl

nearer : (ts : Tokens) (p u : ℕ) (s : Step) → Within 1 ts (p + 3) u s → Within 0 ts p u s
nearer ts p u (At next used n) (a, b, c, d) = (omega arith, b, c, omega arith)
nearer ts p u Absent w = tt
nearer ts p u (Refused r l) w = tt

pub firm_tactic : (last : ℕ) (us : Tokens) → Firm (tactic_of last us)
firm_tactic last us =
    firm_when (eqb (kind_of us) 17) (λ _. plus 1 (by_of last (drop 1 us))) (λ _. parsed auto 0) (firm_plus 1 (by_of last (drop 1 us)) (firm_by (drop 1 us))) (firm_parsed auto 0)
  where
    firm_by : (vs : Tokens) → Firm (by_of last vs)
    firm_by vs =
        firm_when (eqb (kind_of vs) 7 && eqb (kind_of (drop 1 vs)) 8) (λ _. parsed auto 2)
        (λ _. when (eqb (kind_of vs) 7 && eqb (kind_of (drop 1 vs)) 9) (λ _. plus 2 (follow (name_of last (drop 2 vs)) (drop 2 vs) (λ x ws. parsed (induction x) 0))) (λ _. refused ByForm (line_of last vs)))
        (firm_parsed auto 2)
        (firm_when (eqb (kind_of vs) 7 && eqb (kind_of (drop 1 vs)) 9) (λ _. plus 2 (follow (name_of last (drop 2 vs)) (drop 2 vs) (λ x ws. parsed (induction x) 0))) (λ _. refused ByForm (line_of last vs))
        (firm_plus 2 (follow (name_of last (drop 2 vs)) (drop 2 vs) (λ x ws. parsed (induction x) 0))
        (firm_follow (name_of last (drop 2 vs)) (drop 2 vs) (λ x ws. parsed (induction x) 0) (firm_name last (drop 2 vs)) (λ x ws. firm_parsed (induction x) 0)))
        (firm_refused ByForm (line_of last vs)))

module _ (ts : Tokens) (p u : ℕ) (before : Rows) where
  pub no_tactic : p ≤ length ts → kind_of (drop p ts) ≢ 17 → Answers 0 tactic_rows (tactic_of (last_line ts) (drop p ts)) ts p u before (At p u 0) before
  no_tactic h e = record {
    is = ap₂ on (let z : p ≡ p + 0 = omega arith in z) (sym (append-nil (take u before))) ∙ sym (ap (told tactic_rows p (take u before)) is);
    within = (omega arith, h, omega arith, omega arith);
    still = λ z. no_path cc;
  }
    where
      is : tactic_of (last_line ts) (drop p ts) ≡ parsed auto 0
      is = simp (ne_eqb _ _ e)

  module _ (a : kind_of (drop p ts) ≡ 17) where
    by_is : tactic_of (last_line ts) (drop p ts) ≡ plus 1 (by_of (last_line ts) (drop (p + 1) ts))
    by_is = go ∙ ap (λ us. plus 1 (by_of (last_line ts) us)) (drop-drop 1 p ts)
      where
        go : tactic_of (last_line ts) (drop p ts) ≡ plus 1 (by_of (last_line ts) (drop 1 (drop p ts)))
        go = simp (eq-eqb _ _ a)

    refuses : by_of (last_line ts) (drop (p + 1) ts) ≡ refused ByForm (line_of (last_line ts) (drop (p + 1) ts)) → {l : ℕ} {out : Rows} → l ≡ line_of (last_line ts) (drop (p + 1) ts)
        → Answers 0 tactic_rows (tactic_of (last_line ts) (drop p ts)) ts p u before (Refused ByForm l) out
    refuses e g = record { is = ap (no ByForm) g ∙ sym (ap (told tactic_rows p (take u before)) (by_is ∙ ap (plus 1) e)); within = tt; still = λ z. no_path cc }

    pub no_by : kind_of (drop (p + 1) ts) ≢ 7 → {l : ℕ} {out : Rows} → l ≡ line_of (last_line ts) (drop (p + 1) ts)
        → Answers 0 tactic_rows (tactic_of (last_line ts) (drop p ts)) ts p u before (Refused ByForm l) out
    no_by b = refuses (simp (ne_eqb _ _ b))

    module _ (b : kind_of (drop (p + 1) ts) ≡ 7) where
      next_kind : kind_of (drop 1 (drop (p + 1) ts)) ≡ kind_of (drop (p + 2) ts)
      next_kind = ap kind_of (drop-drop 1 (p + 1) ts ∙ (let e : p + 1 + 1 ≡ p + 2 = omega arith in ap (λ i. drop i ts) e))

      pub by_auto : kind_of (drop (p + 2) ts) ≡ 8 → Answers 0 tactic_rows (tactic_of (last_line ts) (drop p ts)) ts p u before (At (p + 3) u 0) before
      by_auto c = record {
        is = ap₂ on (let z : p + 3 ≡ p + (1 + 2) = omega arith in z) (sym (append-nil (take u before))) ∙ sym (ap (told tactic_rows p (take u before)) (by_is ∙ ap (plus 1) is));
        within = (let h = token_there ts (p + 2) (omega arith) in (omega arith, omega arith, omega arith, omega arith));
        still = λ z. no_path cc;
      }
        where
          is : by_of (last_line ts) (drop (p + 1) ts) ≡ parsed auto 2
          is = simp (eq-eqb _ _ b, eq-eqb _ _ (next_kind ∙ c))

      pub neither : kind_of (drop (p + 2) ts) ≢ 8 → kind_of (drop (p + 2) ts) ≢ 9 → {l : ℕ} {out : Rows} → l ≡ line_of (last_line ts) (drop (p + 1) ts)
          → Answers 0 tactic_rows (tactic_of (last_line ts) (drop p ts)) ts p u before (Refused ByForm l) out
      neither c d = refuses (simp (eq-eqb _ _ b, ne_eqb _ _ (λ z. c (sym next_kind ∙ z)), ne_eqb _ _ (λ z. d (sym next_kind ∙ z))))

      module _ (c : kind_of (drop (p + 2) ts) ≡ 9) {r : Step} {out : Rows} (h : Answers 1 name_rows (name_of (last_line ts) (drop (p + 3) ts)) ts (p + 3) u before r out) where
        induction_is : tactic_of (last_line ts) (drop p ts) ≡ plus 1 (plus 2 (follow (name_of (last_line ts) (drop (p + 3) ts)) (drop (p + 3) ts) (λ y vs. parsed (induction y) 0)))
        induction_is = by_is ∙ ap (plus 1) (is ∙ ap (λ us. plus 2 (follow (name_of (last_line ts) us) us (λ y vs. parsed (induction y) 0))) (drop-drop 2 (p + 1) ts ∙ (let e : p + 1 + 2 ≡ p + 3 = omega arith in ap (λ i. drop i ts) e)))
          where
            is : by_of (last_line ts) (drop (p + 1) ts) ≡ plus 2 (follow (name_of (last_line ts) (drop 2 (drop (p + 1) ts))) (drop 2 (drop (p + 1) ts)) (λ y vs. parsed (induction y) 0))
            is = let k : kind_of (drop 1 (drop (p + 1) ts)) ≡ 9 = next_kind ∙ c in simp (eq-eqb _ _ b, ne_eqb (kind_of (drop 1 (drop (p + 1) ts))) 8 (λ z. omega arith), eq-eqb _ _ k)

        told_is : told tactic_rows p (take u before) (tactic_of (last_line ts) (drop p ts)) ≡ told tactic_rows (p + 3) (take u before) (follow (name_of (last_line ts) (drop (p + 3) ts)) (drop (p + 3) ts) (λ y vs. parsed (induction y) 0))
        told_is =
            let x : Parsed Tactic = follow (name_of (last_line ts) (drop (p + 3) ts)) (drop (p + 3) ts) (λ y vs. parsed (induction y) 0) in
            ap (told tactic_rows p (take u before)) induction_is ∙ told_plus tactic_rows p 1 (take u before) (plus 2 x) ∙ told_plus tactic_rows (p + 1) 2 (take u before) x
            ∙ (let e : p + 1 + 2 ≡ p + 3 = omega arith in ap (λ i. told tactic_rows i (take u before) x) e)

        pub by_induction : Answers 0 tactic_rows (tactic_of (last_line ts) (drop p ts)) ts p u before r out
        by_induction = record {
          is = h.is ∙ sym (told_is ∙ made_told (p + 3) (take u before) (drop (p + 3) ts) (name_of (last_line ts) (drop (p + 3) ts)));
          within = nearer ts p u r h.within;
          still = h.still;
        }

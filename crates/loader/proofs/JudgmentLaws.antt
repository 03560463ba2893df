-- Laws of a rule's judgments in rows: how many premises there are, where the conclusion stands, and where the rule ends.
use mathlib.Core.Path.{◌≡◌, refl, sym, ap, ◌∙◌, subst}
use mathlib.Core.List.{List, ◌∷◌}
use Prim.Native.Nat.{ℕ, ◌-◌, ◌≤◌}
use native.Mathlib.Omega.{arith}
use lib.ListN.{length}
use lib.Seq.{length-take-le}
use Rattle.term_parser.specs.Source.{Source, one, all_of}
use Rattle.term_parser.specs.Standing.{nil as none, cons as more, size, spelled, Stands}
use Rattle.names.specs.Symbols.{Rows}
use Rattle.clauses.specs.Promises.{Skipped}
use Rattle.clauses.proofs.SkipLaws.{stands_within, stands_size}
use Rattle.loader.specs.Signature.{front_of, last_judgment}
use Rattle.loader.specs.TermRows.{JudgmentsStand, spelled_size}

module _ (text : List ℕ) (rows : Rows) (p k : ℕ) (j : Source one) (js : List (Source one)) (q : ℕ) (st : JudgmentsStand text rows p j js q) (number : k ≡ length (j ∷ js)) where
  -- All judgments but one are premises.
  pub premises_number : size (spelled text (all_of (front_of (j ∷ js)))) ≡ k - 1
  premises_number =
      let a : length (front_of (j ∷ js)) ≡ length (j ∷ js) - 1 = length-take-le (length (j ∷ js) - 1) (j ∷ js) (omega arith) in
      spelled_size text (front_of (j ∷ js)) ∙ a ∙ ap (λ (x : ℕ). x - 1) (sym number)

  pub premises_few : p ≤ length rows → length rows ≤ 65536 → k - 1 ≤ 65536
  premises_few here short =
      let a = stands_within text rows (spelled text (all_of (front_of (j ∷ js)))) p st.middle st.premises here in
      let b = stands_size text rows (spelled text (all_of (front_of (j ∷ js)))) p st.middle st.premises in
      let c = premises_number in
      omega arith

  -- The conclusion stands behind them.
  pub conclusion_at : (r : ℕ) → Skipped rows p (k - 1) r → Stands text rows r (spelled text (last_judgment j js)) q
  conclusion_at r s =
      let e : r ≡ st.middle = s.behind text (spelled text (all_of (front_of (j ∷ js)))) st.middle st.premises premises_number in
      subst (λ (x : ℕ). Stands text rows x (spelled text (last_judgment j js)) q) (sym e) st.conclusion

  -- And the rule ends behind it.
  pub rule_ends : (r r' : ℕ) → Skipped rows p (k - 1) r → Skipped rows r 1 r' → r' ≡ q
  unfolding Stands size
  rule_ends r r' s s' = s'.behind text (more (spelled text (last_judgment j js)) none) q (q, conclusion_at r s, refl) refl

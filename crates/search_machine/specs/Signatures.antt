-- The rules of a signature in the listed form are stored as the search asks.
use Rattle.std.specs.Prelude.{ℕ, zero, suc, ◌+◌, ◌≤◌, ◌<◌, ◌≡◌, refl, true, List, [], ◌∷◌, map, length, get_or, take}
use Rattle.std.proofs.Common.{arith, sym, ap, ap₂, ◌∙◌, subst}
use Rattle.terms.specs.Term.{Kind, Syn, var, app, nil, cons, Below}
use Rattle.arena.specs.Copies.{pattern_room}
use Rattle.arena.specs.Form.{in_form}
use Rattle.arena.specs.Rows.{Rows}
use Rattle.names.specs.Symbols.{column, row_at}
use Rattle.meeting.specs.PlaceLaws.{elem_below}
use Rattle.resolution.specs.Rules.{Rule}
use Rattle.resolution.specs.Fresh.{elem, met}
use Rattle.resolution.specs.FreshLaws.{Covers}
use Rattle.resolution.proofs.FreshLaws.{covers_grows, met_covers, met_grows}
use Rattle.rules.specs.LayingLaws.{lying_form}
use Rattle.rules.specs.StoredRows.{Kept}
use Rattle.rules.specs.StoredLaws.{kept_stored}
use Rattle.rule_checks.specs.RuleForm.{rule_in, RuleFormed}
use Rattle.search_machine.specs.State.{rules_from, RulesStored, RulesInForm}

covers_below : {s : Kind} (n : ℕ) (e : List ℕ) → ((x : ℕ) → elem x e ≡ true → x < n) → (t : Syn s) → Covers e t → Below n t
covers_below n e h (var x) k = h x k
covers_below n e h (app f ts) k = covers_below n e h ts k
covers_below n e h nil k = tt
covers_below n e h (cons t ts) k = (covers_below n e h t k.0, covers_below n e h ts k.1)

-- A rule in form has no variables but those that it counts.
module _ {text words : List ℕ} {sorts : ℕ} {row : List ℕ} (f : RuleFormed text words sorts row) where
  low : (x : ℕ) → elem x (met (rule_in text words row).conclusion (met (rule_in text words row).premises [])) ≡ true → x < column row 3
  low x h = elem_below (column row 3) x (subst (λ (e : List ℕ). elem x e ≡ true) f.order h)

  conclusion_below : Below (column row 3) (rule_in text words row).conclusion
  conclusion_below =
      covers_below (column row 3) (met (rule_in text words row).conclusion (met (rule_in text words row).premises [])) low
      (rule_in text words row).conclusion
      (met_covers (rule_in text words row).conclusion (met (rule_in text words row).premises []))

  premises_below : Below (column row 3) (rule_in text words row).premises
  premises_below =
      covers_below (column row 3) (met (rule_in text words row).conclusion (met (rule_in text words row).premises [])) low
      (rule_in text words row).premises
      (covers_grows (rule_in text words row).premises (met (rule_in text words row).premises [])
      (met (rule_in text words row).conclusion (met (rule_in text words row).premises []))
      (met_grows (rule_in text words row).conclusion (met (rule_in text words row).premises []))
      (met_covers (rule_in text words row).premises []))

-- Rows that each keep a rule in form.
pub rows_stored : {text arities words : List ℕ} {rules : Rows} {sorts n : ℕ} → n ≤ length rules → n ≤ 1024
    → ((r : ℕ) → r < n → (u : ℕ) × (u' : ℕ) × Kept text arities words (row_at rules r) (rule_in text words (row_at rules r)) u u')
    → ((r : ℕ) → r < n → RuleFormed text words sorts (row_at rules r)) → RulesStored words rules n
rows_stored lent few kept formed = record {
  lent = lent;
  few = few;
  stored = λ r l. kept_stored (kept r l).2 (premises_below (formed r l)) (conclusion_below (formed r l));
  premises = λ r l. (kept r l).2.premises;
  variables = λ r l. (kept r l).2.few;
}

-- Their words are in form over the arities.
pub rows_in_form : (text arities words : List ℕ) (rules : Rows) (n : ℕ)
    → ((r : ℕ) → r < n → (u : ℕ) × (u' : ℕ) × Kept text arities words (row_at rules r) (rule_in text words (row_at rules r)) u u')
    → RulesInForm words rules n arities
rows_in_form text arities words rules n kept r l =
    let row : List ℕ = row_at rules r in
    let u = (kept r l).0 in
    let k = (kept r l).2 in
    record {
      premises = subst (λ (x : ℕ). in_form words x (x + column row 7) pattern_room pattern_room arities ≡ true) (sym k.from)
          (lying_form k.lying.premises pattern_room k.lying.premises.below);
      conclusion = subst
          (λ (x : ℕ). in_form words (x + column row 7) (x + column row 7 + column row 8) pattern_room pattern_room arities ≡ true)
          (sym k.from)
          (subst (λ (y : ℕ). in_form words (u + column row 7) y pattern_room pattern_room arities ≡ true) (sym k.to)
          (lying_form k.lying.conclusion pattern_room k.lying.conclusion.below));
    }

-- The list of the rules is that of the signature.
rules_taken : (text P : List ℕ) (R : Rows) (k : ℕ) (rows : Rows) → k ≤ length rows → (r : ℕ)
    → ((i : ℕ) → i < k → get_or rows i [] ≡ row_at R (r + i)) → map (rule_in text P) (take k rows) ≡ rules_from text P R r k
rules_taken text P R zero rows l r h = refl
rules_taken text P R (suc k) [] l r h = absurd (omega arith)
rules_taken text P R (suc k) (x ∷ rows) l r h =
    ap₂ (λ (x : List ℕ) (Rs : List Rule). rule_in text P x ∷ Rs) (h 0 (omega arith) ∙ ap (row_at R) (let e : r + 0 ≡ r = omega arith in e))
    (rules_taken text P R k rows (omega arith) (suc r) (λ i m. h (suc i) (omega arith)
    ∙ ap (row_at R) (let e : r + suc i ≡ suc r + i = omega arith in e)))

pub rules_listed : (text P : List ℕ) (R : Rows) (n : ℕ) → n ≤ length R → map (rule_in text P) (take n R) ≡ rules_from text P R 0 n
rules_listed text P R n l = rules_taken text P R n R l 0 (λ i m. ap (row_at R) (let e : i ≡ 0 + i = omega arith in e))

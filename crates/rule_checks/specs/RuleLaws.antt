-- Laws of stored rules: a row that keeps a rule keeps the one that it and the words denote.
use Rattle.std.specs.Prelude.{◌≡◌, List, ℕ}
use Rattle.std.proofs.Common.{sym, ap₂, ◌∙◌}
use Rattle.terms.specs.Term.{Term, Terms}
use Rattle.names.specs.Names.{Name}
use Rattle.resolution.specs.Rules.{Rule}
use Rattle.rules.specs.LayingLaws.{lying_one}
use Rattle.rules.specs.StoredRows.{Kept}
use Rattle.rule_checks.specs.RuleForm.{rule_in}

-- Two rules of the same parts are the same.
rule_parts : {R S : Rule} → R.name ≡ S.name → R.sorts ≡ S.sorts → R.premises ≡ S.premises → R.conclusion ≡ S.conclusion → R ≡ S
rule_parts {R} {S} n s p c =
    ap₂ (λ (x : Name) (y : List ℕ). record { name = x; sorts = y; premises = R.premises; conclusion = R.conclusion }) n s
    ∙ ap₂ (λ (x : Terms) (y : Term). record { name = S.name; sorts = S.sorts; premises = x; conclusion = y }) p c

-- A row keeps no other rule.
pub kept_is : {text arities words row : List ℕ} {R : Rule} {u u' : ℕ} → Kept text arities words row R u u' → R ≡ rule_in text words row
kept_is h = rule_parts (sym h.named) (sym h.sorted) (sym h.lying.premises.denotes) (sym (lying_one h.lying.conclusion))

-- `are_zeros` meets its contract: what was or-ed together tells of each column.
use Rattle.std.specs.Int.Bits.{bit_or}
use Rattle.std.proofs.Common.{rules, ◌≡◌, ◌∙◌, ap, nat_eq, eqb-true, eq-eqb}
use Rattle.std.proofs.lemmas.Iterator.{YieldsList-from_slice}
use Rattle.std.proofs.lemmas.Iterator.Consumers.{fold_from_yields_List}
use Rattle.rule_checks.proofs.PartLaws.{each_passes, joined_zero}
use Rattle.rule_checks.proofs.are_zeros.Goals as goal

pub returns : goal.returns
returns c =
    let columns = c.args.columns.now in
    let seen = fold_from_yields_List _ bit_or 0 _ c.fold.ensures.ran (YieldsList-from_slice _ c.iter.ensures.rest) (λ a x b q k. (search rules, search rules)) in
    each_passes (λ x. nat_eq x 0) (λ x. x ≡ 0) (λ x e. eqb-true x 0 e) (λ x e. eq-eqb x 0 e) columns _ (ap (λ s. nat_eq s 0) seen ∙ joined_zero columns 0)

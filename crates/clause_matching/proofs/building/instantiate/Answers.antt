-- `instantiate` meets its contract: a variable's value stands already, and a node is built.
use Rattle.refusals.specs.Refused.{handed_on}
use Rattle.clause_matching.proofs.PatternOf.{is_low}
use Rattle.clause_matching.proofs.Variables.{held_is, held_none, variable_unbound, variable_value}
use Rattle.clause_matching.proofs.building.instantiate.Goals as goal

pub returns-in_err-value : goal.returns-in_err-value
returns-in_err-value c =
    let (z, e) = held_none c.value_of.ensures c.in_err-value.was in
    rw (handed_on c.from_residual.result c.from_residual.ensures.1, e) (variable_unbound c.requires (is_low _ c.checked_sub.ensures c.in_default.is) z)

pub returns-in_default : goal.returns-in_default
returns-in_default c =
    let (n, z) = held_is c.value_of.ensures c.in_ok-value.was in
    rw z (variable_value c.requires (is_low _ c.checked_sub.ensures c.in_default.is) n)

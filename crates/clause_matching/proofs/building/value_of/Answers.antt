use mathlib.Core.Path.{◌∙◌}
use Rattle.clause_matching.proofs.Variables.{held_as}
use Rattle.clause_matching.proofs.building.value_of.Goals as goal

pub returns : goal.returns
returns c = c.ok_or.ensures.value ∙ held_as _ _ c.checked_sub.ensures

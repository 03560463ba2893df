use native.Mathlib.Omega.{arith}
use Rattle.arena.specs.Rows.{one_more}
use Rattle.clause_matching.proofs.Taking.{take_new, compare_ready, take_old}
use Rattle.clause_matching.proofs.matching.take.Goals as goal

pub returns-in_default : goal.returns-in_default
returns-in_default c = let z = c.in_default.ensures in take_new _ c.requires.0 c.requires.1 (omega arith)

pub equal-requires : goal.equal-requires
equal-requires c = compare_ready _ c.requires.0 c.requires.1 _ (one_more c.in-Some.ensures)

pub returns : goal.returns
returns c = take_old _ c.requires.0 c.requires.1 _ (one_more c.in-Some.ensures) _ _ c.equal.ensures

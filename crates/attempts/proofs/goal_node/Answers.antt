-- `goal_node` meets its contract: an end that is no variable of the room for terms is a node.
use native.Mathlib.Omega.{arith}
use Rattle.attempts.proofs.goal_node.Goals as goal

pub returns : goal.returns
returns c = (omega arith, c.walk-end.ensures)

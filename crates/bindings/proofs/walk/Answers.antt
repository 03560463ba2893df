-- `walk` meets its contract. The loop's invariant: from q on the values lead where they lead from r; the bindings still to meet grow fewer.
use Rattle.bindings.specs.Stored.{free, node}
use Rattle.arena.specs.Rows.{one_more}
use Rattle.bindings.specs.Walking.{walk_next, walk_less, walk_end}
use native.Mathlib.Omega.{arith}
use Rattle.bindings.proofs.walk.Goals as goal

pub returns-in_default : goal.returns-in_default
returns-in_default c = walk_end c.loop-q.invariant (free c.loop-q-test.true (omega arith))

pub loop-q-smaller : goal.loop-q-smaller
loop-q-smaller c = walk_less c.loop-q.invariant _ c.loop-q-test.true (one_more c.in-Some.ensures)

pub loop-q-preserved : goal.loop-q-preserved
loop-q-preserved c = walk_next c.loop-q.invariant _ c.loop-q-test.true (one_more c.in-Some.ensures)

pub returns : goal.returns
returns c = walk_end c.loop-q.invariant (node (omega arith))

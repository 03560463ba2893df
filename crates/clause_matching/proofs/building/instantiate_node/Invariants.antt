-- `instantiate_node` meets its contract. The loop's invariant: going on from what is built and what is open comes to building the whole. What falls: the size of what
-- is left of the pattern, then the open rows. A turn that takes an argument is two steps of the laws: it waits, and then it is put in or opened.
use Prim.Native.Nat.{ℕ, ◌+◌}
use mathlib.Core.Bool.{false}
use Rattle.arena.specs.Copies.{pattern_room}
use Rattle.clause_matching.proofs.BuildTurns.{Turn, left}
use Rattle.clause_matching.proofs.building.instantiate_node.Given as goal

abbrev pub invariant-loop-row : goal.invariant-loop-row
invariant-loop-row l = (n : ℕ) × Turn l.pattern (l.root + pattern_room) l.environment l.initial.words l.room.used l.room.limit l.initial.stack l.words l.stack l.depth l.top l.spent n false

abbrev pub decreases-loop-row : goal.decreases-loop-row
decreases-loop-row l = left l.pattern l.stack l.depth 0 false

-- `bind_node` meets its contract. The loop's invariant: matching what is left, from the values that the environment holds, comes to matching the whole. What falls: the
-- size of what is left of the pattern, then the open rows. A turn that takes an argument is two steps of the laws: it waits, and then it is matched or opened.
use mathlib.Core.Bool.{false}
use Rattle.clause_matching.proofs.BindTurns.{Turn, place_of, left}
use Rattle.clause_matching.proofs.matching.bind_node.Given as goal

abbrev pub invariant-loop-row : goal.invariant-loop-row
invariant-loop-row l =
    Turn l.pattern (place_of l.first) l.values.words.now l.values.used l.value l.initial.environment l.initial.links l.fn.stack l.environment l.links l.stack l.depth 0 0 false

abbrev pub decreases-loop-row : goal.decreases-loop-row
decreases-loop-row l = left l.pattern l.stack l.depth 0 false

-- `search` meets its contract. The invariants: of the variables before `variable` none is new, and the search is nowhere; within a turn it stands in order
-- at `top`, on its way to `ahead`, and of the variables up to `variable` none is new, but for one ahead.
use Prim.Native.Nat.{◌+◌}
use Rattle.acyclicity.specs.Edges.{number}
use Rattle.acyclicity.proofs.Turns.{Turn, left}
use Rattle.acyclicity.proofs.search.Given as goal

abbrev pub invariant-loop-variable : goal.invariant-loop-variable
invariant-loop-variable l = Turn l.terms.words.now l.bindings l.terms.room l.terms.variables l.terms.used l.fn.scratch l.scratch l.variable 0 0

abbrev pub invariant-loop-reference : goal.invariant-loop-reference
invariant-loop-reference l =
    Turn l.terms.words.now l.bindings l.terms.room l.terms.variables l.terms.used l.fn.scratch l.scratch (l.variable + 1) (number l.top) (number l.ahead)

abbrev pub decreases-loop-reference : goal.decreases-loop-reference
decreases-loop-reference l = left l.scratch (number l.ahead)

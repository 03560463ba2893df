-- `enter_trail` meets its contract. The loop's invariant: the first i entries are entered; each is in use, bound, and none stands twice.
use Rattle.bindings.specs.Checking.{Entering}
use Rattle.bindings.proofs.trails.enter_trail.Given as goal

abbrev pub invariant-loop-i : goal.invariant-loop-i
invariant-loop-i l = Entering l.bindings.rows.now l.initial.marks l.marks l.variables l.i

-- `equal` meets its contract. The loop's invariant: the two references denote the same term exactly where the answer is still true and the links that are
-- left, all from `low` on and below `at`, hold.
use mathlib.Core.Path.{◌≡◌}
use lib.ListN.{length}
use Rattle.arena.proofs.Settling.{Passing}
use Rattle.arena.proofs.equal.Given as goal

abbrev pub invariant-loop-linked : goal.invariant-loop-linked
invariant-loop-linked l = (length l.links ≡ length l.initial.links) × Passing l.terms.room l.terms.words.now l.terms.variables l.terms.used l.a l.b l.links l.at l.linked.low l.linked.same

abbrev pub decreases-loop-linked : goal.decreases-loop-linked
decreases-loop-linked l = l.at

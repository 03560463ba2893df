-- `equate` meets its contract. The loop's invariant: what is left to be made equal, under the bindings held, comes to what the whole comes to; links
-- join equal terms; bindings, links and open pairs were only added. What falls: links still possible, room on the stack, arguments left, the stage.
use Rattle.arena.specs.Rows.{column}
use Rattle.std.specs.Prelude.{is_some, unwrap_or}
use Rattle.unifier.specs.Bounds.{measure}
use Rattle.unifier.specs.Equating.{Loop}
use Rattle.unifier.proofs.equations.equate.Given as goal

abbrev pub invariant-loop-x : goal.invariant-loop-x
invariant-loop-x l = Loop l.terms.room l.terms.words.now l.initial.bindings l.initial.links l.initial.marks l.initial.stack l.terms.variables l.terms.used l.bound l.r l.t l.bindings l.links l.marks l.stack (unwrap_or l.pending (0, 0)).0 (unwrap_or l.pending (0, 0)).1 l.d l.n l.c (is_some l.pending)

abbrev pub decreases-loop-x : goal.decreases-loop-x
decreases-loop-x l = measure l.terms.room (column 0 l.links) (column 2 l.stack) l.terms.used l.d (is_some l.pending)

-- `occurs` meets its contract. The loop's invariant: what stands in the queue was reached from r, the edges of its first h are followed, none of them
-- is x, and taking all marks back gives the marks at entry.
use Prim.Native.Nat.{◌+◌, ◌-◌}
use mathlib.Core.Path.{◌≡◌}
use Rattle.bindings.specs.Search.{Searched}
use Rattle.bindings.proofs.occurs.Given as goal

abbrev pub invariant-loop-h : goal.invariant-loop-h
invariant-loop-h l =
    Searched l.terms.room l.terms.words.now l.bindings.rows.now l.fn.marks l.queue.marks.now l.terms.variables l.terms.used l.r l.x l.h l.queue.end
    × (l.queue.marks.ghost_name ≡ l.initial.queue.marks.ghost_name)

abbrev pub decreases-loop-h : goal.decreases-loop-h
decreases-loop-h l = l.terms.room + l.terms.used - l.h

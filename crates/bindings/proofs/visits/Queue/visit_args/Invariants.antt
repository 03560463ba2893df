-- `visit_args` meets its contract. The loop's invariant: the marks grew by the arguments that were passed.
use Prim.Native.Nat.{◌+◌, ◌-◌}
use mathlib.Core.Path.{◌≡◌}
use Rattle.bindings.specs.Search.{Grown, ArgumentOf}
use Rattle.bindings.proofs.visits.Queue.visit_args.Given as goal

abbrev pub invariant-loop-y : goal.invariant-loop-y
invariant-loop-y l =
    Grown (l.terms.room + l.terms.used) (ArgumentOf l.terms.words.now (l.r - l.terms.room) l.y-index) l.initial.self.marks.now l.initial.self.end l.self.marks.now l.self.end
    × (l.self.marks.ghost_name ≡ l.initial.self.marks.ghost_name)

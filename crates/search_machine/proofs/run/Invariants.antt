-- `run` meets its contract: by steps, which keep what the state means; the measure falls with each.
use Rattle.std.specs.Prelude.{length}
use Rattle.search_machine.specs.Groups.{allowed_in, IsLent}
use Rattle.search_machine.specs.Moves.{measure}
use Rattle.search_machine.specs.Ways.{Going}
use Rattle.search_machine.proofs.run.Given as goal

abbrev pub invariant-loop-program : goal.invariant-loop-program
invariant-loop-program l = record {
  going : Going (allowed_in l.program) l.program.pattern.now l.program.rules.now l.initial.store.frames.now l.store.frames.now
      l.initial.store.words.now l.store.words.now l.initial.store.bindings.now l.store.bindings.now l.initial.store.links.now
      l.store.links.now l.initial.store.marks.now l.store.marks.now l.initial.store.stack.now l.store.stack.now l.initial.m l.m;
  lent : IsLent l.initial.store l.store;
}

abbrev pub decreases-loop-program : goal.decreases-loop-program
decreases-loop-program l = measure (length l.program.rules.now) l.store.frames.now l.m

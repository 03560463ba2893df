-- `prove` meets its contract: bound by bound, each from the session at entry; each way out is the theory's.
-- The loop keeps that every buffer is as at entry, and what the bounds from here on come to.
use Rattle.std.proofs.Common.{◌+◌, ◌-◌}
use Rattle.search_machine.specs.Groups.{allowed_in, IsLent}
use Rattle.deepening.specs.Deepening.{Deepening}
use Rattle.deepening.proofs.prove.Given as goal

abbrev pub invariant-loop-depth : goal.invariant-loop-depth
invariant-loop-depth l = record {
  deepening : Deepening (allowed_in l.program) l.program.pattern.now l.program.rules.now l.initial.store.frames.now l.store.frames.now
      l.initial.store.words.now l.store.words.now l.initial.store.bindings.now l.store.bindings.now l.initial.store.links.now
      l.store.links.now l.initial.store.marks.now l.store.marks.now l.initial.store.stack.now l.store.stack.now l.question.goal
      l.largest l.question.steps l.question.in_use.variables l.question.in_use.bound l.question.in_use.used l.depth l.taken l.met;
  lent : IsLent l.initial.store l.store;
}

abbrev pub decreases-loop-depth : goal.decreases-loop-depth
decreases-loop-depth l = l.largest + 1 - l.depth

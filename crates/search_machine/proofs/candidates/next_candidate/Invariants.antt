-- `next_candidate` meets its contract: each rule before the one chosen is passed over as its attempt would be.
-- The loop keeps that the meaning stays with the rule and the counter that it has come to.
use Rattle.search_machine.specs.Groups.{allowed_in}
use Rattle.search_machine.specs.Choosing.{Passing}
use Rattle.search_machine.proofs.candidates.next_candidate.Given as goal

abbrev pub invariant-loop-rule : goal.invariant-loop-rule
invariant-loop-rule l =
    Passing (allowed_in l.program) l.program.pattern.now l.program.rules.now l.store.words.now l.store.bindings.now l.m l.rule l.counter

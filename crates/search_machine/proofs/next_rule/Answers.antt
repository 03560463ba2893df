-- `next_rule` meets its contract: the rule that was chosen is tried, or there is none.
use Rattle.search_machine.specs.ChoosingLaws.{chosen_ready, chosen_tried, chosen_none}
use Rattle.search_machine.proofs.next_rule.Goals as goal

pub attempt-requires-clause-ready : goal.attempt-requires-clause-ready
attempt-requires-clause-ready c = chosen_ready c.requires.ready c.requires.mode c.next_candidate-n.ensures

pub returns-in-Try-clause-stepped : goal.returns-in-Try-clause-stepped
returns-in-Try-clause-stepped c =
    chosen_tried c.requires.ready c.requires.mode c.next_candidate-n.ensures c.in-Try.is c.attempt.ensures.stepped

pub returns-in_default-clause-stepped : goal.returns-in_default-clause-stepped
returns-in_default-clause-stepped c = chosen_none c.requires.ready c.requires.mode c.next_candidate-n.ensures c.in_default.not-Try

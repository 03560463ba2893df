-- `step` meets its contract: mode by mode; a machine that has stopped is not asked.
use Rattle.search_machine.specs.Ways.{moved_stepped, returned_stepped}
use Rattle.search_machine.proofs.step.Goals as goal

pub returns-in-Enter-clause-stepped : goal.returns-in-Enter-clause-stepped
returns-in-Enter-clause-stepped c = moved_stepped c.enter.ensures

pub returns-in-Fail-clause-stepped : goal.returns-in-Fail-clause-stepped
returns-in-Fail-clause-stepped c =
    let b = c.back.ensures.returned in returned_stepped b.returned b.words b.links b.marks b.stack b.frames

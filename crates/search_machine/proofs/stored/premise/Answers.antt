-- `premise` meets its contract: the reference in the row, moved by the row's places.
use Rattle.search_machine.specs.Parts.{premise_of}
use Rattle.search_machine.proofs.stored.premise.Goals as goal

pub returns : goal.returns
returns c = λ rules asked is. premise_of asked is c.places.ensures c.moved_word.ensures

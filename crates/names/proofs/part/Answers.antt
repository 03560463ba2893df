-- `part` meets its contract: the word at the place.
use Rattle.names.proofs.part.Goals as goal

pub returns : goal.returns
returns c = c.word.ensures

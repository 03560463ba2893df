-- `is_named` meets its contract: the name is a word of the bytes among which names of its kind stand.
use Rattle.names.specs.Names.{result_names}
use Rattle.names.proofs.NamesOf.{part_either}
use Rattle.names.proofs.is_named.Goals as goal

pub returns : goal.returns
returns c = rw (c.names_of.ensures, part_either _ result_names c.args.text.now c.args.word.start c.args.word.size) at c.is_word.ensures

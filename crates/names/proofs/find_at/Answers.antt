-- `find_at` meets its contract: the name at the place is a word of the bytes among which names of its kind stand.
use Rattle.names.specs.Names.{result_names}
use Rattle.names.proofs.NamesOf.{part_either}
use Rattle.names.proofs.find_at.Goals as goal

pub returns : goal.returns
returns g c = rw (c.part.ensures, c.names_of.ensures, part_either _ result_names c.args.text.now c.args.word.start c.args.word.size) at c.find.ensures

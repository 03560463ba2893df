-- `class_of` meets its contract: the table holds the class of each code, computed over the whole table.
use mathlib.Core.Path.{refl}
use borrow.Author.Rules.{rules}
use Rattle.source_text.specs.Bytes.{one_of}
use Rattle.source_text.specs.Characters.{class_table, classes_from, class_of, class_numbers}
use Rattle.source_text.specs.declared.characters.TheConstants.{CLASS}
use Rattle.source_text.proofs.Encodings.{class_at}
use Rattle.source_text.proofs.characters.class_of.Goals as goal

pub returns : goal.returns
unfolding class_table classes_from class_of one_of class_numbers
returns c = class_at CLASS c.args.c _ (search rules) refl c.requires

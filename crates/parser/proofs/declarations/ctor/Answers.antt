-- `ctor` meets its contract: a constructor is made of a title and of names.
use mathlib.Core.Path.{refl}
use Prim.Native.Nat.{◌+◌}
use lib.ListN.{drop}
use Rattle.term_parser.specs.Parsing.{last_line}
use Rattle.term_parser.specs.Lists.{arrows_of}
use Rattle.parser.specs.Source.{ctor}
use Rattle.term_parser.specs.Rows.{name_rows}
use Rattle.parser.proofs.TitleLaws.{declares}
use Rattle.parser.proofs.declarations.ctor.Goals as goal

pub returns : goal.returns
returns c = let ts = c.args.input.tokens.now in declares ctor name_rows 2 c.args.line (λ t. refl) (last_line ts) (arrows_of (last_line ts)) (drop (c.args.from.at + 1) ts) c.titled.ensures

-- `sort` meets its contract: a sort is made of a name.
use mathlib.Core.Path.{refl}
use Prim.Native.Nat.{◌+◌}
use lib.ListN.{drop}
use Rattle.term_parser.specs.Parsing.{last_line}
use Rattle.term_parser.specs.Lists.{name}
use Rattle.term_parser.specs.Rows.{name_rows}
use Rattle.parser.specs.Source.{sort}
use Rattle.parser.proofs.TitleLaws.{declares_item}
use Rattle.parser.proofs.declarations.sort.Goals as goal

pub returns : goal.returns
returns c = let ts = c.args.input.tokens.now in let us = drop (c.args.from.at + 1) ts in declares_item sort name_rows 1 c.args.line (λ n. refl) (name (last_line ts) us) us c.single.ensures

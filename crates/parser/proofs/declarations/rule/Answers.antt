-- `rule` meets its contract: a rule is made of a title and of judgments.
use mathlib.Core.Path.{refl}
use Prim.Native.Nat.{◌+◌}
use lib.ListN.{drop}
use Rattle.term_parser.specs.Parsing.{last_line}
use Rattle.term_parser.specs.Lists.{judgments_of}
use Rattle.parser.specs.Source.{rule}
use Rattle.term_parser.specs.Rows.{rows_of}
use Rattle.parser.proofs.TitleLaws.{declares}
use Rattle.parser.proofs.declarations.rule.Goals as goal

pub returns : goal.returns
returns c = let ts = c.args.input.tokens.now in declares rule rows_of 4 c.args.line (λ t. refl) (last_line ts) (judgments_of c.args.input.text.now (last_line ts)) (drop (c.args.from.at + 1) ts) c.titled.ensures

-- `asked` meets its contract: an evaluation and a check are made of a term.
use Prim.Native.Nat.{◌+◌}
use lib.ListN.{drop}
use Rattle.term_parser.specs.Parsing.{last_line}
use Rattle.term_parser.specs.Lists.{term}
use Rattle.term_parser.specs.Rows.{rows_of}
use Rattle.parser.specs.Declarations.{asked}
use Rattle.parser.proofs.DeclarationLaws.{asked_rows}
use Rattle.parser.proofs.TitleLaws.{declares_item}
use Rattle.parser.proofs.declarations.asked.Goals as goal

pub returns : goal.returns
returns c =
    let ts = c.args.input.tokens.now in
    let us = drop (c.args.from.at + 1) ts in
    declares_item (asked c.args.token.kind) rows_of c.args.token.kind c.args.token.line (λ t. asked_rows _ _ t c.requires.kinds) (term c.args.input.text.now (last_line ts) us) us c.single.ensures

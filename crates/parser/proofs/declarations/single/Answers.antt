-- `single` meets its contract.
use mathlib.Core.Path.{refl, ap}
use Prim.Native.Nat.{◌+◌}
use lib.ListN.{drop}
use Rattle.term_parser.specs.Parsing.{last_line, parsed, plus}
use Rattle.term_parser.specs.Steps.{step}
use Rattle.parser.specs.Rows.{single_rows}
use Rattle.parser.proofs.PartLaws.{start, part, finish}
use Rattle.parser.proofs.TitleLaws.{item_alone}
use Rattle.parser.proofs.declarations.single.Goals as goal

pub returns : goal.returns
returns g c =
    let ts = c.args.input.tokens.now in
    let us = drop (c.args.from.at + 1) ts in
    let item = g.I.Item.grammar c.args.input.text.now (last_line ts) us in
    finish (part (start (single_rows g.I.Item.rows c.args.kind c.args.line) c.requires.fact_1 c.requires.fact_2 (plus 1 item) item refl) (λ a vs. parsed a 0) (item_alone item us) (rw c.past_row-behind.ensures at c.read.ensures) (ap step c.in_ok-item.was) c.read.auto.out) c.requires.fact_1 refl refl refl

-- An item behind a sign is read as its contract says.
use mathlib.Core.Path.{◌≡◌, sym, ap, ◌∙◌}
use lib.ListN.{drop}
use Rattle.term_parser.specs.Parsing.{kind_of, last_line}
use Rattle.term_parser.proofs.ListLaws.{behind_answers}
use Rattle.term_parser.proofs.items.NextRepeated.read.Goals as goal

pub returns : goal.returns
returns g c =
    let input = c.args.input in
    let e : kind_of (drop c.args.from.at input.tokens.now) ≡ g.I.Item.SIGN = sym (ap (λ x. x.kind) c.peek.ensures) ∙ c.if-peek-SIGN.false ∙ c.SIGN.ensures in
    rw c.present.ensures (behind_answers g.I.Item.SIGN (g.I.Item.grammar input.text.now (last_line input.tokens.now)) input.tokens.now c.args.from.at e (rw c.past_token-behind.ensures at c.read.ensures))

-- A name up to a colon is read as its contract says.
use mathlib.Core.Path.{ap, ◌∙◌}
use lib.ListN.{drop}
use Rattle.term_parser.specs.Parsing.{last_line}
use Rattle.term_parser.specs.Grammar.{name_of}
use Rattle.term_parser.proofs.ListLaws.{unless_answers}
use Rattle.term_parser.proofs.items.BoundRepeated.read.Goals as goal

pub returns : goal.returns
returns c =
    let tokens = c.args.input.tokens.now in
    rw c.present.ensures (unless_answers 20 (name_of (last_line tokens)) (drop c.args.from.at tokens) (λ e. c.if-peek-eq-COLON.false (ap (λ x. x.kind) c.peek.ensures ∙ e)) c.name.ensures)

-- `rejection` meets its contract: the line is that of the token at its place.
use mathlib.Core.Path.{ap}
use Rattle.refusals.specs.declared.Rejection.{Rejection}
use Rattle.term_parser.proofs.tokens.rejection.Goals as goal

pub returns : goal.returns
returns c = ap {B = Rejection} (λ line. record { refusal = c.args.refusal; line = line }) c.line.ensures

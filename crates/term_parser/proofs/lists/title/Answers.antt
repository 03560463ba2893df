-- `title` meets its contract.
use mathlib.Core.Path.{ap}
use lib.ListN.{drop}
use Rattle.term_parser.specs.Parsing.{last_line}
use Rattle.term_parser.specs.Steps.{step}
use Rattle.term_parser.specs.Firmness.{firm_name}
use Rattle.term_parser.proofs.Readers.{stopped_err, exits}
use Rattle.term_parser.proofs.ListLaws.{before_sign, then_sign_lem}
use Rattle.term_parser.proofs.lists.title.Goals as goal

pub returns-in_err-n : goal.returns-in_err-n
returns-in_err-n c =
    let last = last_line c.args.input.tokens.now in
    rw (exits _ _ c.in_err-n.was c.from_residual.ensures.1) (before_sign c.name.ensures last 20 (firm_name last (drop c.args.from.at c.args.input.tokens.now)) (stopped_err _ c.in_err-n.was))

pub returns : goal.returns
returns c =
    let last = last_line c.args.input.tokens.now in
    then_sign_lem c.name.ensures last 20 (firm_name last (drop c.args.from.at c.args.input.tokens.now)) (ap step c.in_ok-n.was) c.sign.ensures

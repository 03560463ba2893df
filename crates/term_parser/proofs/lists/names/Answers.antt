-- `names` meets its contract: a first name, and then those up to a colon.
use mathlib.Core.Path.{ap}
use native.Mathlib.Omega.{arith}
use Rattle.term_parser.specs.Parsing.{last_line}
use Rattle.term_parser.specs.Grammar.{name_of}
use Rattle.term_parser.specs.Lists.{unless}
use Rattle.term_parser.specs.Rows.{name_rows}
use Rattle.term_parser.specs.Steps.{step}
use Rattle.term_parser.specs.Firmness.{firm_name}
use Rattle.term_parser.proofs.Readers.{stopped_err, exits, moved}
use Rattle.term_parser.proofs.TermLaws.{room_on}
use Rattle.term_parser.proofs.ListLaws.{chain_stopped, chain_goes_on, handed_more}
use Rattle.term_parser.proofs.lists.names.Goals as goal

pub returns-in_err-first : goal.returns-in_err-first
returns-in_err-first c =
    let tokens = c.args.input.tokens.now in let name = name_of (last_line tokens) in
    rw (exits _ _ c.in_err-first.was c.from_residual.ensures.1) (chain_stopped (unless 20 name) name_rows tokens name (firm_name (last_line tokens)) c.name.ensures (stopped_err _ c.in_err-first.was))

pub all-requires : goal.all-requires
all-requires c = let m = moved c.name.ensures (ap step c.in_ok-first.was) in room_on c.requires _ _ _ m.1 (omega (arith, m)) c.name.auto.out

pub returns-in_err-rest : goal.returns-in_err-rest
returns-in_err-rest c =
    let tokens = c.args.input.tokens.now in let name = name_of (last_line tokens) in
    rw (exits _ _ c.in_err-rest.was c.from_residual-in_err-rest.ensures.1, handed_more _ c.in_err-rest.was)
    (chain_goes_on (unless 20 name) name_rows tokens name (firm_name (last_line tokens)) c.name.ensures (ap step c.in_ok-first.was) c.all.ensures.list)

pub returns : goal.returns
returns c =
    let tokens = c.args.input.tokens.now in let name = name_of (last_line tokens) in
    rw (ap step c.in_ok-rest.was) at (chain_goes_on (unless 20 name) name_rows tokens name (firm_name (last_line tokens)) c.name.ensures (ap step c.in_ok-first.was) c.all.ensures.list)

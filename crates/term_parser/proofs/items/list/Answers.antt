-- `list` meets its contract: a first item, and then those behind signs.
use mathlib.Core.Path.{ap}
use native.Mathlib.Omega.{arith}
use Rattle.term_parser.specs.Parsing.{last_line, behind}
use Rattle.term_parser.specs.Steps.{step}
use Rattle.term_parser.proofs.Readers.{stopped_err, exits, moved}
use Rattle.term_parser.proofs.TermLaws.{room_on}
use Rattle.term_parser.proofs.ListLaws.{chain_stopped, chain_goes_on, handed_more}
use Rattle.term_parser.proofs.items.list.Goals as goal

pub returns-in_err-first : goal.returns-in_err-first
returns-in_err-first g c =
    let input = c.args.input in let last = last_line input.tokens.now in let item = g.I.Item.grammar input.text.now last in
    rw (exits _ _ c.in_err-first.was c.from_residual.ensures.1)
    (chain_stopped (behind g.I.Item.SIGN item) g.I.Item.rows input.tokens.now item (g.met.I.Item.firm input.text.now last) c.read.ensures (stopped_err _ c.in_err-first.was))

pub all-requires : goal.all-requires
all-requires g c = let m = moved c.read.ensures (ap step c.in_ok-first.was) in room_on c.requires _ _ _ m.1 (omega (arith, m)) c.read.auto.out

pub returns-in_err-rest : goal.returns-in_err-rest
returns-in_err-rest g c =
    let input = c.args.input in let last = last_line input.tokens.now in let item = g.I.Item.grammar input.text.now last in
    rw (exits _ _ c.in_err-rest.was c.from_residual-in_err-rest.ensures.1, handed_more _ c.in_err-rest.was)
    (chain_goes_on (behind g.I.Item.SIGN item) g.I.Item.rows input.tokens.now item (g.met.I.Item.firm input.text.now last) c.read.ensures (ap step c.in_ok-first.was) c.all.ensures.list)

pub returns : goal.returns
returns g c =
    let input = c.args.input in let last = last_line input.tokens.now in let item = g.I.Item.grammar input.text.now last in
    rw (ap step c.in_ok-rest.was) at
    (chain_goes_on (behind g.I.Item.SIGN item) g.I.Item.rows input.tokens.now item (g.met.I.Item.firm input.text.now last) c.read.ensures (ap step c.in_ok-first.was) c.all.ensures.list)

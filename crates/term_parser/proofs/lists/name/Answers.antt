-- `name` meets its contract.
use mathlib.Core.Path.{refl, ap}
use native.Mathlib.Omega.{arith}
use Rattle.std.specs.Prelude.{Ok}
use Rattle.refusals.specs.Refused.{handed_on}
use Rattle.term_parser.specs.Steps.{step}
use Rattle.term_parser.proofs.ListLaws.{name_there, name_answers, name_refused}
use Rattle.term_parser.proofs.lists.name.Goals as goal

pub returns-in_err-t : goal.returns-in_err-t
returns-in_err-t c =
    let refused = c.in_err-t.ensures in
    rw (handed_on c.from_residual.result c.from_residual.ensures.1, refused.1) (name_refused c.args.input.tokens.now c.requires refl refused.0 refl)

pub push-requires : goal.push-requires
push-requires c =
    let pre = c.requires in
    let t = c.in_ok-t.ensures in
    let h = name_there c.args.input.tokens.now pre t.0 t.1 in
    (omega (arith, pre.lent, pre.below), omega (arith, pre.small, pre.below), omega (arith, pre.small))

pub returns : goal.returns
returns c =
    let t = c.in_ok-t.ensures in
    name_answers c.args.input.tokens.now c.requires t.0 t.1 (ap (λ r. step (Ok r)) c.push.ensures.0) c.push.ensures.1

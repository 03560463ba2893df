-- `instantiate_arguments` meets its contract.
use Rattle.refusals.specs.Refused.{handed_on}
use Rattle.clause_matching.proofs.PatternOf.{part_long, part_cell}
use Rattle.clause_matching.proofs.Arguments.{turn_start, next_asked, turn_refused, turn_next, turn_done}
use Rattle.clause_matching.proofs.building.instantiate_arguments.Goals as goal

pub loop-k-init : goal.loop-k-init
loop-k-init c = turn_start c.requires

pub instantiate-requires : goal.instantiate-requires
instantiate-requires c =
    let l = rw (part_long c.args.pattern.now c.args.first _ c.requires.inside) at c.loop-k-test.true in
    rw (part_cell c.args.pattern.now c.args.first _ c.loop-k.k l) (next_asked c.loop-k.invariant l)

pub returns-in_err-built : goal.returns-in_err-built
returns-in_err-built c =
    let l = rw (part_long c.args.pattern.now c.args.first _ c.requires.inside) at c.loop-k-test.true in
    let i = rw (part_cell c.args.pattern.now c.args.first _ c.loop-k.k l) at c.instantiate.ensures in
    rw (handed_on c.from_residual.result c.from_residual.ensures.1)
    (turn_refused c.loop-k.invariant l i _ c.in_err-built.was _)

pub loop-k-preserved : goal.loop-k-preserved
loop-k-preserved c =
    let l = rw (part_long c.args.pattern.now c.args.first _ c.requires.inside) at c.loop-k-test.true in
    let i = rw (part_cell c.args.pattern.now c.args.first _ c.loop-k.k l) at c.instantiate.ensures in
    turn_next c.loop-k.invariant l i _ _ c.in_ok-built.was _ c.instantiate.auto.stack

pub returns : goal.returns
returns c = turn_done c.loop-k.invariant (rw (part_long c.args.pattern.now c.args.first _ c.requires.inside) at c.loop-k-test.false)

-- `enter_names` meets its contract: one name more is entered.
use Rattle.std.proofs.Common.{arith}
use Rattle.goals.specs.StoringLaws.{entered_row}
use Rattle.goals.proofs.enter_names.Goals as goal

pub loop-i-preserved : goal.loop-i-preserved
loop-i-preserved c =
    let loop = c.loop-i in
    entered_row c.args.variables.now c.args.counter loop.names loop.i (omega (arith, c.loop-i-test.true, c.requires.1)) loop.invariant

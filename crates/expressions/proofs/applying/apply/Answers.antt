-- `apply` meets its contract: a function is called, a constructor built.
use Rattle.refusals.specs.Refused.{handed_on}
use Rattle.expressions.proofs.Applications.{call_asked, called, not_built, is_built}
use Rattle.expressions.proofs.applying.apply.Goals as goal

pub call-requires : goal.call-requires
call-requires c = call_asked c.requires c.if-program-i-eq-FUNCTION.true

pub returns-then-program-i-eq-FUNCTION-clause-answered : goal.returns-then-program-i-eq-FUNCTION-clause-answered
returns-then-program-i-eq-FUNCTION-clause-answered c = called c.requires c.if-program-i-eq-FUNCTION.true c.call.ensures.answered

pub returns-in_err-built-clause-answered : goal.returns-in_err-built-clause-answered
returns-in_err-built-clause-answered c =
    rw (handed_on c.from_residual.result c.from_residual.ensures.1)
    (not_built c.requires c.if-program-i-eq-FUNCTION.false (rw c.room.ensures at c.build.ensures) c.in_err-built.was)

pub returns-clause-answered : goal.returns-clause-answered
returns-clause-answered c = rw c.of_built.ensures (is_built c.requires c.if-program-i-eq-FUNCTION.false (rw c.room.ensures at c.build.ensures) c.in_ok-built.was)

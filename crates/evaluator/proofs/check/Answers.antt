-- `check` meets its contract: rows that fail their test are not readable.
use Rattle.refusals.specs.Refused.{handed_on, none_is}
use Rattle.evaluator.proofs.TestingLaws.{no_term}
use Rattle.evaluator.proofs.check.Goals as goal

pub returns-in_err-ok_or : goal.returns-in_err-ok_or
returns-in_err-ok_or c =
    rw (handed_on c.from_residual.result c.from_residual.ensures.1)
    (none_is c.check_term.result c.in_err-ok_or.ensures.ok_part c.in_err-ok_or.ensures.value, no_term c.check_term.ensures c.in_err-ok_or.ensures.ok_part)

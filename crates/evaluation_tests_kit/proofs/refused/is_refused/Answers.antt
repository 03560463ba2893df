-- `is_refused` meets its contract: 1 is the number of `Storage` alone.
use Rattle.evaluation_tests_kit.proofs.RefusalLaws.{told_refused}
use Rattle.evaluation_tests_kit.proofs.refused.is_refused.Goals as goal

pub returns : goal.returns
returns t c = told_refused c.args.answer c.err.result c.err.ensures.value c.eq.ensures

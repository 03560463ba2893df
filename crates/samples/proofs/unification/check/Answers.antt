-- `check` is safe: the test before the call is what `check_bindings` asks.
use Rattle.checks.specs.ReadyLaws.{zeros_free}
use Rattle.samples.proofs.unification.check.Goals as goal

pub check_bindings-answer-requires : goal.check_bindings-answer-requires
check_bindings-answer-requires c =
    let u = c.is_unmarked.ensures.yes (c.if-not-is_unmarked.false) in
    let s = u.stored in
    record { fact_1 = s.formed; fact_2 = (s.few, s.low, s.lent); fact_3 = zeros_free u.zeros }

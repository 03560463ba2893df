-- `pattern_at` meets its contract.
use Rattle.terms.specs.Numbers.{less_yes, less_no}
use Rattle.clause_matching.proofs.PatternOf.{is_low, is_high}
use Rattle.clause_matching.proofs.references.pattern_at.Goals as goal

pub returns-in-None : goal.returns-in-None
returns-in-None c = rw (less_yes (is_low _ c.checked_sub.ensures c.in-None.is))

pub returns-in-Some : goal.returns-in-Some
returns-in-Some c =
    let (high, e) = is_high _ c.checked_sub.ensures c.in-Some.is in
    rw (e, less_no high)

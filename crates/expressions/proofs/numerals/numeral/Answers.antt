-- `numeral` meets its contract: one law for each way out.
use native.Mathlib.Omega.{arith}
use mathlib.Core.Path.{refl, sym}
use mathlib.Core.List.{[]}
use Rattle.refusals.specs.Refused.{handed_on}
use Rattle.expressions.proofs.Misuses.{found_wrong, found_nothing}
use Rattle.expressions.proofs.Numbering.{not_found, numeral_refused, tower_asked, numeral_built}
use Rattle.expressions.proofs.numerals.numeral.Goals as goal

pub returns-in_err-numerals : goal.returns-in_err-numerals
returns-in_err-numerals c = rw (handed_on c.from_residual.result c.from_residual.ensures.1) (not_found _ _ c.requires c.find.ensures.found c.in_err-numerals.was)

pub returns-in_err-check_numeral : goal.returns-in_err-check_numeral
returns-in_err-check_numeral c =
    rw (handed_on c.from_residual-in_err-check_numeral.result c.from_residual-in_err-check_numeral.ensures.1)
    (numeral_refused _ _ c.requires c.find.ensures.found c.in_ok-numerals.was
    (λ l t s. (found_wrong (rw c.in_ok-numerals.ensures.same at (c.check_numeral.ensures l t s)) c.in_err-check_numeral.was).0) refl
    (λ z. let w = found_wrong (c.check_numeral.ensures 0 [] []) c.in_err-check_numeral.was in omega arith))

pub tower-requires : goal.tower-requires
tower-requires c = rw c.in_ok-numerals.ensures.same (
    tower_asked _ _ c.requires c.find.ensures.found c.in_ok-numerals.was
    (λ l t s. sym (found_nothing (rw c.in_ok-numerals.ensures.same at (c.check_numeral.ensures l t s)) c.in_ok-check_numeral.was)) [] refl)

pub returns : goal.returns
returns c =
    numeral_built _ _ c.requires c.find.ensures.found c.in_ok-numerals.was
    (λ l t s. sym (found_nothing (rw c.in_ok-numerals.ensures.same at (c.check_numeral.ensures l t s)) c.in_ok-check_numeral.was)) [] refl (rw c.in_ok-numerals.ensures.same at c.tower.ensures)

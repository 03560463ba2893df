-- `declare_symbol` meets its contract: the symbol is refused, or it is one more.
use mathlib.Core.Path.{◌≡◌, refl}
use Prim.Native.Nat.{◌+◌}
use native.Mathlib.Omega.{arith}
use Rattle.refusals.specs.Refused.{handed_on}
use Rattle.declarations.proofs.UsedLaws.{answered_used}
use Rattle.declarations.proofs.declare_symbol.Goals as goal

pub returns-in_err-enter_symbol : goal.returns-in_err-enter_symbol
returns-in_err-enter_symbol c =
    let q : c.args.source.at + 1 + 1 ≡ c.args.source.at + 2 = omega arith in
    let h = answered_used (omega (arith, c.requires.sorts_lent, c.requires.few_sorts)) (rw (c.from_row.ensures, q, c.from.ensures) at c.in_err-enter_symbol.ensures) in
    rw (handed_on c.from_residual.result c.from_residual.ensures.1)
    (record { refusal = h.number; is = h.answer; entered = h.comes_to })

pub returns : goal.returns
returns c =
    let q : c.args.source.at + 1 + 1 ≡ c.args.source.at + 2 = omega arith in
    let h = answered_used (omega (arith, c.requires.sorts_lent, c.requires.few_sorts)) (rw (c.from_row.ensures, q, c.from.ensures) at c.in_ok-enter_symbol.ensures) in
    record { refusal = h.number; is = (h.answer, refl); entered = h.comes_to }

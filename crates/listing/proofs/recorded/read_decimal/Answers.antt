-- `read_decimal` meets its contract: the number at the place.
-- The loop's invariant: what is left to read makes, behind the value so far, that number; at most 20 digits are read, and the value stays small.
use Prim.Native.Nat.{◌+◌, ◌-◌}
use mathlib.Core.Path.{◌≡◌, refl, sym, ap, ◌∙◌}
use Rattle.listing.specs.Recorded.{digit_at, decimal_from, decimal_at}
use Rattle.listing.specs.RecordedLaws.{read_none, read_some, decimal_stop, decimal_end, decimal_again}
use native.Mathlib.Omega.{arith}
use Rattle.listing.proofs.recorded.read_decimal.Goals as goal

pub loop-i-init : goal.loop-i-init
loop-i-init c = (
  omega arith,
  let e : c.args.at + 0 ≡ c.args.at = omega arith in
      ap (λ k. decimal_from 20 (c.args.list.now) k 0) e,
)

pub returns-in_default : goal.returns-in_default
returns-in_default c =
    let i = c.loop-i.i in
    let stop = read_none (digit_at c.args.list.now (c.args.at + i)) (sym c.digit.ensures.is ∙ c.in_default.is) in
    record { is = sym (decimal_stop c.args.list.now (20 - i) (c.args.at + i) c.loop-i.value stop) ∙ c.loop-i.invariant.1; near = (omega arith, omega arith, omega arith) }

pub loop-i-preserved : goal.loop-i-preserved
loop-i-preserved c =
    let d = read_some (digit_at c.args.list.now (c.args.at + c.loop-i.i)) c.in-Some.d (sym c.digit.ensures.is ∙ c.in-Some.is) in (
      omega (arith, c.min-value.ensures),
      decimal_again c.args.list.now c.args.at c.loop-i.value c.loop-i.i c.in-Some.d c.min-value.result c.loop-i-test.true (sym d.0) (omega (arith, d.1, d.0)) c.min-value.ensures ∙ c.loop-i.invariant.1,
    )

pub returns : goal.returns
returns c =
    let i : c.loop-i.i ≡ 20 = omega arith in
    let e : decimal_from 0 c.args.list.now (c.args.at + 20) c.loop-i.value ≡ decimal_at c.args.list.now c.args.at = rw i at c.loop-i.invariant.1 in
    record { is = sym (decimal_end c.args.list.now 0 (c.args.at + 20) c.loop-i.value refl) ∙ e; near = (omega arith, omega arith, omega arith) }

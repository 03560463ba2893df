-- `value` meets its contract: each way out is the numeral from the loop's place on.
use mathlib.Core.Path.{◌≡◌, sym, ap, ◌∙◌}
use Prim.Native.Nat.{ℕ, ◌+◌, ◌-◌, ◌*◌}
use lib.ListN.{get_or, drop}
use borrow.Author.Rules.{rules}
use borrow.Author.Tests.{eqb-true, eq-eqb}
use native.Mathlib.Omega.{arith}
use Rattle.source_text.proofs.Numbers.{digit_some, digit_none, numeral_empty, numeral_start, numeral_not, numeral_next, numeral_over, numeral_end, numeral_from}
use Rattle.source_text.proofs.numerals.value.Goals as goal

pub returns-then-is_empty : goal.returns-then-is_empty
returns-then-is_empty c = sym (numeral_empty c.args.w.now (eqb-true _ _ (sym c.is_empty.ensures ∙ c.if-is_empty.true)))

pub loop-c-init : goal.loop-c-init
loop-c-init c = (omega arith, numeral_start c.args.w.now (λ e. let z : ◌≡◌ {A = ℕ} 0 1 = grind (arith, eq-eqb _ _ e) in omega arith))

pub returns-in_err-d : goal.returns-in_err-d
returns-in_err-d c =
    c.from_residual.ensures ∙ sym (c.loop-c.invariant.1 ∙ numeral_not c.args.w.now c.loop-c.c-index c.loop-c.v c.loop-c-test.true (digit_none (get_or c.args.w.now c.loop-c.c-index 0) (sym c.digit.ensures ∙ c.in_err-d.was)))

pub returns-in_err-checked_mul : goal.returns-in_err-checked_mul
returns-in_err-checked_mul c =
    let d = digit_some (get_or c.args.w.now c.loop-c.c-index 0) c.in_ok-d.d (sym c.digit.ensures ∙ c.in_ok-d.was) in
    c.from_residual-in_err-checked_mul.ensures ∙ sym (c.loop-c.invariant.1 ∙ numeral_over c.args.w.now c.loop-c.c-index c.loop-c.v c.loop-c-test.true d.0 (omega (arith, c.in_err-checked_mul.ensures)))

pub returns-in_err-v : goal.returns-in_err-v
returns-in_err-v c =
    let d = digit_some (get_or c.args.w.now c.loop-c.c-index 0) c.in_ok-d.d (sym c.digit.ensures ∙ c.in_ok-d.was) in
    c.from_residual-in_err-v.ensures ∙ sym (c.loop-c.invariant.1 ∙ numeral_over c.args.w.now c.loop-c.c-index c.loop-c.v c.loop-c-test.true d.0 (omega (arith, c.in_ok-checked_mul.ensures, c.in_err-v.ensures, c.from.ensures, d.1)))

pub loop-c-preserved : goal.loop-c-preserved
loop-c-preserved c =
    let d = digit_some (get_or c.args.w.now c.loop-c.c-index 0) c.in_ok-d.d (sym c.digit.ensures ∙ c.in_ok-d.was) in
    let v : c.loop-c.v * 10 + (get_or c.args.w.now c.loop-c.c-index 0 - 48) ≡ c.in_ok-v.v = omega (arith, c.in_ok-checked_mul.ensures, c.in_ok-v.ensures, c.from.ensures, d.1) in (
      search rules,
      c.loop-c.invariant.1 ∙ numeral_next c.args.w.now c.loop-c.c-index c.loop-c.v c.loop-c-test.true d.0 ∙ ap (λ n. numeral_from n (drop (c.loop-c.c-index + 1) c.args.w.now)) v,
    )

pub returns : goal.returns
returns c = sym (c.loop-c.invariant.1 ∙ numeral_end c.args.w.now c.loop-c.c-index c.loop-c.v (omega arith) (omega arith))

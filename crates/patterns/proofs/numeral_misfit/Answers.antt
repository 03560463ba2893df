-- `numeral_misfit` meets its contract. The loop's invariant: what is left is refused for the same.
use mathlib.Core.Path.{◌≡◌, refl, sym, ap, ◌∙◌}
use Prim.Native.Nat.{◌-◌, ◌+◌}
use Rattle.names.specs.Symbols.{Symbol, row_at, symbol_of}
use Rattle.patterns.specs.Promises.{refusal}
use Rattle.refusals.specs.Refused.{handed_on, none_is}
use Rattle.patterns.proofs.Variables.{room_left, room_none}
use Rattle.patterns.proofs.Numerals.{refuse_step, full_step, next_step, refuse_end, full_end, none_end, one_input}
use native.Mathlib.Omega.{arith}
use Rattle.patterns.proofs.numeral_misfit.Goals as goal

pub loop-k-init : goal.loop-k-init
loop-k-init c = λ text. let e : c.args.n - 0 ≡ c.args.n = omega arith in rw e refl

pub returns-in_err-misfit : goal.returns-in_err-misfit
returns-in_err-misfit c =
    λ text. rw (handed_on c.from_residual.result c.from_residual.ensures.1) (
      refuse_step (symbol_of text (row_at c.args.numerals.symbols.now c.args.numerals.succ)) (symbol_of text (row_at c.args.numerals.symbols.now c.args.numerals.zero)) c.loop-k.s c.loop-k.m (c.args.n - c.loop-k._k) (c.in_err-misfit.ensures text).0 (c.in_err-misfit.ensures text).1 (omega (arith, c.loop-k-test.true))
          ∙ sym (c.loop-k.invariant text),
      (c.in_err-misfit.ensures text).1,
    )

pub returns-in_err-m : goal.returns-in_err-m
returns-in_err-m c =
    λ text. rw (handed_on c.from_residual-in_err-m.result c.from_residual-in_err-m.ensures.1, none_is c.checked_sub.result c.in_err-m.ensures.ok_part c.in_err-m.ensures.value) (
      full_step (symbol_of text (row_at c.args.numerals.symbols.now c.args.numerals.succ)) (symbol_of text (row_at c.args.numerals.symbols.now c.args.numerals.zero)) c.loop-k.s c.loop-k.m (c.args.n - c.loop-k._k) (c.in_ok-misfit.ensures text) (room_none c.checked_sub.ensures c.in_err-m.ensures.ok_part) (omega (arith, c.loop-k-test.true))
          ∙ sym (c.loop-k.invariant text),
      omega arith,
    )

pub loop-k-preserved : goal.loop-k-preserved
loop-k-preserved c =
    λ text.
    let f : Symbol = symbol_of text (row_at c.args.numerals.symbols.now c.args.numerals.succ) in
    let g : Symbol = symbol_of text (row_at c.args.numerals.symbols.now c.args.numerals.zero) in
    let k : c.args.n - (c.loop-k._k + 1) ≡ c.args.n - c.loop-k._k - 1 = omega arith in
    let (l, e) = room_left c.checked_sub.ensures c.in_ok-m.ensures.ok_part in
    rw (k, e) (c.loop-k.invariant text
    ∙ next_step f g c.loop-k.s c.loop-k.m (c.args.n - c.loop-k._k) (c.in_ok-misfit.ensures text) l (omega (arith, c.loop-k-test.true))
    ∙ ap (λ x. refusal f g (c.args.n - c.loop-k._k - 1) x (c.loop-k.m - 1)) (one_input text (row_at c.args.numerals.symbols.now c.args.numerals.succ) c.loop-k.s (c.in_ok-misfit.ensures text)))

pub returns-in_err-misfit-2 : goal.returns-in_err-misfit-2
returns-in_err-misfit-2 c =
    λ text.
    let f : Symbol = symbol_of text (row_at c.args.numerals.symbols.now c.args.numerals.succ) in
    let g : Symbol = symbol_of text (row_at c.args.numerals.symbols.now c.args.numerals.zero) in
    let z : c.args.n - c.loop-k._k ≡ 0 = omega (arith, c.loop-k-test.false) in
    rw (handed_on c.from_residual-in_err-misfit-2.result c.from_residual-in_err-misfit-2.ensures.1) (
      refuse_end f g c.loop-k.s c.loop-k.m (c.in_err-misfit-2.ensures text).0 (c.in_err-misfit-2.ensures text).1
          ∙ ap (λ x. refusal f g x c.loop-k.s c.loop-k.m) (sym z) ∙ sym (c.loop-k.invariant text),
      (c.in_err-misfit-2.ensures text).1,
    )

pub returns-then-m-eq0 : goal.returns-then-m-eq0
returns-then-m-eq0 c =
    λ text.
    let f : Symbol = symbol_of text (row_at c.args.numerals.symbols.now c.args.numerals.succ) in
    let g : Symbol = symbol_of text (row_at c.args.numerals.symbols.now c.args.numerals.zero) in
    let z : c.args.n - c.loop-k._k ≡ 0 = omega (arith, c.loop-k-test.false) in (
      full_end f g c.loop-k.s c.loop-k.m (c.in_ok-misfit-2.ensures text) c.if-m-eq0.true
          ∙ ap (λ x. refusal f g x c.loop-k.s c.loop-k.m) (sym z) ∙ sym (c.loop-k.invariant text),
      omega arith,
    )

pub returns : goal.returns
returns c =
    λ text.
    let f : Symbol = symbol_of text (row_at c.args.numerals.symbols.now c.args.numerals.succ) in
    let g : Symbol = symbol_of text (row_at c.args.numerals.symbols.now c.args.numerals.zero) in
    let z : c.args.n - c.loop-k._k ≡ 0 = omega (arith, c.loop-k-test.false) in
    none_end f g c.loop-k.s c.loop-k.m (c.in_ok-misfit-2.ensures text) (omega (arith, c.if-m-eq0.false))
    ∙ ap (λ x. refusal f g x c.loop-k.s c.loop-k.m) (sym z) ∙ sym (c.loop-k.invariant text)

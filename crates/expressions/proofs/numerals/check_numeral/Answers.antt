-- `check_numeral` meets its contract: one law for each way out.
use native.Mathlib.Omega.{arith}
use Prim.Native.Nat.{◌≤◌}
use mathlib.Core.Path.{sym}
use lib.ListN.{length}
use Rattle.expressions.proofs.Misuses.{misuse_inputs, misuse_deep, misuse_zero, misuse_none}
use Rattle.expressions.proofs.numerals.check_numeral.Goals as goal
use Rattle.expressions.proofs.numerals.check_numeral.Goals.{else-n-gt0-via-then-n-gt0+else-symbols-succ-ne1, else-n-gt0-via-else-n-gt0}

pub returns-then-symbols-succ-ne1 : goal.returns-then-symbols-succ-ne1
returns-then-symbols-succ-ne1 c = λ limit text rules.
    let e = misuse_inputs text c.args.numerals.symbols.now _ _ _ _ _ (let z : length c.args.numerals.symbols.now ≤ length c.args.numerals.symbols.now = omega arith in (z, c.args.numerals.inside.1, c.args.numerals.inside.0, c.requires)) limit rules c.if-n-gt0.true c.if-symbols-succ-ne1.true in (e, omega arith)

pub returns-then-depth-n : goal.returns-then-depth-n
returns-then-depth-n c = λ limit text rules.
    let e = misuse_deep text c.args.numerals.symbols.now _ _ _ _ _ (let z : length c.args.numerals.symbols.now ≤ length c.args.numerals.symbols.now = omega arith in (z, c.args.numerals.inside.1, c.args.numerals.inside.0, c.requires)) limit rules
    (λ l. elim c.else-n-gt0.branch [ else-n-gt0-via-then-n-gt0+else-symbols-succ-ne1 w ↦ w.if-symbols-succ-ne1.false | else-n-gt0-via-else-n-gt0 w ↦ let m = w.if-n-gt0.false in absurd (let z : ⊥ = omega arith in z) ])
    c.if-depth-n.true in (e, omega arith)

pub returns-then-symbols-zero-ne0 : goal.returns-then-symbols-zero-ne0
returns-then-symbols-zero-ne0 c = λ limit text rules.
    let e = misuse_zero text c.args.numerals.symbols.now _ _ _ _ _ (let z : length c.args.numerals.symbols.now ≤ length c.args.numerals.symbols.now = omega arith in (z, c.args.numerals.inside.1, c.args.numerals.inside.0, c.requires)) limit rules
    (λ l. elim c.else-n-gt0.branch [ else-n-gt0-via-then-n-gt0+else-symbols-succ-ne1 w ↦ w.if-symbols-succ-ne1.false | else-n-gt0-via-else-n-gt0 w ↦ let m = w.if-n-gt0.false in absurd (let z : ⊥ = omega arith in z) ])
    c.if-depth-n.false c.if-symbols-zero-ne0.true in (e, omega arith)

pub returns : goal.returns
returns c = λ limit text rules. sym (
    misuse_none text c.args.numerals.symbols.now _ _ _ _ _ (let z : length c.args.numerals.symbols.now ≤ length c.args.numerals.symbols.now = omega arith in (z, c.args.numerals.inside.1, c.args.numerals.inside.0, c.requires)) limit rules
    (λ l. elim c.else-n-gt0.branch [ else-n-gt0-via-then-n-gt0+else-symbols-succ-ne1 w ↦ w.if-symbols-succ-ne1.false | else-n-gt0-via-else-n-gt0 w ↦ let m = w.if-n-gt0.false in absurd (let z : ⊥ = omega arith in z) ])
    c.if-depth-n.false c.if-symbols-zero-ne0.false)

-- `numeral_words` meets its contract. The loop's invariant: k times `succ` on `zero` are laid.
use mathlib.Core.Path.{◌≡◌, refl, sym, ap, ◌∙◌}
use mathlib.Core.List.{[], ◌∷◌}
use Prim.Native.Nat.{suc, ◌+◌, ◌*◌}
use lib.ListN.{set, length-set}
use Rattle.patterns.specs.Laying.{laid}
use Rattle.patterns.proofs.Numerals.{tower_start, tower_step}
use native.Mathlib.Omega.{arith}
use Rattle.patterns.proofs.numeral_words.Goals as goal

pub loop-k-init : goal.loop-k-init
loop-k-init c =
    let u : c.args.used + 1 + 2 * 0 ≡ c.args.used + 1 = omega arith in (
      refl,
      λ v e. rw u (tower_start v (c.args.used) (c.args.numerals.succ) (c.args.numerals.zero)
          ∙ ap (λ x. laid ((64 + c.args.used) ∷ []) x (c.args.used + 1)) (sym e)),
    )

pub loop-k-preserved : goal.loop-k-preserved
loop-k-preserved c =
    let loop = c.loop-k in
    let args = c.args in
    let u = args.used + 1 + 2 * loop.k in
    let b : args.used + 1 + 2 * (loop.k + 1) ≡ u + 2 = omega arith in
    let d : u + 1 ≡ suc u = omega arith in
    let h : c.header_of-h.result ≡ 1048577 + 32 * args.numerals.succ = omega (arith, c.header_of-h.ensures) in
    let w = rw h at c.push_node.ensures in (
      rw w (length-set (set loop.words u _) (suc u) _
          ∙ length-set loop.words u _
          ∙ loop.invariant.0),
      λ v e. rw (w, b) (rw d at (tower_step v args.used args.numerals.succ args.numerals.zero loop.k loop.r loop.words u (loop.invariant.1 v e))),
    )

pub returns : goal.returns
returns c =
    let loop = c.loop-k in
    let args = c.args in
    let kn : loop.k ≡ args.n = omega (arith, c.loop-k-test.false) in
    let h : c.header_of.result ≡ 1048576 + 32 * args.numerals.zero = omega (arith, c.header_of.ensures) in
    rw kn at (loop.invariant.1 (args.words.now) (ap (set args.words.now args.used) h))

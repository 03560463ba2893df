-- `check_term` meets its contract: it answers where the term ends, exactly if there is one.
-- The loop's invariant: there is a term exactly if what the table says is still to come stands in the rows from `p` on. The measure falls with each row
-- that is passed, and with each level that is left.
use native.Mathlib.Omega.{arith}
use Prim.Native.Nat.{◌-◌, ◌<◌}
use mathlib.Core.Path.{◌≡◌, ◌∙◌, refl, sym, ap}
use mathlib.Core.List.{[]}
use lib.ListN.{length, get_or, length-set}
use Rattle.std.specs.Prelude.{unwrap_or, option_map}
use Rattle.term_check.specs.WalkLaws.{walk_starts, walk_ends, walk_up, walk_short, walk_deep, walk_bad, walk_down}
use Rattle.term_check.proofs.check_term.Goals as goal

pub loop-top-init : goal.loop-top-init
loop-top-init c = (walk_starts _ _ _ _ refl, refl)

pub loop-top-preserved-in_default-checked_sub : goal.loop-top-preserved-in_default-checked_sub
loop-top-preserved-in_default-checked_sub c =
    let q : c.in-Some.top ≡ c.loop-top.d - 1 = omega (arith, c.in-Some.ensures) in
    let e = rw q at c.in_default-checked_sub.ensures in
    (rw q (walk_up c.loop-top.invariant.0 (omega (arith, c.in-Some.ensures)) (omega (arith, e))), c.loop-top.invariant.1)

pub returns-then-d-ge-LEVELS : goal.returns-then-d-ge-LEVELS
returns-then-d-ge-LEVELS c =
    let q : c.in-Some.top ≡ c.loop-top.d - 1 = omega (arith, c.in-Some.ensures) in
    let e = rw q at c.in-Some-checked_sub.ensures in
    walk_deep c.loop-top.invariant.0 (omega (arith, c.in-Some.ensures)) _ refl (omega (arith, e)) c.if-d-ge-LEVELS.true

pub returns-in_err-get : goal.returns-in_err-get
returns-in_err-get c =
    let q : c.in-Some.top ≡ c.loop-top.d - 1 = omega (arith, c.in-Some.ensures) in
    let e = rw q at c.in-Some-checked_sub.ensures in
    rw c.from_residual.ensures (walk_short c.loop-top.invariant.0 (omega (arith, c.in-Some.ensures)) _ refl (omega (arith, e)) (omega (arith, c.in_err-get.ensures)))

pub returns-in_err-count : goal.returns-in_err-count
returns-in_err-count c =
    let q : c.in-Some.top ≡ c.loop-top.d - 1 = omega (arith, c.in-Some.ensures) in
    let e = rw q at c.in-Some-checked_sub.ensures in
    let at_p : c.in_ok-get.field-0.now ≡ get_or c.args.source.rows.now c.loop-top.p [] = ap (λ r. unwrap_or (option_map (λ x. x.now) r) []) (sym c.in_ok-get.was) ∙ c.get.ensures.lookup.4 (omega (arith, rw c.in_ok-get.was at c.get.ensures.lookup.3)) [] in
    rw c.from_residual-in_err-count.ensures (walk_bad c.loop-top.invariant.0 (omega (arith, c.in-Some.ensures)) _ refl (omega (arith, e)) (rw (at_p, c.in_err-count.was) at c.top_of.ensures))

pub loop-top-preserved : goal.loop-top-preserved
loop-top-preserved c =
    let q : c.in-Some.top ≡ c.loop-top.d - 1 = omega (arith, c.in-Some.ensures) in
    let e = rw q at c.in-Some-checked_sub.ensures in
    let walking = c.loop-top.invariant.0 in
    let inside : c.loop-top.p < length c.args.source.rows.now = omega (arith, rw c.in_ok-get.was at c.get.ensures.lookup.3) in
    let at_p : c.in_ok-get.field-0.now ≡ get_or c.args.source.rows.now c.loop-top.p [] = ap (λ r. unwrap_or (option_map (λ x. x.now) r) []) (sym c.in_ok-get.was) ∙ c.get.ensures.lookup.4 (omega (arith, inside)) [] in
    let long = c.loop-top.invariant.1 in (
      rw (q, let r : c.in-Some-checked_sub.rest ≡ get_or c.loop-top.left (c.loop-top.d - 1) 0 - 1 = omega (arith, e) in r) (walk_down walking (omega (arith, c.in-Some.ensures)) _ refl (omega (arith, e)) _ inside (rw (at_p, c.in_ok-count.was) at c.top_of.ensures) (omega arith) (omega (arith, long))),
      simp length-set long,
    )

pub returns : goal.returns
returns c = walk_ends c.loop-top.invariant.0 (omega (arith, c.in_default.ensures))

-- `skip` meets its contract. The loop's invariant: so many terms are left from the row p on.
use Rattle.clauses.proofs.SkipLaws.{left_start, left_turn, left_end, left_past}
use Rattle.terms.specs.Numbers.{by_less}
use lib.ListN.{length}
use Prim.Native.Nat.{◌≤◌, ◌-◌}
use mathlib.Core.Path.{◌≡◌}
use native.Mathlib.Omega.{arith}
use Rattle.clauses.proofs.skip.Goals as goal

pub loop-p-init : goal.loop-p-init
loop-p-init c = (omega arith, omega arith, left_start (c.args.rows.now) (c.args.at) (c.args.n))

pub returns-in_default : goal.returns-in_default
returns-in_default c =
    let loop = c.loop-p in
    record {
      onward = loop.auto.p;
      behind = left_end (c.args.rows.now) (c.args.at) (c.args.n) (loop.p) (loop.left) (loop.invariant.2) (omega arith);
    }

pub loop-p-preserved : goal.loop-p-preserved
loop-p-preserved c =
    let loop = c.loop-p in
    let args = c.args in
    let e = c.arity.ensures.value in
    let f = c.arity.ensures.upper_bound in
    let i = loop.invariant in
    let d : c.in-Some.rest ≡ loop.left - 1 = omega (arith, c.in-Some.ensures) in
    (omega (arith, loop.auto.p), omega (arith, c.loop-p-test.true), rw (e, d) (left_turn (args.rows.now) (args.at) (args.n) (loop.p) (loop.left) (loop.invariant.2) (omega (arith, c.in-Some.ensures))))

pub returns : goal.returns
returns c =
    let loop = c.loop-p in
    let args = c.args in
    let past : length args.rows.now ≤ loop.p = c.loop-p-test.false in
    let most = loop.invariant.1 in
    let e : c.max.result ≡ loop.p = omega (arith, loop.auto.p, c.max.ensures) in
    rw e (record {
      onward = loop.auto.p;
      behind = by_less 0 loop.left
          (λ l r. left_past args.rows.now args.at args.n loop.p loop.left loop.invariant.2 l past)
          (λ l r. left_end args.rows.now args.at args.n loop.p loop.left loop.invariant.2 (omega arith));
    })

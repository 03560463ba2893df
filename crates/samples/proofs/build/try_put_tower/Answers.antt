-- `try_put_tower` meets its contract: each node stands on the one before, and there is room for all.
use Rattle.std.proofs.Common.{◌+◌, ◌*◌, ◌≡◌, refl, arith}
use Rattle.samples.proofs.Towers.{risen, here, whole_is, least_end}
use Rattle.samples.proofs.build.try_put_tower.Goals as goal

pub loop-init : goal.loop-init
loop-init c = record { left = c.args.tower.height; is = omega arith; raises = refl; ahead = refl }

pub push_alike-requires : goal.push_alike-requires
push_alike-requires c =
    let h = here c.loop.invariant c.loop-test.true in
    let s = c.loop.auto.words in
    omega (arith, h, s)

pub overflow_add-root : goal.overflow_add-root
overflow_add-root c =
    let h = here c.loop.invariant c.loop-test.true in let e = least_end c.args.at c.args.tower.height c.args.tower.arity (omega arith) (omega arith) (omega arith) in omega (arith, h, e)

pub overflow_add-next-in-loop : goal.overflow_add-next-in-loop
overflow_add-next-in-loop c =
    let h = here c.loop.invariant c.loop-test.true in let e = least_end c.args.at c.args.tower.height c.args.tower.arity (omega arith) (omega arith) (omega arith) in omega (arith, h, e)

pub loop-preserved : goal.loop-preserved
loop-preserved c =
    let header : c.header_of-header.result ≡ 1048576 + 33 * c.args.tower.arity = omega (arith, c.header_of-header.ensures) in
    rw (c.push_alike.ensures, header) (risen c.loop.invariant c.loop-test.true)

pub returns : goal.returns
returns c = whole_is c.loop.invariant c.loop-test.false c.loop.auto.counter-end

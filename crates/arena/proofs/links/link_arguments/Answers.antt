-- `link_arguments` meets its contract. The loop's invariant: the pairs passed are linked, and there are no links below `floor`.
use native.Mathlib.Omega.{arith}
use mathlib.Core.Path.{◌≡◌, subst}
use mathlib.Core.Bool.{true}
use lib.ListN.{length, length-append}
use borrow.Author.Tests.{not-true, not-false}
use Rattle.std.proofs.lemmas.Slice.Zip.{zip_turn, zip_end}
use Rattle.arena.proofs.Linking.{Pairs, pair_linkable, pair_linked, pair_stop}
use Rattle.arena.proofs.links.link_arguments.Goals as goal

pub link-step-requires : goal.link-step-requires
link-step-requires c =
    let loop = c.loop-a in
    let z = zip_turn c.args.left.now c.args.right.now loop.yielded c.into_iter-a-iterator.result loop.a-iterator c.next.new.self c.next.result (cc) (cc) loop.yielded_by _ c.in-Some.is c.next.ensures.steps in
    rw (z.2 0, z.3 0) (pair_linkable c.args.room c.args.left.now c.args.right.now c.args.links.now c.args.low _ _ _ true c.requires loop.invariant z.0)

pub returns-then-not-step : goal.returns-then-not-step
returns-then-not-step c =
    let loop = c.loop-a in
    let z = zip_turn c.args.left.now c.args.right.now loop.yielded c.into_iter-a-iterator.result loop.a-iterator c.next.new.self c.next.result (cc) (cc) loop.yielded_by _ c.in-Some.is c.next.ensures.steps in
    let j = rw (z.2 0, z.3 0) at c.link-step.ensures in
    pair_stop c.args.room c.args.left.now c.args.right.now c.args.links.now c.args.low loop.links _ (length loop.yielded) loop.floor _ _ loop.invariant j z.0 (not-true _ c.if-not-step.true)

pub loop-a-preserved : goal.loop-a-preserved
loop-a-preserved c =
    let loop = c.loop-a in
    let z = zip_turn c.args.left.now c.args.right.now loop.yielded c.into_iter-a-iterator.result loop.a-iterator c.next.new.self c.next.result (cc) (cc) loop.yielded_by _ c.in-Some.is c.next.ensures.steps in
    let j = rw (z.2 0, z.3 0) at c.link-step.ensures in
    rw (length-append loop.yielded _)
    (pair_linked c.args.room c.args.left.now c.args.right.now c.args.links.now c.args.low loop.links _ (length loop.yielded) loop.floor _ _ loop.invariant j (not-false _ c.if-not-step.false))

pub returns : goal.returns
returns c =
    let loop = c.loop-a in
    let z = zip_end c.args.left.now c.args.right.now loop.yielded c.into_iter-a-iterator.result loop.a-iterator c.next.new.self c.next.result (cc) (cc) loop.yielded_by c.in-None.is c.next.ensures.steps in
    let all : length loop.yielded ≡ length c.args.left.now = omega (arith, z, c.requires.like) in
    subst (λ n. Pairs c.args.room c.args.left.now c.args.right.now c.args.links.now c.args.low loop.links n loop.floor true) all loop.invariant

-- `link` meets its contract. The loop's invariant: p and q have to be the same, by the links, exactly where a and b have to be, by the first links.
use Rattle.arena.specs.Rows.{one_more}
use Rattle.arena.proofs.Linking.{link_order, link_in, link_same, link_clash, link_new, link_step}
use Rattle.std.proofs.Math.Nat.{max-add-min}
use native.Mathlib.Omega.{arith}
use Rattle.arena.proofs.links.link.Goals as goal

pub returns-then-lower-room : goal.returns-then-lower-room
returns-then-lower-room c =
    let args = c.args in
    let loop = c.loop-p in
    let high = c.max-high in
    let lower = c.min-lower in
    let loop-test = c.loop-p-test in
    let if1 = c.if-lower-room in
    let o = link_order args.room args.links.now args.a args.b loop.links loop.p loop.q high.result lower.result loop.invariant loop-test.true high.ensures lower.ensures in
    link_clash args.room args.links.now args.a args.b loop.links high.result lower.result args.low o.0 o.1 if1.true

pub offset_bounds-links-at : goal.offset_bounds-links-at
offset_bounds-links-at c =
    let args = c.args in
    let loop = c.loop-p in
    let high = c.max-high in
    let lower = c.min-lower in
    let loop-test = c.loop-p-test in
    let pre = c.requires in
    let o = link_order args.room args.links.now args.a args.b loop.links loop.p loop.q high.result lower.result loop.invariant loop-test.true high.ensures lower.ensures in
    let b = link_in args.room args.links.now args.a args.b loop.links high.result lower.result o.0 pre in
    omega (arith, b)

pub bounds-links-at : goal.bounds-links-at
bounds-links-at c =
    let args = c.args in
    let loop = c.loop-p in
    let high = c.max-high in
    let lower = c.min-lower in
    let loop-test = c.loop-p-test in
    let pre = c.requires in
    let o = link_order args.room args.links.now args.a args.b loop.links loop.p loop.q high.result lower.result loop.invariant loop-test.true high.ensures lower.ensures in
    let b = link_in args.room args.links.now args.a args.b loop.links high.result lower.result o.0 pre in
    omega (arith, b, o.1)

pub offset_bounds-links-at-in_default : goal.offset_bounds-links-at-in_default
offset_bounds-links-at-in_default c =
    let args = c.args in
    let loop = c.loop-p in
    let high = c.max-high in
    let lower = c.min-lower in
    let loop-test = c.loop-p-test in
    let pre = c.requires in
    let o = link_order args.room args.links.now args.a args.b loop.links loop.p loop.q high.result lower.result loop.invariant loop-test.true high.ensures lower.ensures in
    let b = link_in args.room args.links.now args.a args.b loop.links high.result lower.result o.0 pre in
    omega (arith, b)

pub bounds-links-at-in_default : goal.bounds-links-at-in_default
bounds-links-at-in_default c =
    let args = c.args in
    let loop = c.loop-p in
    let high = c.max-high in
    let lower = c.min-lower in
    let loop-test = c.loop-p-test in
    let pre = c.requires in
    let o = link_order args.room args.links.now args.a args.b loop.links loop.p loop.q high.result lower.result loop.invariant loop-test.true high.ensures lower.ensures in
    let b = link_in args.room args.links.now args.a args.b loop.links high.result lower.result o.0 pre in
    omega (arith, b, o.1)

pub returns-in_default : goal.returns-in_default
returns-in_default c =
    let args = c.args in
    let loop = c.loop-p in
    let high = c.max-high in
    let lower = c.min-lower in
    let loop-test = c.loop-p-test in
    let pre = c.requires in
    let floor = c.min in
    let if1 = c.if-lower-room in
    let o = link_order args.room args.links.now args.a args.b loop.links loop.p loop.q high.result lower.result loop.invariant loop-test.true high.ensures lower.ensures in
    let b = link_in args.room args.links.now args.a args.b loop.links high.result lower.result o.0 pre in
    link_new args.room args.links.now args.a args.b loop.links high.result lower.result args.low floor.result o.0 o.1 if1.false b (omega arith) floor.ensures

pub overflow_add-links-in-loop-p : goal.overflow_add-links-in-loop-p
overflow_add-links-in-loop-p c =
    let args = c.args in
    let loop = c.loop-p in
    let high = c.max-high in
    let lower = c.min-lower in
    let loop-test = c.loop-p-test in
    let shorter = c.min-in-loop-p in
    let o = link_order args.room args.links.now args.a args.b loop.links loop.p loop.q high.result lower.result loop.invariant loop-test.true high.ensures lower.ensures in
    omega (arith, o.1)

pub offset_bounds-links-at-in-loop-p : goal.offset_bounds-links-at-in-loop-p
offset_bounds-links-at-in-loop-p c =
    let args = c.args in
    let loop = c.loop-p in
    let high = c.max-high in
    let lower = c.min-lower in
    let loop-test = c.loop-p-test in
    let pre = c.requires in
    let o = link_order args.room args.links.now args.a args.b loop.links loop.p loop.q high.result lower.result loop.invariant loop-test.true high.ensures lower.ensures in
    let b = link_in args.room args.links.now args.a args.b loop.links high.result lower.result o.0 pre in
    omega (arith, b)

pub bounds-links-at-in-loop-p : goal.bounds-links-at-in-loop-p
bounds-links-at-in-loop-p c =
    let args = c.args in
    let loop = c.loop-p in
    let high = c.max-high in
    let lower = c.min-lower in
    let loop-test = c.loop-p-test in
    let pre = c.requires in
    let o = link_order args.room args.links.now args.a args.b loop.links loop.p loop.q high.result lower.result loop.invariant loop-test.true high.ensures lower.ensures in
    let b = link_in args.room args.links.now args.a args.b loop.links high.result lower.result o.0 pre in
    omega (arith, b, o.1)

pub loop-p-smaller : goal.loop-p-smaller
loop-p-smaller c =
    let args = c.args in
    let loop = c.loop-p in
    let high = c.max-high in
    let lower = c.min-lower in
    let loop-test = c.loop-p-test in
    let if1 = c.if-lower-room in
    let o = link_order args.room args.links.now args.a args.b loop.links loop.p loop.q high.result lower.result loop.invariant loop-test.true high.ensures lower.ensures in
    omega (arith, o.0.form.below _ _ (one_more c.in-Some.ensures), max-add-min loop.p loop.q)

pub loop-p-preserved : goal.loop-p-preserved
loop-p-preserved c =
    let args = c.args in
    let loop = c.loop-p in
    let high = c.max-high in
    let lower = c.min-lower in
    let loop-test = c.loop-p-test in
    let pre = c.requires in
    let shorter = c.min-in-loop-p in
    let if1 = c.if-lower-room in
    let o = link_order args.room args.links.now args.a args.b loop.links loop.p loop.q high.result lower.result loop.invariant loop-test.true high.ensures lower.ensures in
    let b = link_in args.room args.links.now args.a args.b loop.links high.result lower.result o.0 pre in
    link_step args.room args.links.now args.a args.b loop.links high.result lower.result _ shorter.result o.0 o.1 if1.false b (one_more c.in-Some.ensures) shorter.ensures

pub returns : goal.returns
returns c =
    let args = c.args in
    let loop = c.loop-p in
    let loop-test = c.loop-p-test in
    link_same args.room args.links.now args.a args.b loop.links loop.p loop.q args.low loop.invariant loop-test.false

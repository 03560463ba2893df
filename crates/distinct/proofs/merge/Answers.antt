-- `merge` meets its contract. The loop's invariant: what was read of both runs stands in the places before k, ascending and before what is left of both.
use mathlib.Core.Path.{refl, ◌∙◌}
use lib.ListN.{length-set}
use Rattle.distinct.proofs.MergeLaws.{merge_start, merge_first, merge_second, merge_both, merge_end}
use native.Mathlib.Omega.{arith}
use Rattle.distinct.proofs.merge.Goals as goal
use Rattle.distinct.proofs.merge.Goals.{in-Less, in-Greater}

pub loop-k-init : goal.loop-k-init
loop-k-init c = (refl, merge_start _ _ _ _ _ c.requires.0 c.requires.1)

pub next_run-requires : goal.next_run-requires
next_run-requires c =
    let loop = c.loop-k in
    let loop-test = c.loop-k-test in
    let pre = c.requires in
    (loop.invariant.1.end, loop.invariant.1.other_end, omega (arith, loop.invariant.1.at, loop-test.true, pre.0, pre.1, loop.invariant.1.end, loop.invariant.1.other_end), omega arith, omega arith)

pub returns-in-Equal : goal.returns-in-Equal
returns-in-Equal c =
    let args = c.args in
    let loop = c.loop-k in
    let next-run = c.next_run in
    merge_both args.text.now args.spare.now args.places.now loop.places loop.invariant.1 next-run.ensures c.in-Equal.is

pub bounds-spare-i : goal.bounds-spare-i
bounds-spare-i c =
    omega (arith, (c.next_run.ensures.first c.in-Less.is).0, c.requires.1)

pub bounds-places-k : goal.bounds-places-k
bounds-places-k c = omega (arith, c.loop-k.invariant.0, c.loop-k-test.true)

pub overflow_add-i : goal.overflow_add-i
overflow_add-i c =
    omega (arith, (c.next_run.ensures.first c.in-Less.is).0, c.requires.1)

pub bounds-spare-j : goal.bounds-spare-j
bounds-spare-j c = omega (arith, (c.next_run.ensures.second c.in-Greater.is).0)

pub bounds-places-k-in-Greater : goal.bounds-places-k-in-Greater
bounds-places-k-in-Greater c = omega (arith, c.loop-k.invariant.0, c.loop-k-test.true)

pub overflow_add-j : goal.overflow_add-j
overflow_add-j c = omega (arith, (c.next_run.ensures.second c.in-Greater.is).0)

pub loop-k-preserved : goal.loop-k-preserved
loop-k-preserved c =
    let loop = c.loop-k in
    let args = c.args in
    elim c.match-next_run.branch [
      | in-Less w ↦ rw (w.places-is, w.i-is, w.j-is) (
        length-set loop.places loop.k _ ∙ loop.invariant.0,
        merge_first args.text.now args.spare.now args.places.now loop.places loop.invariant.1 c.requires.4 c.next_run.ensures w.in-Less.is c.loop-k-test.true (omega (arith, loop.invariant.0, c.loop-k-test.true)),
      )
      | in-Greater w ↦ rw (w.places-is, w.i-is, w.j-is) (
        length-set loop.places loop.k _ ∙ loop.invariant.0,
        merge_second args.text.now args.spare.now args.places.now loop.places loop.invariant.1 c.requires.5 c.next_run.ensures w.in-Greater.is c.loop-k-test.true (omega (arith, loop.invariant.0, c.loop-k-test.true)),
      )
    ]

pub returns : goal.returns
returns c =
    merge_end c.args.text.now c.args.spare.now c.args.places.now c.loop-k.places c.loop-k.invariant.1 (omega arith)

-- `write_tree` meets its contract: one row more in each turn; the frames behind the first are as they were.
use Rattle.std.proofs.Common.{◌≡◌, ap, arith, ◌∙◌, length, set, take}
use Rattle.search_machine.specs.State.{frame_at}
use Rattle.deepening.specs.Trees.{tree_rows}
use Rattle.deepening.specs.TreeLaws.{tree_start, tree_next, tree_part}
use Rattle.deepening.proofs.trees.write_tree.Goals as goal

pub loop-row-init : goal.loop-row-init
loop-row-init c = tree_start _ _

pub loop-row-preserved : goal.loop-row-preserved
unfolding frame_at
loop-row-preserved c = tree_next c.args.depth _ c.loop-row.row-index c.loop-row.invariant c.from-x.ensures
    c.saturating_sub-height.ensures (ap (set c.loop-row.row-items c.loop-row.row-index) c.row.ensures)

pub returns : goal.returns
returns c =
    let part = take c.min-end.result c.args.frames.now in
    let all : c.loop-row.row-index ≡ length part = omega (arith, c.loop-row.auto.row-index-end, c.loop-row-test.false) in
    tree_part c.args.depth c.args.frames.now c.args.count c.min-end.ensures (c.loop-row.invariant ∙ ap (tree_rows c.args.depth part) all)

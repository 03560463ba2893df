-- `write_tree` meets its contract: one row more in each turn; the frames behind it are as they were.
use Rattle.std.proofs.Common.{◌≡◌}
use Rattle.deepening.specs.Trees.{tree_rows}
use Rattle.deepening.proofs.trees.write_tree.Given as goal

abbrev pub invariant-loop-row : goal.invariant-loop-row
invariant-loop-row l = l.row-items ≡ tree_rows l.depth l.initial.row-items l.row-index

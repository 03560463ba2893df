-- `is_ground` meets its contract. The loop's invariant: from the row on stand as many terms as are left, one at least, and they are ground if the whole is.
use Rattle.std.specs.Prelude.{◌+◌, ◌<◌}
use Rattle.forward_calls.proofs.Pending.{Turn}
use Rattle.forward_calls.proofs.is_ground.Given as goal

abbrev pub invariant-loop-row : goal.invariant-loop-row
invariant-loop-row l = (0 < l.left) × Turn l.term.text.now l.term.rows.now l.term.at l.left (l.term.at + l.row-index)

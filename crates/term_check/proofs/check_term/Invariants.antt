-- `check_term` meets its contract: it answers where the term ends, exactly if there is one.
-- The loop's invariant: there is a term exactly if what the table says is still to come stands in the rows from `p` on. The measure falls with each row
-- that is passed, and with each level that is left.
use Prim.Native.Nat.{◌+◌, ◌-◌, ◌*◌}
use mathlib.Core.Path.{◌≡◌}
use lib.ListN.{length}
use Rattle.term_check.specs.Walk.{Walking}
use Rattle.term_check.proofs.check_term.Given as goal

abbrev pub invariant-loop-top : goal.invariant-loop-top
invariant-loop-top l = Walking l.text l.rows l.at l.left l.d l.p × (length l.left ≡ 132)

abbrev pub decreases-loop-top : goal.decreases-loop-top
decreases-loop-top l = l.d + 2 * (length l.rows - l.p)

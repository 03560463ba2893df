-- The nodes counted and those that may come are as many as are allowed.
use Rattle.std.proofs.Common.{length}
use Rattle.printing.specs.Stored.{term_in}
use Rattle.printing.specs.Walking.{pieces_left}
use Rattle.printing.proofs.Turns.{Counting}
use Rattle.printing.proofs.sizes.is_too_large.Given as goal

abbrev pub invariant-loop-piece : goal.invariant-loop-piece
invariant-loop-piece l = Counting l.fn.printed (term_in l.fn.printed l.fn.reference) l.walk l.left

abbrev pub decreases-loop-piece : goal.decreases-loop-piece
decreases-loop-piece l = length (pieces_left l.walk)

-- What is written and what is left is the whole.
use Rattle.std.proofs.Common.{length}
use Rattle.printing.specs.Stored.{term_in}
use Rattle.printing.specs.Walking.{pieces_left}
use Rattle.printing.proofs.Turns.{Writing}
use Rattle.printing.proofs.writing.write_term.Given as goal

abbrev pub invariant-loop-piece : goal.invariant-loop-piece
invariant-loop-piece l = Writing l.fn.printed (term_in l.fn.printed l.fn.reference) l.walk l.fn.out l.out

abbrev pub decreases-loop-piece : goal.decreases-loop-piece
decreases-loop-piece l = length (pieces_left l.walk)

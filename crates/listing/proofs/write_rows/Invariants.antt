-- The loop's invariant: the lines of the rows before the loop's place are written.
use lib.ListN.{take}
use Rattle.byte_output.specs.Output.{IsWritten}
use Rattle.listing.specs.Listing.{token_lines}
use Rattle.listing.proofs.write_rows.Given as goal

abbrev pub invariant-loop-row : goal.invariant-loop-row
invariant-loop-row l = IsWritten l.initial.output l.output (token_lines l.text (take l.row-index l.rows))

-- `put_term` is safe and ends: each turn writes a byte.
-- The loop's invariant: the output is written on.
use Prim.Native.Nat.{◌-◌}
use lib.ListN.{length}
use Rattle.evaluation_listing_kit.specs.Printing.{Moved}
use Rattle.evaluation_listing_kit.proofs.prefix.put_term.Given as goal

abbrev pub invariant-loop-printer : goal.invariant-loop-printer
invariant-loop-printer l = Moved l.initial.out l.out

abbrev pub decreases-loop-printer : goal.decreases-loop-printer
decreases-loop-printer l = length l.out.bytes.now - l.out.at

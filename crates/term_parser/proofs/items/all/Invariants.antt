-- `all` meets its contract: what was read so far, and what is still to be read, are the items from the start on.
use Prim.Native.Nat.{◌-◌}
use lib.ListN.{length}
use Rattle.term_parser.specs.Parsing.{last_line}
use Rattle.term_parser.proofs.Readers.{Looped}
use Rattle.term_parser.proofs.items.all.Given as goal

abbrev pub invariant-loop-more : goal.invariant-loop-more
invariant-loop-more g l =
    Looped (g.R.Repeated.grammar l.input.text.now (last_line l.input.tokens.now)) g.R.Repeated.rows l.input.tokens.now l.initial.next.at l.initial.next.used 0 l.initial.out l.next.at l.next.used l.n l.out

abbrev pub decreases-loop-more : goal.decreases-loop-more
decreases-loop-more g l = length l.input.tokens.now - l.next.at

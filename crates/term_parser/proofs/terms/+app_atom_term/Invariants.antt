-- `atom`, `app` and `term` call each other in turn: the tokens left fall, and with the same tokens left the rank of the three.
use Prim.Native.Nat.{◌+◌, ◌*◌, ◌-◌}
use lib.ListN.{length}
use Rattle.term_parser.proofs.TermLaws.{Atoms}
use Rattle.term_parser.proofs.terms.+app_atom_term.Given as goal

abbrev pub decreases-app : goal.decreases-app
decreases-app l = 4 * (length l.input.tokens.now - l.from.at) + 2

abbrev pub decreases-atom : goal.decreases-atom
decreases-atom l = 4 * (length l.input.tokens.now - l.from.at)

abbrev pub decreases-term : goal.decreases-term
decreases-term l = 4 * (length l.input.tokens.now - l.from.at) + 3

abbrev pub invariant-app-loop-more : goal.invariant-app-loop-more
invariant-app-loop-more l = Atoms l.input.text.now l.input.tokens.now l.left l.from.at l.from.used l.initial.out l.next.at l.next.used l.n l.out

abbrev pub decreases-app-loop-more : goal.decreases-app-loop-more
decreases-app-loop-more l = length l.input.tokens.now - l.next.at

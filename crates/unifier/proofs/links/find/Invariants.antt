-- `find` meets its contract. The loop's invariant: from q on the links lead where they lead from r; q falls.
use Rattle.unifier.specs.Linking.{Finding}
use Rattle.unifier.proofs.links.find.Given as goal

abbrev pub invariant-loop-next : goal.invariant-loop-next
invariant-loop-next l = Finding l.links l.r l.q

abbrev pub decreases-loop-next : goal.decreases-loop-next
decreases-loop-next l = l.q

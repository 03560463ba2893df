-- `link` meets its contract. The loop's invariant: p and q have to be the same, by the links, exactly where a and b have to be, by the first links.
use Prim.Native.Nat.{◌+◌}
use Rattle.arena.proofs.Linking.{Linking}
use Rattle.arena.proofs.links.link.Given as goal

abbrev pub invariant-loop-p : goal.invariant-loop-p
invariant-loop-p l = Linking l.room l.initial.links l.a l.b l.links l.p l.q

abbrev pub decreases-loop-p : goal.decreases-loop-p
decreases-loop-p l = l.p + l.q

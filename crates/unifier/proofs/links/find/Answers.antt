-- `find` meets its contract. The loop's invariant: from q on the links lead where they lead from r; q falls.
use Rattle.arena.specs.Rows.{one_more}
use Rattle.unifier.specs.Promises.{stay}
use Rattle.unifier.specs.Linking.{find_next}
use native.Mathlib.Omega.{arith}
use Rattle.unifier.proofs.links.find.Goals as goal

pub returns-in_default : goal.returns-in_default
returns-in_default c = (c.loop-next.invariant.on _ (stay (omega arith)), c.loop-next.invariant.le)

pub loop-next-smaller : goal.loop-next-smaller
loop-next-smaller c = (find_next _ c.loop-next.invariant (one_more c.in-Some.ensures)).1

pub loop-next-preserved : goal.loop-next-preserved
loop-next-preserved c = (find_next _ c.loop-next.invariant (one_more c.in-Some.ensures)).0

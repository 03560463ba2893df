-- `skip` meets its contract. The loop's invariant: so many terms are left from the row p on.
use Prim.Native.Nat.{◌≤◌, ◌+◌, ◌-◌, ◌*◌, max}
use lib.ListN.{length}
use Rattle.clauses.proofs.SkipLaws.{Left}
use Rattle.clauses.proofs.skip.Given as goal

abbrev pub invariant-loop-p : goal.invariant-loop-p
invariant-loop-p l = (l.left ≤ 65536 + 4294967296 * (l.p - l.at)) × (l.p ≤ max (length l.rows) l.at) × Left l.rows l.at l.n l.p l.left

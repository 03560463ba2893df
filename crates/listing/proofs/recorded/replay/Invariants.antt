-- `replay` is safe and ends: each text moves the place forward, so no more of them are counted than places passed. Calls at the texts that are left make
-- calls at all of them.
use Prim.Native.Nat.{◌≤◌, ◌-◌, ◌+◌}
use Rattle.std.specs.List.{FoldsTo}
use Rattle.listing.specs.Recorded.{Texts, CalledAtText, Replayed}
use Rattle.listing.proofs.recorded.replay.Given as goal

abbrev pub invariant-loop-at : goal.invariant-loop-at
invariant-loop-at g l =
    goal.F-IsAlwaysCallable g l.each × (l.number ≤ l.at + 1)
    × ((texts : _) (last : _) → Texts g.R.Fn g.F.FnMut l.list l.fn.read l.at texts → FoldsTo (CalledAtText g.R.Fn g.F.FnMut l.list l.fn.read) l.each texts last → Replayed g.R.Fn g.F.FnMut l.list l.fn.read l.fn.each)

abbrev pub decreases-loop-at : goal.decreases-loop-at
decreases-loop-at g l = l.end - l.at

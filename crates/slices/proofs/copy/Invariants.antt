-- The items passed are the source's.
use Rattle.std.proofs.Common.{◌≡◌, take}
use Rattle.slices.proofs.copy.Given as goal

abbrev pub invariant-loop-i : goal.invariant-loop-i
invariant-loop-i g l = take l.i l.items ≡ take l.i l.source

-- `sort` meets its contract: the part to sort gets shorter. Its halves are sorted one after the other, copied, and merged.
use Prim.Native.Nat.{◌-◌}
use Rattle.distinct.proofs.+sort.Given as goal

abbrev pub decreases-sort : goal.decreases-sort
decreases-sort l = l.to - l.from

-- `read_decimal` meets its contract: the number at the place.
-- The loop's invariant: what is left to read makes, behind the value so far, that number; at most 20 digits are read, and the value stays small.
use Prim.Native.Nat.{◌≤◌, ◌+◌, ◌-◌}
use mathlib.Core.Path.{◌≡◌}
use Rattle.listing.specs.Recorded.{decimal_from, decimal_at}
use Rattle.listing.proofs.recorded.read_decimal.Given as goal

abbrev pub invariant-loop-i : goal.invariant-loop-i
invariant-loop-i l = (l.value ≤ 1048576) × (decimal_from (20 - l.i) l.list (l.at + l.i) l.value ≡ decimal_at l.list l.at)

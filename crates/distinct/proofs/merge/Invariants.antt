-- `merge` meets its contract. The loop's invariant: what was read of both runs stands in the places before k, ascending and before what is left of both.
use mathlib.Core.Path.{◌≡◌}
use lib.ListN.{length}
use Rattle.distinct.specs.Sorting.{name_at}
use Rattle.distinct.proofs.MergeLaws.{Merging}
use Rattle.distinct.proofs.merge.Given as goal

abbrev pub invariant-loop-k : goal.invariant-loop-k
invariant-loop-k l = (length l.places ≡ length l.initial.places) × Merging (name_at l.text l.spare) (name_at l.text l.initial.places) (name_at l.text l.places) l.from l.to l.from l.i l.middle l.middle l.j l.to l.k

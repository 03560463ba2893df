-- `put_places` meets its contract. The loop's invariant: the first j places are written.
use mathlib.Core.Path.{◌≡◌}
use lib.ListN.{take}
use lib.Seq.{sets}
use Rattle.meeting.specs.Places.{place_numbers}
use Rattle.rules.proofs.put_places.Given as goal

abbrev pub invariant-loop-j : goal.invariant-loop-j
invariant-loop-j l = l.row ≡ sets l.initial.row 90 (take l.j (place_numbers l.places))

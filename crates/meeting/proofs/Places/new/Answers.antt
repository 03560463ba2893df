-- `new` meets its contract: no variable has a place.
use mathlib.Core.Path.{refl}
use mathlib.Core.List.{[]}
use Rattle.meeting.specs.PlaceLaws.{records_new}
use Rattle.meeting.proofs.Places.new.Goals as goal

pub invariant_of-result : goal.invariant_of-result
invariant_of-result c = record { known = ∣ ([], records_new) ∣₁; long = refl }

pub returns : goal.returns
returns c = records_new

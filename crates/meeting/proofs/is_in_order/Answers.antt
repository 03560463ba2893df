-- `is_in_order` meets its contract: the chain asks each place beside its number.
use Rattle.std.proofs.lemmas.Iterator.Search.{all_from_yields_List}
use Rattle.std.proofs.lemmas.Iterator.{YieldsList-from_slice, YieldsList-from_range, YieldsList-from_zip}
use mathlib.Core.Path.{refl, ◌∙◌}
use Rattle.std.specs.Prelude.{Option, ℕ}
use native.Mathlib.Omega.{arith}
use Rattle.meeting.specs.Places.{is_place}
use Rattle.meeting.specs.PlaceLaws.{places_order}
use Rattle.meeting.proofs.is_in_order.Goals as goal

pub returns : goal.returns
returns c =
    all_from_yields_List (λ (p : Option ℕ × ℕ). is_place p.0 p.1) c.all.new.self _ c.all.result c.all.ensures.ran
    (YieldsList-from_zip (YieldsList-from_slice c.args.places.now (cc)) (YieldsList-from_range 0 c.args.count c.args.count (cc) (omega arith)))
    (λ x b q e. (refl, search e.met))
    ∙ places_order c.args.places.now c.args.count (omega arith)

-- `put_places` meets its contract. The loop's invariant: the first j places are written.
use mathlib.Core.Path.{◌≡◌, refl, ◌∙◌}
use lib.ListN.{length, length-map}
use Rattle.meeting.specs.Places.{place_numbers}
use Rattle.rules.proofs.RowLaws.{sets_next, number_unwrapped, numbers_all}
use native.Mathlib.Omega.{arith}
use Rattle.rules.proofs.put_places.Goals as goal

pub loop-j-preserved : goal.loop-j-preserved
loop-j-preserved c =
    let places = c.args.places.now in
    let j = c.loop-j.j in
    let l = c.loop-j-test.true in
    rw (c.loop-j.invariant, c.unwrap_or.ensures, ← number_unwrapped places j l) (sets_next c.args.row.now (place_numbers places) 90 j (rw length-map l))

pub returns : goal.returns
returns c =
    let e : c.loop-j.j ≡ length c.args.places.now = omega (arith, c.loop-j-test.false) in
    c.loop-j.invariant ∙ rw (e, numbers_all c.args.places.now) refl

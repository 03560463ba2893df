-- `store` meets its contract: the row is written over part by part.
use mathlib.Core.Path.{◌≡◌, ap, ◌∙◌}
use mathlib.Core.List.{List}
use Prim.Native.Nat.{ℕ, ◌+◌, ◌-◌, ◌≤◌}
use lib.ListN.{length, replicate}
use lib.Seq.{sets, length-sets}
use Rattle.meeting.specs.Places.{place_numbers}
use Rattle.rules.proofs.RowLaws.{sets_part, sorts_put}
use native.Mathlib.Omega.{arith}
use Rattle.rules.proofs.store.Goals as goal

pub returns : goal.returns
returns c =
    let a = c.args in
    let z : List ℕ = replicate 154 0 in
    let n = c.told-numbers in
    let numbers = sets_part a.numbers.now z 0 10 (omega arith) (omega arith) in
    let heads = sets_part a.heads.now (sets z 0 a.numbers.now) 10 (10 + length a.heads.now - 10) (omega arith) (rw length-sets (omega (arith, c.requires))) in
    let v = c.args.variables.now in
    let row = sets (sets z 0 a.numbers.now) 10 a.heads.now in
    let part = c.put_column.new.numbers in
    let long : length part ≡ length v = omega (arith, c.put_column.auto.numbers) in
    let room : 26 + length part ≤ length row = rw (length-sets (sets z 0 a.numbers.now) 10 a.heads.now, length-sets z 0 a.numbers.now) (omega (arith, c.requires, long)) in
    let sorts = sets_part part row 26 (26 + length v - 26) (omega (arith, long)) room in
    λ text.
    c.put_places.ensures
    ∙ ap (λ (r : List ℕ). sets r 90 (place_numbers a.places.now)) (rw (c.copy_from_slice-2.ensures.after, c.copy_from_slice.ensures.after, numbers, heads)
    (sorts ∙ ap (sets row 26) (sorts_put text v part long c.put_column.ensures)))

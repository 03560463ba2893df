-- `clear_from` meets its contract: each call of the closure gives the value.
use Rattle.std.proofs.Common.{rules, arith, ◌≡◌, refl, ◌∙◌, length, take, drop, replicate, ◌-◌, [], append-nil, drop_of_length-le}
use lib.Seq.{length-take-le}
use lib.ListN.{length-drop}
use Rattle.std.proofs.lemmas.List.{take_min}
use Rattle.slices.proofs.Filling.{replicate-from_FoldsTo}
use Rattle.slices.proofs.clear_from.Goals as goal

pub returns : goal.returns
returns g c =
    let xs = c.args.items.now in
    let a = c.min-start.result in
    let k = length xs - a in
    let ys = c.fill_with.new.self in
    let m = c.min-start.ensures in
    let l : length ys ≡ k = c.fill_with.ensures.len ∙ length-take-le k (drop a xs) (rw (length-drop a xs) (omega arith)) in
    let e : ys ≡ replicate k c.args.zero = rw l at (replicate-from_FoldsTo _ _ c.args.zero (λ x f' s. search rules) ys c.fill_with.ensures.ran.0 c.fill_with.ensures.ran.1) in
    let z : drop k (drop a xs) ≡ [] = drop_of_length-le (drop a xs) (rw (length-drop a xs) (omega arith)) in
    let n : k ≡ length xs - c.args.from = omega arith in
    let t : take a xs ≡ take c.args.from xs = rw m (take_min c.args.from xs) in
    rw (e, z, append-nil, t, n) refl

-- A list of words written one by one, or at once.
use Prim.Native.Nat.{ℕ, suc, ◌+◌, ◌-◌, ◌≤◌, ◌<◌}
use native.Mathlib.Omega.{arith}
use native.Mathlib.Numerals.{add-one}
use mathlib.Core.Path.{◌≡◌, refl, sym, ◌∙◌}
use mathlib.Core.List.{List, ◌∷◌}
use lib.ListN.{get_or, length, set, drop, take, length-set, drop_of_length-le}
use lib.Seq.{sets, drop-cons}
use borrow.Rule.Slice.PartMut.{put_mid}
use Rattle.std.proofs.Common.{append_assoc}
use Rattle.std.proofs.lemmas.Slice.{put_mid-paste}
use Rattle.std.proofs.lemmas.List.Edits.{paste_all, sets-eq}

-- What is left to be written, after one word more.
pub write_step : (w xs : List ℕ) (p i v : ℕ) → i < length xs → v ≡ get_or xs i 0 → sets w (p + i) (drop i xs) ≡ sets (set w (p + i) v) (p + (i + 1)) (drop (i + 1) xs)
write_step w xs p i v l e =
    let d : p + (i + 1) ≡ suc (p + i) = omega arith in
    rw (d, e, add-one i, drop-cons xs i 0 l)

-- Nothing is left.
pub write_end : (w xs : List ℕ) (p i : ℕ) → length xs ≤ i → sets w (p + i) (drop i xs) ≡ w
write_end w xs p i l = rw (drop_of_length-le xs l)

-- A part of the words overwritten by a list as long as it is.
pub put_sets : (w vs : List ℕ) (at k : ℕ) → k ≡ length vs → at + length vs ≤ length w → put_mid at k w vs ≡ sets w at vs
put_sets w vs at k e l =
    put_mid-paste at k w vs vs k refl refl e
    ∙ paste_all w at vs k e
    ∙ rw e (sym (append_assoc (take at w) vs (drop (at + length vs) w)))
    ∙ sym (sets-eq vs w at l)

-- A word written, and behind it a list.
pub put_node : (w vs : List ℕ) (at h : ℕ) → at + 1 + length vs ≤ length w
    → put_mid (at + 1) (at + 1 + length vs - (at + 1)) (set w at h) vs ≡ sets w at (h ∷ vs)
put_node w vs at h l =
    let n = length-set w at h in
    let e : at + 1 ≡ suc at = omega arith in
    put_sets (set w at h) vs (at + 1) _ (omega arith) (omega arith) ∙ rw e

-- A law of lengths: a word of another length than the place's is not the word there.
use Prim.Native.Nat.{ℕ, ◌+◌, ◌≤◌, ◌<◌}
use native.Mathlib.Omega.{arith}
use mathlib.Core.Path.{◌≡◌, refl, sym, ap, ◌∙◌}
use mathlib.Core.Bool.{Bool, true, false, cond}
use mathlib.Core.List.{List, []}
use lib.Dec.{leb}
use lib.ListN.{length, take, drop, length-take, length-drop}
use borrow.Author.Tests.{leb-true}
use Rattle.source_text.specs.Bytes.{same_bytes}
use Rattle.source_text.specs.ByteLaws.{same_is}
use Rattle.source_text.specs.Parts.{part_of}

-- The word at a place is as long as the place says, or empty.
part_length : (t : List ℕ) (start n : ℕ) → 0 < length (part_of t start n) → length (part_of t start n) ≡ n
part_length t start n = go (leb (start + n) (length t)) refl
  where
    go : (b : Bool) → leb (start + n) (length t) ≡ b → 0 < length (cond b (take n (drop start t)) []) → length (cond b (take n (drop start t)) []) ≡ n
    go true e l = let h : start + n ≤ length t = leb-true _ _ e in let a = length-take n (drop start t) in let b = length-drop start t in omega arith
    go false e l = absurd (omega arith)

pub other_length : (t : List ℕ) (start n : ℕ) (w : List ℕ) → (length w ≡ n → ⊥) → 0 < length w → false ≡ same_bytes (part_of t start n) w
other_length t start n w d l = go (same_bytes (part_of t start n) w) refl
  where
    go : (b : Bool) → same_bytes (part_of t start n) w ≡ b → false ≡ b
    go true e =
        let q : length (part_of t start n) ≡ length w = ap length (same_is (part_of t start n) w e) in
        absurd (d (sym q ∙ part_length t start n (omega arith)))
    go false e = refl

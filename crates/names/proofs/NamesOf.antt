-- A law of places: a part of one of two texts is one of their parts.
use Prim.Native.Nat.{ℕ}
use mathlib.Core.Path.{◌≡◌, refl}
use mathlib.Core.Bool.{Bool, true, false, cond}
use mathlib.Core.List.{List}
use Rattle.source_text.specs.Parts.{part_of}

pub part_either : (b : Bool) (s t : List ℕ) (start n : ℕ) → part_of (cond b s t) start n ≡ cond b (part_of s start n) (part_of t start n)
part_either true s t start n = refl
part_either false s t start n = refl

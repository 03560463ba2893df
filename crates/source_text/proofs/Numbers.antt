-- Laws of digits and of the values of numerals, at place i of a word.
use mathlib.Core.Path.{◌≡◌, ◌∙◌}
use mathlib.Core.Bool.{true, false, cond, ◌&&◌, and-false}
use mathlib.Core.List.{List, [], ◌∷◌}
use Prim.Native.Nat.{ℕ, ◌+◌, ◌-◌, ◌*◌, ◌^◌, ◌≤◌, ◌<◌}
use native.Mathlib.Numerals.{add-one}
use native.Mathlib.Omega.{arith}
use lib.ListN.{length, get_or, drop, drop_of_length-le}
use lib.Seq.{drop-cons}
use lib.Dec.{ltb}
use borrow.Author.Tests.{lt-ltb, le-ltb}
use Rattle.source_text.specs.Bytes.{within}
use Rattle.source_text.specs.Numerals.{digit_of, all_digits, value_from, numeral_of}
use Rattle.source_text.specs.ByteLaws.{by_bool}
use Rattle.std.specs.Prelude.{Option, Some, None}

-- The numeral whose first digits make v and whose other bytes are s.
unfoldable pub numeral_from : ℕ → List ℕ → Option ℕ
numeral_from v s = cond (all_digits s && ltb (value_from v s) (2 ^ 64)) (Some (value_from v s)) None

pub numeral_empty : (w : List ℕ) → length w ≡ 0 → numeral_of w ≡ None
unfolding numeral_of
numeral_empty w e = simp e

pub numeral_start : (w : List ℕ) → (length w ≡ 0 → ⊥) → numeral_of w ≡ numeral_from 0 w
unfolding numeral_of numeral_from
numeral_start w n = simp (lt-ltb 0 (length w) (omega arith))

-- More digits make no smaller number.
value_grows : (v : ℕ) (s : List ℕ) → v ≤ value_from v s
unfolding value_from
value_grows v [] = omega arith
value_grows v (c ∷ s) = let h : v * 10 + (c - 48) ≤ value_from (v * 10 + (c - 48)) s = value_grows (v * 10 + (c - 48)) s in omega arith

too_large : (v : ℕ) (s : List ℕ) → 2 ^ 64 ≤ v → numeral_from v s ≡ None
unfolding numeral_from
too_large v s h = let g : v ≤ value_from v s = value_grows v s in let k : 2 ^ 64 ≤ value_from v s = omega arith in simp (le-ltb _ _ k, and-false)

module _ (w : List ℕ) (i v : ℕ) (h : i < length w) where
  pub numeral_not : within 48 57 (get_or w i 0) ≡ false → numeral_from v (drop i w) ≡ None
  unfolding numeral_from all_digits
  numeral_not e = simp (drop-cons w i 0 h, e)

  pub numeral_next : within 48 57 (get_or w i 0) ≡ true → numeral_from v (drop i w) ≡ numeral_from (v * 10 + (get_or w i 0 - 48)) (drop (i + 1) w)
  unfolding numeral_from value_from all_digits
  numeral_next e = simp (drop-cons w i 0 h, e, add-one)

  pub numeral_over : within 48 57 (get_or w i 0) ≡ true → 2 ^ 64 ≤ v * 10 + (get_or w i 0 - 48) → numeral_from v (drop i w) ≡ None
  numeral_over e o = numeral_next e ∙ too_large _ (drop (i + 1) w) o

pub numeral_end : (w : List ℕ) (i v : ℕ) → length w ≤ i → v < 2 ^ 64 → numeral_from v (drop i w) ≡ Some v
unfolding numeral_from all_digits value_from
numeral_end w i v h k = simp (drop_of_length-le w h, lt-ltb _ _ k)

-- What is known of a digit's value, and of a byte that has none.
pub digit_some : (c d : ℕ) → digit_of c ≡ Some d → (within 48 57 c ≡ true) × (c - 48 ≡ d)
digit_some c d e =
    by_bool (within 48 57 c)
    (λ f. (f, let g : Some (c - 48) ≡ Some d = rw f at e in cc))
    (λ f. absurd (let g : None ≡ Some d = rw f at e in let z : ◌≡◌ {A = ℕ} 0 1 = cc in omega arith))

pub digit_none : (c : ℕ) → digit_of c ≡ None → within 48 57 c ≡ false
digit_none c e = by_bool (within 48 57 c) (λ f. absurd (let g : Some (c - 48) ≡ None = rw f at e in let z : ◌≡◌ {A = ℕ} 0 1 = cc in omega arith)) (λ f. f)

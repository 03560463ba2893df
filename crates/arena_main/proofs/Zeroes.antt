-- What `clear_from` leaves of a whole slice: zeroes.
use Prim.Native.Nat.{ℕ, zero, suc, ◌-◌}
use native.Mathlib.Omega.{arith}
use mathlib.Core.Path.{◌≡◌, refl, ap, ◌∙◌}
use mathlib.Core.List.{List, ◌++◌}
use lib.ListN.{length, get_or, take, replicate, length-replicate}

zeroes : (n i : ℕ) → get_or {A = ℕ} (replicate n 0) i 0 ≡ 0
zeroes zero i = refl
zeroes (suc n) zero = refl
zeroes (suc n) (suc i) = zeroes n i

module _ (l l' : List ℕ) (e : l' ≡ take 0 l ++ replicate (length l - 0) 0) where
  pub all_zero : (i : ℕ) → get_or l' i 0 ≡ 0
  all_zero i = rw e (zeroes (length l - 0) i)

  pub as_long : length l' ≡ length l
  as_long = ap length e ∙ length-replicate (length l - 0) 0 ∙ (let d : length l - 0 ≡ length l = omega arith in d)

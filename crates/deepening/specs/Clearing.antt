-- Clearing what was written: a part of a list is set to a value, and the rest stands.
use Rattle.std.specs.Prelude.{ℕ, ◌-◌, ◌≤◌, ◌<◌, ◌≡◌, List, length, get_or, drop, replicate}

-- A row of zeros, as wide as a frame's.
abbrev pub zero_row : List ℕ
zero_row = replicate 8 0

-- The elements from `from` up to `to` are z, as far as there are any, and the others stand; d is read past the end.
pub record Cleared {A : Type 0} (d z : A) (l l' : List A) (from to : ℕ) : Type 0 where
  pub long : length l' ≡ length l
  pub before : (i : ℕ) → i < from → get_or l' i d ≡ get_or l i d
  pub between : (i : ℕ) → from ≤ i → i < to → i < length l → get_or l' i d ≡ z
  pub behind : (i : ℕ) → to ≤ i → get_or l' i d ≡ get_or l i d

-- The list from `from` on is z throughout.
abbrev pub ClearFrom : {A : Type 0} → A → List A → ℕ → Type 0
ClearFrom z l from = drop from l ≡ replicate (length l - from) z

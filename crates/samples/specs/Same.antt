-- When two lists of rows are the same.
use Rattle.std.specs.Prelude.{ℕ, ◌<◌, ◌≡◌, length}
use Rattle.arena.specs.Rows.{Rows, column}

-- As many rows, and the same two numbers in each.
pub record Same (left right : Rows) : Type 0 where
  pub long : length left ≡ length right
  pub values : (i : ℕ) → i < length left → column 0 left i ≡ column 0 right i
  pub trail : (i : ℕ) → i < length left → column 1 left i ≡ column 1 right i

-- Rows of numbers, as lent buffers hold them: slices of arrays.
use Rattle.std.specs.Prelude.{ℕ, List, [], get_or}

abbrev pub Rows : Type 0
Rows = List (List ℕ)

-- The row at a place; the empty one past the end.
abbrev pub row_at : Rows → ℕ → List ℕ
row_at rows i = get_or rows i []

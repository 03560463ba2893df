-- The numbers in the rows passed are written.
use Rattle.std.proofs.Common.{◌≡◌, ℕ, ◌<◌, get_or}
use Rattle.names.specs.Symbols.{row_at, column}
use Rattle.names.proofs.put_column.Given as goal

abbrev pub invariant-loop-i : goal.invariant-loop-i
invariant-loop-i g l = (j : ℕ) → j < l.i → get_or l.numbers j 0 ≡ column (row_at l.rows j) l.at

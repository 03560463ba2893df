-- The columns of the rows passed are written.
use Rattle.std.proofs.Common.{◌≡◌, ℕ, ◌<◌}
use Rattle.names.specs.Symbols.{row_at, columns}
use Rattle.signature.proofs.put_parts.Given as goal

abbrev pub invariant-loop-i : goal.invariant-loop-i
invariant-loop-i g l = (j : ℕ) → j < l.i → row_at l.parts j ≡ columns (row_at l.rows j) l.at g.row.M

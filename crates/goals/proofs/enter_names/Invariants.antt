-- The names passed are entered.
use Rattle.std.proofs.Common.{◌≡◌, ℕ, ◌+◌, ◌<◌}
use Rattle.names.specs.Symbols.{row_at}
use Rattle.goals.specs.Storing.{name_row}
use Rattle.goals.proofs.enter_names.Given as goal

abbrev pub invariant-loop-i : goal.invariant-loop-i
invariant-loop-i l = (j : ℕ) → j < l.i → row_at l.names j ≡ name_row (row_at l.variables j) (l.counter + j)

-- Whether the sorts of all variables are known, row by row.
use Rattle.std.specs.Prelude.{ℕ, ◌≡◌, refl, ◌&&◌, List, [], ◌∷◌, map, take, ltb}
use Rattle.std.specs.List.{list_all}
use Rattle.std.proofs.Common.{ap}
use Rattle.names.specs.Symbols.{Rows, column, variable_of, variables_of}
use Rattle.rules.specs.Rules.{all_known}

rows_known : (text : List ℕ) (rows : Rows) → list_all (λ row. ltb 0 (column row 3)) rows ≡ all_known (map (variable_of text) rows)
unfolding all_known variable_of
rows_known text [] = refl
rows_known text (r ∷ rows) = ap (λ b. ltb 0 (column r 3) && b) (rows_known text rows)

pub known_rows : (text : List ℕ) (rows : Rows) (n : ℕ) → list_all (λ row. ltb 0 (column row 3)) (take n rows) ≡ all_known (variables_of text rows n)
unfolding variables_of
known_rows text rows n = rows_known text (take n rows)

-- Sorts and symbols as rows (docs/STORAGE.md, "A signature's storage").
use Rattle.std.specs.Prelude.{ℕ, cond, List, [], ◌∷◌, eqb, set}
use Rattle.std.proofs.lemmas.List.Edits.{sets}
use Rattle.names.specs.Symbols.{Rows}

-- A symbol's row: start, length, output, function mark, first clause, number of clauses, number of inputs, 0, and the inputs.
abbrev pub symbol_row : ℕ → ℕ → ℕ → ℕ → ℕ → ℕ → ℕ → List ℕ → List ℕ
symbol_row start size output function first clauses n inputs =
    sets
    (start ∷ size ∷ output ∷ function ∷ first ∷ clauses ∷ n ∷ 0 ∷ 0 ∷ 0 ∷ 0 ∷ 0 ∷ 0 ∷ 0 ∷ 0 ∷ 0 ∷ 0 ∷ 0 ∷ 0 ∷ 0 ∷ 0 ∷ 0 ∷ 0 ∷ 0 ∷ [])
    8 inputs

-- The rows with one more, if there is nothing to refuse it for.
abbrev pub entered : ℕ → Rows → ℕ → List ℕ → Rows
entered refusal rows n row = cond (eqb refusal 0) (set rows n row) rows

-- Laws of a symbol's row: what it means, and its shape.
use Rattle.std.specs.Prelude.{◌≡◌, List, [], ◌∷◌, ◌++◌, ℕ, ◌+◌, ◌≤◌, ◌<◌, set}
use Rattle.std.proofs.Common.{sym, ◌∙◌, arith, get_or-drop}
use Rattle.std.proofs.Math.Path.{ap, ap₂}
use Rattle.std.proofs.Math.ListN.{length}
use Rattle.source_text.specs.Parts.{part_of}
use Rattle.arena.specs.NodeLaws.{sets_below, sets_within, sets_past}
use Rattle.names.specs.Symbols.{Rows, column, columns, symbol_of, symbols_of}
use Rattle.names.specs.SearchLaws.{table_more, columns_are, zero_at}
use Rattle.loader.specs.Rows.{symbol_row}

-- The shape of a row: at most 16 inputs, and zero past them.
pub record SymbolShaped (row : List ℕ) : Type 0 where
  pub few : column row 6 ≤ 16
  pub clear : (j : ℕ) → column row 6 ≤ j → j < 16 → column row (8 + j) ≡ 0
  pub free : column row 7 ≡ 0

module _ (start size output function first clauses : ℕ) (inputs : List ℕ) (few : length inputs ≤ 16) where
  abbrev line : List ℕ
  line = start ∷ size ∷ output ∷ function ∷ first ∷ clauses ∷ length inputs ∷ 0 ∷ 0 ∷ 0 ∷ 0 ∷ 0 ∷ 0 ∷ 0 ∷ 0 ∷ 0 ∷ 0 ∷ 0 ∷ 0 ∷ 0 ∷ 0 ∷ 0 ∷ 0 ∷ 0 ∷ []

  abbrev row : List ℕ
  row = symbol_row start size output function first clauses (length inputs) inputs

  at : (j : ℕ) → j < 8 → column row j ≡ column line j
  at j l = sets_below inputs line 8 j l

  blank : (j : ℕ) → column line (8 + j) ≡ 0
  blank j = sym (get_or-drop 8 line j 0) ∙ zero_at 16 j

  -- Its name stands at the place.
  pub row_placed : (column row 0 ≡ start) × (column row 1 ≡ size)
  row_placed = (at 0 (omega arith), at 1 (omega arith))

  pub row_shaped : SymbolShaped row
  row_shaped =
      let n : column row 6 ≡ length inputs = at 6 (omega arith) in
      record { few = omega arith; clear = λ j l m. sets_past inputs line 8 (8 + j) (omega arith) ∙ blank j; free = at 7 (omega arith) }

  pub row_means : (text : List ℕ) → symbol_of text row
      ≡ record { name = part_of text start size; inputs = inputs; output = output; function = function; first = first; clauses = clauses }
  unfolding symbol_of
  row_means text =
      let a0 : column row 0 ≡ start = at 0 (omega arith) in
      let a1 : column row 1 ≡ size = at 1 (omega arith) in
      let a2 : column row 2 ≡ output = at 2 (omega arith) in
      let a3 : column row 3 ≡ function = at 3 (omega arith) in
      let a4 : column row 4 ≡ first = at 4 (omega arith) in
      let a5 : column row 5 ≡ clauses = at 5 (omega arith) in
      let a6 : column row 6 ≡ length inputs = at 6 (omega arith) in
      let nm : part_of text (column row 0) (column row 1) ≡ part_of text start size = ap₂ (part_of text) a0 a1 in
      let is : columns row 8 (column row 6) ≡ inputs = ap (columns row 8) a6 ∙ columns_are row inputs 8 (λ j m. sets_within inputs line 8 j m (omega arith)) in
      cc

-- One symbol more.
pub symbols_more : (text : List ℕ) (symbols symbols' : Rows) (count : ℕ) (row : List ℕ) → count < length symbols → symbols' ≡ set symbols count row
    → symbols_of text symbols' (count + 1) ≡ symbols_of text symbols count ++ (symbol_of text row ∷ [])
unfolding symbols_of
symbols_more text symbols symbols' count row l e = rw e (table_more (symbol_of text) symbols count row l)

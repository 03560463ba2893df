-- The rows in use, lent as a part of a table: what is said of the part is said of the first rows of the table; and searches in all rows that are lent.
use Rattle.std.specs.Prelude.{◌≡◌, Some, None, List, [], map, ℕ, ◌≤◌, ◌<◌, length, take}
use Rattle.std.specs.List.{position}
use Rattle.std.proofs.Common.{sym, ap, subst, ◌∙◌, arith, get_or-take}
use Rattle.std.proofs.lemmas.List.{length-take-le, take-take}
use Rattle.std.proofs.Math.Seq.{take-length}
use Rattle.source_text.specs.Bytes.{same_bytes}
use Rattle.names.specs.Names.{Name}
use Rattle.names.specs.Symbols.{Rows, row_at, sort_of, symbol_of, variable_of, sorts_of, symbols_of, variables_of, symbol_number}
use Rattle.names.specs.SearchLaws.{symbol_some, symbol_none}

module _ (rows : Rows) (n : ℕ) (lent : n ≤ length rows) where
  pub used_length : length (take n rows) ≡ n
  used_length = length-take-le n rows lent

  pub row_used : (i : ℕ) → i < n → row_at (take n rows) i ≡ row_at rows i
  row_used i l = get_or-take n rows i [] l

  pub used_all : take (length (take n rows)) (take n rows) ≡ take n rows
  used_all = let e = used_length in take-take (length (take n rows)) n rows (omega arith) ∙ ap (λ k. take k rows) e

  -- What holds of each row in use holds of each row of the part.
  pub used_each : (P : List ℕ → Type 0) → ((i : ℕ) → i < n → P (row_at rows i)) → (i : ℕ) → i < length (take n rows) → P (row_at (take n rows) i)
  used_each P h i l = let e = used_length in let k : i < n = omega arith in subst P (sym (row_used i k)) (h i k)

  pub sorts_used : (text : List ℕ) → sorts_of text (take n rows) (length (take n rows)) ≡ sorts_of text rows n
  unfolding sorts_of
  sorts_used text = ap (map (sort_of text)) used_all

  pub symbols_used : (text : List ℕ) → symbols_of text (take n rows) (length (take n rows)) ≡ symbols_of text rows n
  unfolding symbols_of
  symbols_used text = ap (map (symbol_of text)) used_all

  pub variables_used : (text : List ℕ) → variables_of text (take n rows) (length (take n rows)) ≡ variables_of text rows n
  unfolding variables_of
  variables_used text = ap (map (variable_of text)) used_all

-- The search in all symbols that are lent.
module _ (text : List ℕ) (rows : Rows) (w : Name) where
  pub some_symbol : (i : ℕ) → Some i ≡ position (λ row. same_bytes (sort_of text row) w) rows → (i ≡ symbol_number (symbols_of text rows (length rows)) w) × (i < length rows)
  some_symbol i e = symbol_some text rows (length rows) (omega arith) w i (e ∙ ap (position (λ row. same_bytes (sort_of text row) w)) (sym (take-length rows)))

  pub no_symbol : None ≡ position (λ row. same_bytes (sort_of text row) w) rows → length rows ≤ symbol_number (symbols_of text rows (length rows)) w
  no_symbol e = symbol_none text rows (length rows) (omega arith) w (e ∙ ap (position (λ row. same_bytes (sort_of text row) w)) (sym (take-length rows)))

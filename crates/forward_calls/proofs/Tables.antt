-- The symbols of a table.
use Prim.Native.Nat.{ℕ, ◌≤◌, ◌<◌}
use native.Mathlib.Omega.{arith}
use mathlib.Core.Path.{◌≡◌, ap, ◌∙◌}
use mathlib.Core.List.{List, []}
use lib.ListN.{length, get_or-eq_default}
use Rattle.names.specs.Symbols.{Rows, Symbol, column, columns, row_at, symbol_of, symbols_of, symbol_at, no_symbol}
use Rattle.names.specs.SearchLaws.{table_length, table_at, get_d_any, columns_length}

module _ (text : List ℕ) (rows : Rows) (n : ℕ) (h : n ≤ length rows) where
  pub symbols_length : length (symbols_of text rows n) ≡ n
  unfolding symbols_of
  symbols_length = table_length (symbol_of text) rows n h

  pub symbol_at_lem : (i : ℕ) → i < n → symbol_at (symbols_of text rows n) i ≡ symbol_of text (row_at rows i)
  unfolding symbols_of
  symbol_at_lem i l = get_d_any (symbols_of text rows n) i no_symbol (symbol_of text []) (rw (table_length (symbol_of text) rows n h) l) ∙ table_at (symbol_of text) rows n h i l

  pub symbol_past : (i : ℕ) → n ≤ i → symbol_at (symbols_of text rows n) i ≡ no_symbol
  symbol_past i l = get_or-eq_default (symbols_of text rows n) no_symbol (let e = symbols_length in omega arith)

  module _ (i : ℕ) (l : i < n) where
    pub output_at : (symbol_at (symbols_of text rows n) i).output ≡ column (row_at rows i) 2
    unfolding symbol_of
    output_at = ap (λ (f : Symbol). f.output) (symbol_at_lem i l)

    pub function_at : (symbol_at (symbols_of text rows n) i).function ≡ column (row_at rows i) 3
    unfolding symbol_of
    function_at = ap (λ (f : Symbol). f.function) (symbol_at_lem i l)

    pub inputs_at_lem : (symbol_at (symbols_of text rows n) i).inputs ≡ columns (row_at rows i) 8 (column (row_at rows i) 6)
    unfolding symbol_of
    inputs_at_lem = ap (λ (f : Symbol). f.inputs) (symbol_at_lem i l)

    pub arity_at_lem : length (symbol_at (symbols_of text rows n) i).inputs ≡ column (row_at rows i) 6
    arity_at_lem = ap length inputs_at_lem ∙ columns_length (row_at rows i) 8 (column (row_at rows i) 6)

-- Sorts, symbols and variables in entry order (the Rust's `Sig` and `Vars`), and the rows in which they are kept.
use Rattle.std.specs.Prelude.{ℕ, zero, suc, List, [], ◌∷◌, map, take, get_or}
use Rattle.source_text.specs.Parts.{part_of}
use Rattle.names.specs.Names.{Name, name_in, find}
pub use Rattle.slices.specs.Rows.{Rows, row_at}

-- A symbol. Sorts are counted from 1: an output of 0 is that of a predicate. A function is a predicate whose last input is its result; `function` is then
-- 1, and its clauses are `clauses` rules from the rule `first` on.
pub record Symbol : Type 0 where
  pub name : Name
  pub inputs : List ℕ
  pub output : ℕ
  pub function : ℕ
  pub first : ℕ
  pub clauses : ℕ

-- A variable of a rule. Its sort is 0 as long as it is not known.
pub record Variable : Type 0 where
  pub name : Name
  pub sort : ℕ

abbrev pub column : List ℕ → ℕ → ℕ
column row j = get_or row j 0

-- n columns from column j on.
unfoldable pub columns : List ℕ → ℕ → ℕ → List ℕ
columns row j zero = []
columns row j (suc n) = column row j ∷ columns row (suc j) n

-- A sort's row: start, length.
abbrev pub sort_of : List ℕ → List ℕ → Name
sort_of text row = part_of text (column row 0) (column row 1)

-- A symbol's row: start, length, output, function mark, first clause, number of clauses, number of inputs, 0, 16 inputs.
unfoldable pub symbol_of : List ℕ → List ℕ → Symbol
symbol_of text row =
    record {
      name = part_of text (column row 0) (column row 1);
      inputs = columns row 8 (column row 6);
      output = column row 2;
      function = column row 3;
      first = column row 4;
      clauses = column row 5;
    }

-- A variable's row: kind, start, length, sort.
unfoldable pub variable_of : List ℕ → List ℕ → Variable
variable_of text row = record { name = name_in text row; sort = column row 3 }

-- The first n rows of a table.
unfoldable pub sorts_of : List ℕ → Rows → ℕ → List Name
sorts_of text rows n = map (sort_of text) (take n rows)

unfoldable pub symbols_of : List ℕ → Rows → ℕ → List Symbol
symbols_of text rows n = map (symbol_of text) (take n rows)

unfoldable pub variables_of : List ℕ → Rows → ℕ → List Variable
variables_of text rows n = map (variable_of text) (take n rows)

-- The number of the first so named, from 0; the number of all where there is none.
abbrev pub sort_number : List Name → Name → ℕ
sort_number sorts w = find (λ s. s) sorts w

abbrev pub symbol_number : List Symbol → Name → ℕ
symbol_number symbols w = find (λ f. f.name) symbols w

abbrev pub variable_number : List Variable → Name → ℕ
variable_number variables w = find (λ v. v.name) variables w

abbrev pub no_symbol : Symbol
no_symbol = record { name = []; inputs = []; output = 0; function = 0; first = 0; clauses = 0 }

abbrev pub symbol_at : List Symbol → ℕ → Symbol
symbol_at symbols i = get_or symbols i no_symbol

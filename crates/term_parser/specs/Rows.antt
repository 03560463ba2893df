-- Source terms as rows of four numbers, in preorder. A term's row: kind, start, length, and the number of arguments; of a numeral its value, 2^32 - 1 for a
-- larger one.
use Rattle.std.specs.Prelude.{ℕ, min, List, [], ◌∷◌, ◌++◌}
use Rattle.words.specs.Names.{name_kind, metavariable_kind, numeral_kind}
pub use Rattle.slices.specs.Rows.{Rows}
use Rattle.term_parser.specs.Source.{Place, place, Arity, Source, numeral, metavariable, name, application, none, more, count}

-- The kind of an application's row, beside the kinds of tokens.
abbrev pub application_kind : ℕ
application_kind = 24

abbrev pub row : ℕ → Place → ℕ → List ℕ
row kind (place start n) k = kind ∷ start ∷ n ∷ k ∷ []

unfoldable pub rows_of : {n : Arity} → Source n → Rows
rows_of (numeral p v) = row numeral_kind p (min v 4294967295) ∷ []
rows_of (metavariable p) = row metavariable_kind p 0 ∷ []
rows_of (name p) = row name_kind p 0 ∷ []
rows_of (application p ts) = row application_kind p (count ts) ∷ rows_of ts
rows_of none = []
rows_of (more t ts) = rows_of t ++ rows_of ts

-- The rows of several items, in order.
unfoldable pub rows_of_all : {A : Type 0} → (A → Rows) → List A → Rows
rows_of_all rows [] = []
rows_of_all rows (a ∷ rest) = rows a ++ rows_of_all rows rest

abbrev pub name_rows : Place → Rows
name_rows p = row name_kind p 0 ∷ []

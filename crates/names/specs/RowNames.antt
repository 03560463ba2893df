-- The kind of a row, and the name at its place.
use Rattle.std.specs.Prelude.{ℕ, List}
use Rattle.source_text.specs.Parts.{part_of}
use Rattle.names.specs.Names.{Name}
use Rattle.names.specs.Symbols.{Rows, column, row_at}

abbrev pub kind_at : Rows → ℕ → ℕ
kind_at rows p = column (row_at rows p) 0

abbrev pub name_at : List ℕ → Rows → ℕ → Name
name_at text rows p = part_of text (column (row_at rows p) 1) (column (row_at rows p) 2)

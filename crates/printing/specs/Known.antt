-- Words whose symbols are known.
use Rattle.std.specs.Prelude.{ℕ, ◌≤◌, ◌<◌, List}
use Rattle.arena.specs.Cells.{headers, cells, symbol_of}

-- The headers among the words in use are of the first n symbols.
abbrev pub SymbolsKnown : List ℕ → ℕ → ℕ → Type 0
SymbolsKnown words used n = (a : ℕ) → a < used → headers ≤ cells words a → symbol_of (cells words a) < n

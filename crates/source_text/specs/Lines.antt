-- Document 01, Words: lines follow Rust's `lines`; the first `--` of a line starts a comment to the line's end.
-- A line ends before a line feed. (The Rust also drops a carriage return there; being blank, it makes no difference.)
use Rattle.std.specs.Prelude.{Bool, cond, ◌||◌, List, [], ◌∷◌, ℕ, eqb}
use Rattle.source_text.specs.Bytes.{starts_with, up_to}

-- The byte c put before the first of the lines.
abbrev pub prepend : ℕ → List (List ℕ) → List (List ℕ)
prepend c [] = (c ∷ []) ∷ []
prepend c (l ∷ ls) = (c ∷ l) ∷ ls

-- The lines of a text whose first byte is c, and whose other bytes make ls.
abbrev pub line_byte : ℕ → List (List ℕ) → List (List ℕ)
line_byte c ls = cond (eqb c 10) ([] ∷ ls) (prepend c ls)

-- The lines of a text, without their line feeds. A text that ends in a line feed has no line after it.
unfoldable pub lines : List ℕ → List (List ℕ)
lines [] = []
lines (c ∷ s) = line_byte c (lines s)

-- The first line of a text.
unfoldable pub line_of : List ℕ → List ℕ
line_of = up_to (starts_with (10 ∷ []))

-- A line without its comment.
unfoldable pub code_of : List ℕ → List ℕ
code_of = up_to (starts_with (45 ∷ 45 ∷ []))

-- Does the code of a line end at the start of s?
abbrev pub ends_code : List ℕ → Bool
ends_code s = starts_with (10 ∷ []) s || starts_with (45 ∷ 45 ∷ []) s

-- What the walk through a stored pattern is given and what it answers (the Rust's `inst`, which meets variables from left to right; document 01, refusal
-- 37, which counts words). Nodes may be shared, so a term can take many more words than are stored: the walk stops past the most words allowed.
use Rattle.std.specs.Prelude.{ℕ, ◌+◌, ◌≤◌, ◌<◌, ◌≡◌, Option, Some, None, List, length}
use Rattle.terms.specs.Term.{Term}
use Rattle.arena.specs.Cells.{headers, cells, denote, Reference, WellFormed}
use Rattle.arena.specs.Copies.{pattern_room}
use Rattle.arena.specs.Rows.{Rows}
use Rattle.resolution.specs.Fresh.{met}
use Rattle.resolution.specs.Search.{words}
use Rattle.meeting.specs.Places.{Records}

-- The term of a pattern's reference.
abbrev pub term_of : List ℕ → ℕ → Term
term_of pattern reference = denote pattern_room (cells pattern) reference

-- What the walk requires.
pub record Ready (pattern : List ℕ) (reference most : ℕ) (stack : Rows) : Type 0 where
  -- The words in use are within the slice, and references to them are below the headers.
  pub used : ℕ
  pub within : used ≤ length pattern
  pub low : pattern_room + used ≤ headers
  -- Among them each header has its node's arguments behind it, and the reference is a variable's or a node's.
  pub formed : WellFormed pattern_room (cells pattern) pattern_room used
  pub root : Reference pattern_room (cells pattern) pattern_room used reference
  -- The stack has a row for each node that may be entered.
  pub room : most ≤ length stack

-- What the walk ensures.
pub record Walked (pattern : List ℕ) (reference : ℕ) (table : List (Option ℕ)) (count most : ℕ) (answer : Option ℕ) (table' : List (Option ℕ)) (count' : ℕ) : Type 0 where
  -- A term of too many words is told.
  pub exceeded : most < words (term_of pattern reference) → answer ≡ None
  -- Else its words are counted, and its variables are met behind those met before.
  pub answered : words (term_of pattern reference) ≤ most → answer ≡ Some (words (term_of pattern reference))
  pub recorded : words (term_of pattern reference) ≤ most → (e : List ℕ) → Records e table count
      → Records (met (term_of pattern reference) e) table' count'

-- What is asked of a term that is to be walked whole: it takes no more words than are allowed.
abbrev pub WholeAsked : List ℕ → ℕ → ℕ → Rows → Type 0
WholeAsked pattern reference most stack = Ready pattern reference most stack × (words (term_of pattern reference) ≤ most)

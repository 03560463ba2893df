-- Where a name may lie (document 01, refusals 1 and 6): in the text, with 1 to 64 bytes, as many as a word may have.
use Rattle.std.specs.Prelude.{ℕ, ◌+◌, ◌≤◌, ◌<◌, Bool, ◌&&◌, List, length, leb, ltb}

-- The place of a name in the text.
pub record NamePlace (text : List ℕ) (start size : ℕ) : Type 0 where
  pub inside : start + size ≤ length text
  pub some : 0 < size
  pub short : size ≤ 64

-- The test of such a place.
abbrev pub is_word_place : List ℕ → ℕ → ℕ → Bool
is_word_place text start size = ltb 0 size && (leb size 64 && leb (start + size) (length text))

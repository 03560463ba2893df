-- The words of a text: the part of it at a place, and the value of a numeral there.
use Rattle.std.specs.Prelude.{◌≡◌, Option, List, ℕ}
pub use Rattle.slices.specs.Parts.{part_of}
use Rattle.source_text.specs.Numerals.{numeral_of}
use Rattle.source_text.specs.Answers.{numeral_told, value_told}

-- The promise of `numeral`: the value of the word at a place.
pub record NumeralRead (text : List ℕ) (start n : ℕ) (r : Option ℕ) : Type 0 where
  pub answer : r ≡ numeral_of (part_of text start n)
  pub told : numeral_told r ≡ value_told (part_of text start n)

-- The answer of `numeral` by the paper's numbers: it follows from the answer itself.
use mathlib.Core.Path.{◌≡◌, refl, ap, ◌∙◌}
use mathlib.Core.Bool.{Bool, true, false, cond}
use mathlib.Core.List.{List}
use Prim.Native.Nat.{ℕ}
use Rattle.source_text.specs.Numerals.{is_numeral, value_from, numeral_of}
use Rattle.source_text.specs.Answers.{numeral_told, value_told}
use Rattle.source_text.specs.Parts.{part_of, NumeralRead}
use Rattle.std.specs.Prelude.{Option, Some, None}

value_told_lem : (fits : Bool) (w : List ℕ) → is_numeral w ≡ fits → numeral_told (cond fits (Some (value_from 0 w)) None) ≡ value_told w
value_told_lem true w e = rw e
value_told_lem false w e = rw e

-- The promise of `numeral`, from its answer.
pub numeral_read : (text : List ℕ) (start n : ℕ) (r : Option ℕ) → r ≡ numeral_of (part_of text start n) → NumeralRead text start n r
unfolding numeral_of
numeral_read text start n r answer =
    let w : List ℕ = part_of text start n in
    record { answer = answer; told = ap numeral_told answer ∙ value_told_lem (is_numeral w) w refl }

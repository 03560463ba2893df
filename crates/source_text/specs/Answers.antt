-- Document 01, The forms we expect: of each answer that is an enum, the paper's number and values for each case; here of `numeral`.
use Rattle.std.specs.Prelude.{cond, Option, Some, None, List, [], ◌∷◌, ℕ}
use Rattle.source_text.specs.Numerals.{value_from, is_numeral}

-- What is answered: a refusal's number, 0 for none, and its line; and the numbers that the answer gives otherwise.
pub record Told : Type 0 where
  pub number : ℕ
  pub line : ℕ
  pub counts : List ℕ

-- No refusal.
abbrev pub answers : List ℕ → Told
answers ns = record { number = 0; line = 0; counts = ns }

-- A refusal.
abbrev pub refuses : ℕ → ℕ → Told
refuses e line = record { number = e; line = line; counts = [] }

-- What `numeral` answers: the value, or 5; a word alone has no line.
abbrev pub numeral_told : Option ℕ → Told
numeral_told (Some v) = answers (v ∷ [])
numeral_told None = refuses 5 0

-- The same of what the definitions come to.
abbrev pub value_told : List ℕ → Told
value_told w = cond (is_numeral w) (answers (value_from 0 w ∷ [])) (refuses 5 0)

-- Document 01, Words: all digits make an unsigned 64-bit numeral.
use Rattle.std.specs.Prelude.{Bool, true, Option, Some, None, cond, ◌&&◌, List, [], ◌∷◌, ℕ, ◌+◌, ◌-◌, ◌*◌, ◌^◌, ltb, length}
use Rattle.source_text.specs.Bytes.{within}

-- The value of a digit.
abbrev pub digit_of : ℕ → Option ℕ
digit_of c = cond (within 48 57 c) (Some (c - 48)) None

unfoldable pub all_digits : List ℕ → Bool
all_digits [] = true
all_digits (c ∷ s) = within 48 57 c && all_digits s

-- The decimal number whose first digits make v and whose other digits are s.
unfoldable pub value_from : ℕ → List ℕ → ℕ
value_from v [] = v
value_from v (c ∷ s) = value_from (v * 10 + (c - 48)) s

-- Is a word one of digits whose value has 64 bits?
abbrev pub is_numeral : List ℕ → Bool
is_numeral w = ltb 0 (length w) && (all_digits w && ltb (value_from 0 w) (2 ^ 64))

-- The value of such a word; any other has none.
unfoldable pub numeral_of : List ℕ → Option ℕ
numeral_of w = cond (is_numeral w) (Some (value_from 0 w)) None

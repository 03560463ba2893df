-- Document 01, Words: each of the 128 ASCII codes has one class; outside comments → (U+2192) is the only other character.
use Rattle.std.specs.Prelude.{Bool, false, cond, ◌||◌, List, [], ◌∷◌, ℕ, zero, suc, ◌-◌, eqb, ltb}
use Rattle.source_text.specs.Bytes.{within, one_of, starts_with}
use Rattle.source_text.specs.Utf8.{character_length}
use Rattle.source_text.specs.declared.characters.Class.{Class}
use Rattle.source_text.specs.declared.characters.Class.TheVariants.{Stray, Blank, Letter, Digit, Sign, Outside}
use Rattle.source_text.specs.declared.characters.Character.{Character}

-- The classes: none, blank, letter, digit, start of a sign, and outside the domain.
abbrev pub none : ℕ
none = 0

abbrev pub blank : ℕ
blank = 1

abbrev pub letter : ℕ
letter = 2

abbrev pub digit : ℕ
digit = 3

abbrev pub sign : ℕ
sign = 4

abbrev pub outside : ℕ
outside = 5

-- The number of a class, and the numbers of a table of classes.
abbrev pub class_number : Class → ℕ
class_number Stray = none
class_number Blank = blank
class_number Letter = letter
class_number Digit = digit
class_number Sign = sign
class_number Outside = outside

unfoldable pub class_numbers : List Class → List ℕ
class_numbers [] = []
class_numbers (c ∷ cs) = class_number c ∷ class_numbers cs

-- A character: its class and its length in bytes.
pub record Classed : Type 0 where
  pub class : ℕ
  pub length : ℕ

abbrev pub classed_of : Character → Classed
classed_of c = record { class = class_number c.class; length = c.length }

-- Codes 9 to 13 and 32 are blank; letters, digits and _ . ' # ? make words; ( ) : , | = - start signs.
unfoldable pub class_of : ℕ → ℕ
class_of c =
    cond (within 9 13 c || eqb c 32) blank
    (cond (within 48 57 c) digit
    (cond (within 65 90 c || (within 97 122 c || one_of (95 ∷ 46 ∷ 39 ∷ 35 ∷ 63 ∷ []) c)) letter
    (cond (one_of (40 ∷ 41 ∷ 58 ∷ 44 ∷ 124 ∷ 61 ∷ 45 ∷ []) c) sign none)))

-- The classes of the n codes from c on; the table has those of the 128 ASCII codes.
unfoldable pub classes_from : ℕ → ℕ → List ℕ
classes_from zero c = []
classes_from (suc n) c = class_of c ∷ classes_from n (suc c)

unfoldable pub class_table : List ℕ
class_table = classes_from 128 0

-- → in UTF-8.
abbrev pub arrow : List ℕ
arrow = 0xE2 ∷ 0x86 ∷ 0x92 ∷ []

-- The class and the length of the character at the start of s.
unfoldable pub character_of : List ℕ → Classed
character_of [] = record { class = none; length = 0 }
character_of (c ∷ s) =
    cond (ltb c 128) (record { class = class_of c; length = 1 })
    (cond (starts_with arrow (c ∷ s)) (record { class = sign; length = 3 })
    (record { class = outside; length = character_length (c ∷ s) }))

-- Has s, after its first k bytes, a character outside the domain?
unfoldable pub outside_after : List ℕ → ℕ → Bool
outside_after [] k = false
outside_after (c ∷ s) (suc k) = outside_after s k
outside_after (c ∷ s) zero = eqb (character_of (c ∷ s)).class outside || outside_after s ((character_of (c ∷ s)).length - 1)

unfoldable pub has_outside : List ℕ → Bool
has_outside s = outside_after s 0

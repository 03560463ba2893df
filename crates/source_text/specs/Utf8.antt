-- UTF-8, from RFC 3629, section 4: a text is a sequence of characters, each of one of the nine forms
--   00-7F | C2-DF tail | E0 A0-BF tail | E1-EC 2tail | ED 80-9F tail | EE-EF 2tail | F0 90-BF 2tail | F1-F3 3tail | F4 80-8F 2tail
-- where a tail is 80-BF.
use Rattle.std.specs.Prelude.{Bool, true, Option, Some, None, eqb, false, cond, ◌&&◌, List, [], ◌∷◌, ℕ, zero, suc, ◌-◌, ltb}
use Rattle.source_text.specs.Bytes.{within}
use Rattle.source_text.specs.declared.utf8.Lead.{Lead}

-- A form: the range of its first byte, and what that byte asks of the rest.
pub record Form : Type 0 where
  pub from : ℕ
  pub to : ℕ
  pub lead : Lead

-- A character of `length` bytes whose second byte is from low to high.
abbrev pub asks : ℕ → ℕ → ℕ → Lead
asks length low high = record { length = length; low = low; high = high }

unfoldable pub forms : List Form
forms =
    record { from = 0x00; to = 0x7F; lead = asks 1 0x80 0xBF }
    ∷ record { from = 0xC2; to = 0xDF; lead = asks 2 0x80 0xBF }
    ∷ record { from = 0xE0; to = 0xE0; lead = asks 3 0xA0 0xBF }
    ∷ record { from = 0xE1; to = 0xEC; lead = asks 3 0x80 0xBF }
    ∷ record { from = 0xED; to = 0xED; lead = asks 3 0x80 0x9F }
    ∷ record { from = 0xEE; to = 0xEF; lead = asks 3 0x80 0xBF }
    ∷ record { from = 0xF0; to = 0xF0; lead = asks 4 0x90 0xBF }
    ∷ record { from = 0xF1; to = 0xF3; lead = asks 4 0x80 0xBF }
    ∷ record { from = 0xF4; to = 0xF4; lead = asks 4 0x80 0x8F }
    ∷ []

-- What the first byte a asks of the rest; a length of 0 where no form starts with a.
unfoldable pub form_of : List Form → ℕ → Lead
form_of [] a = asks 0 0x80 0xBF
form_of (f ∷ fs) a = cond (within f.from f.to a) f.lead (form_of fs a)

unfoldable pub lead_of : ℕ → Lead
lead_of a = form_of forms a

-- What a first byte asks, if a form starts with it.
abbrev pub starting : Lead → Option Lead
starting l = cond (eqb l.length 0) None (Some l)

-- A length, if there is a character.
abbrev pub positive : ℕ → Option ℕ
positive zero = None
positive (suc n) = Some (suc n)

-- n bytes, the first from low to high and the others tails.
unfoldable pub tails_of : ℕ → ℕ → ℕ → List ℕ → Bool
tails_of zero low high s = true
tails_of (suc n) low high [] = false
tails_of (suc n) low high (c ∷ s) = within low high c && tails_of n 0x80 0xBF s

-- The length of the character at the start of s, 0 where there is none. (A byte that starts no form has the length 0, and asks for no tails.)
unfoldable pub character_length : List ℕ → ℕ
character_length [] = 0
character_length (a ∷ s) = cond (tails_of ((lead_of a).length - 1) (lead_of a).low (lead_of a).high s) (lead_of a).length 0

-- Is s UTF-8 after its first k bytes, the rest of the character before?
unfoldable pub utf8_after : List ℕ → ℕ → Bool
utf8_after [] k = true
utf8_after (c ∷ s) (suc k) = utf8_after s k
utf8_after (c ∷ s) zero = ltb 0 (character_length (c ∷ s)) && utf8_after s (character_length (c ∷ s) - 1)

unfoldable pub is_utf8 : List ℕ → Bool
is_utf8 s = utf8_after s 0

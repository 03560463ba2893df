-- Document 01, Words: `->` (same as →), `=>` and `:=` are tried before the single signs.
use Rattle.std.specs.Prelude.{cond, List, [], ◌∷◌, ℕ, length}
use Rattle.source_text.specs.Bytes.{starts_with}
use Rattle.source_text.specs.Characters.{arrow}
use Rattle.refusals.specs.declared.Refusal.TheVariants.{UnexpectedCharacter}
use Rattle.words.specs.Items.{Item}
use Rattle.words.specs.Items.Item.{Token, Refused}

-- A sign: its kind, and how it is written.
pub record Sign : Type 0 where
  pub kind : ℕ
  pub written : List ℕ

abbrev pub entry : ℕ → List ℕ → Sign
entry k w = record { kind = k; written = w }

-- -> => := → ( ) : , | =   in the order in which they are tried
unfoldable pub signs : List Sign
signs =
    entry 15 (45 ∷ 62 ∷ [])
    ∷ entry 16 (61 ∷ 62 ∷ [])
    ∷ entry 17 (58 ∷ 61 ∷ [])
    ∷ entry 15 arrow
    ∷ entry 18 (40 ∷ [])
    ∷ entry 19 (41 ∷ [])
    ∷ entry 20 (58 ∷ [])
    ∷ entry 21 (44 ∷ [])
    ∷ entry 22 (124 ∷ [])
    ∷ entry 23 (61 ∷ [])
    ∷ []

-- The token of the first of these signs with which s starts.
unfoldable pub sign_among : List Sign → List ℕ → Item
sign_among [] s = Refused UnexpectedCharacter
sign_among (x ∷ xs) s = cond (starts_with x.written s) (Token x.kind (length x.written)) (sign_among xs s)

unfoldable pub sign_item : List ℕ → Item
sign_item s = sign_among signs s

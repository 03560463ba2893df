-- Document 01, Words: the eleven keywords, in the Rust's order, and the kind of a word.
use Rattle.std.specs.Prelude.{Option, Some, None, cond, List, [], ◌∷◌, ℕ, suc, eqb, ltb, length, get_or}
use Rattle.source_text.specs.Bytes.{same_bytes}
use Rattle.source_text.specs.Numerals.{all_digits, numeral_of}
use Rattle.refusals.specs.declared.Refusal.TheVariants.{NumeralTooLarge, WordTooLong}
use Rattle.words.specs.Items.{Item}
use Rattle.words.specs.Items.Item.{Token, Refused}

-- The kinds of words: 1 to 11 are the keywords.
abbrev pub name_kind : ℕ
name_kind = 12

abbrev pub metavariable_kind : ℕ
metavariable_kind = 13

abbrev pub numeral_kind : ℕ
numeral_kind = 14

-- sort ctor pred rule def theorem by auto induction #eval #check
unfoldable pub keywords : List (List ℕ)
keywords =
    (115 ∷ 111 ∷ 114 ∷ 116 ∷ [])
    ∷ (99 ∷ 116 ∷ 111 ∷ 114 ∷ [])
    ∷ (112 ∷ 114 ∷ 101 ∷ 100 ∷ [])
    ∷ (114 ∷ 117 ∷ 108 ∷ 101 ∷ [])
    ∷ (100 ∷ 101 ∷ 102 ∷ [])
    ∷ (116 ∷ 104 ∷ 101 ∷ 111 ∷ 114 ∷ 101 ∷ 109 ∷ [])
    ∷ (98 ∷ 121 ∷ [])
    ∷ (97 ∷ 117 ∷ 116 ∷ 111 ∷ [])
    ∷ (105 ∷ 110 ∷ 100 ∷ 117 ∷ 99 ∷ 116 ∷ 105 ∷ 111 ∷ 110 ∷ [])
    ∷ (35 ∷ 101 ∷ 118 ∷ 97 ∷ 108 ∷ [])
    ∷ (35 ∷ 99 ∷ 104 ∷ 101 ∷ 99 ∷ 107 ∷ [])
    ∷ []

-- The number of the first of these words that is w, counted from k; the kind of a name where none is.
unfoldable pub number_among : List (List ℕ) → ℕ → List ℕ → ℕ
number_among [] k w = name_kind
number_among (v ∷ vs) k w = cond (same_bytes w v) k (number_among vs (suc k) w)

-- A keyword's number, or the kind of a name.
unfoldable pub keyword_of : List ℕ → ℕ
keyword_of w = number_among keywords 1 w

-- k where w is v, else the kind of a name.
abbrev pub number_if : List ℕ → List ℕ → ℕ → ℕ
number_if w v k = cond (same_bytes w v) k name_kind

-- The number of `#eval` or `#check`, or the kind of a name.
abbrev pub hash_keyword_of : List ℕ → ℕ
hash_keyword_of w = cond (same_bytes w (35 ∷ 101 ∷ 118 ∷ 97 ∷ 108 ∷ [])) 10 (number_if w (35 ∷ 99 ∷ 104 ∷ 101 ∷ 99 ∷ 107 ∷ []) 11)

-- A numeral, if its value fits.
abbrev pub if_fits : Option ℕ → Item → Item
if_fits (Some v) i = i
if_fits None i = Refused NumeralTooLarge

-- The token that a word makes. A word that starts with `?` (63) is a metavariable, the lone `?` too. 6 comes before 5.
unfoldable pub word_item : List ℕ → Item
word_item w =
    cond (ltb 64 (length w)) (Refused WordTooLong)
    (cond (eqb (get_or w 0 0) 63) (Token metavariable_kind (length w))
    (cond (all_digits w) (if_fits (numeral_of w) (Token numeral_kind (length w)))
    (Token (keyword_of w) (length w))))

-- Words of a text, and what it means that tokens are taken whole (document 01, "Words"): the bytes at a token's place are a whole word of
-- the text, or one of the signs. These definitions speak of the text's bytes, not of how it is read.
use Rattle.std.specs.Prelude.{ℕ, ◌+◌, ◌-◌, ◌≤◌, ◌<◌, ◌≡◌, Bool, true, false, ◌||◌, List, [], ◌∷◌, length, get_or}
use Rattle.source_text.specs.Bytes.{within, one_of}
use Rattle.words.specs.Names.{keywords}
use Rattle.source_text.specs.Numerals.{all_digits, numeral_of}
use Rattle.words.specs.Signs.{entry, signs}
use Rattle.source_text.specs.Parts.{part_of}
use Rattle.std.specs.Prelude.{Some}
use Rattle.term_parser.specs.ReaderLaws.{Each}

-- Does a byte make words? The letters A to Z and a to z, the digits, and _ . ' # ? do; no other byte does.
unfoldable pub is_word_byte : ℕ → Bool
is_word_byte c = within 65 90 c || (within 97 122 c || (within 48 57 c || one_of (95 ∷ 46 ∷ 39 ∷ 35 ∷ 63 ∷ []) c))

-- The place i of a text is in a comment: `--` (45 45) begins at or before it, and no line feed (10) stands between.
pub record InComment (text : List ℕ) (i : ℕ) : Type 0 where
  pub from : ℕ
  pub earlier : from ≤ i
  pub dash : get_or text from 0 ≡ 45
  pub dash₂ : get_or text (from + 1) 0 ≡ 45
  pub line : (k : ℕ) → from ≤ k → k ≤ i → get_or text k 0 ≡ 10 → ⊥

-- The n bytes of a text from `start` on are a whole word of it: a run of bytes that make words, which goes on neither before nor behind.
pub record WholeWord (text : List ℕ) (start n : ℕ) : Type 0 where
  -- It has at least one byte and at most 64, and lies inside the text.
  pub some : 1 ≤ n
  pub short : n ≤ 64
  pub inside : start + n ≤ length text
  -- Each byte of the text from its start to its end makes words.
  pub inner : (i : ℕ) → start ≤ i → i < start + n → is_word_byte (get_or text i 0) ≡ true
  -- The byte before it does not, if there is one; nor does the byte behind it, if there is one.
  pub before : (i : ℕ) → i + 1 ≡ start → is_word_byte (get_or text i 0) ≡ false
  pub behind : start + n < length text → is_word_byte (get_or text (start + n) 0) ≡ false
  -- None of its bytes is in a comment.
  pub outside : (i : ℕ) → start ≤ i → i < start + n → InComment text i → ⊥
  -- What `part_of` gives for this place is these bytes, all of them.
  pub long : length (part_of text start n) ≡ n
  pub bytes : (i : ℕ) → i < n → get_or (part_of text start n) i 0 ≡ get_or text (start + i) 0

-- A sign of this kind is written w: it is one of the ten of the list `signs`.
pub record SignOf (kind : ℕ) (w : List ℕ) : Type 0 where
  pub number : ℕ
  pub listed : number < length signs
  pub kinded : (get_or signs number (entry 0 [])).kind ≡ kind
  pub written : (get_or signs number (entry 0 [])).written ≡ w

-- What the bytes w of a token are, by its kind.
pub record ReadAs (kind : ℕ) (w : List ℕ) : Type 0 where
  pub lowest : 1 ≤ kind
  pub highest : kind ≤ 23
  -- 1 to 11: the keyword of that number.
  pub keyword : kind ≤ 11 → w ≡ get_or keywords (kind - 1) []
  -- 12, a name: not one of the keywords, not with a `?` (63) in front, and not digits alone.
  pub name : kind ≡ 12
      → ((i : ℕ) → i < length keywords → get_or keywords i [] ≡ w → ⊥) × (get_or w 0 0 ≡ 63 → ⊥) × (all_digits w ≡ false)
  -- 13, a metavariable: with a `?` in front.
  pub metavariable : kind ≡ 13 → get_or w 0 0 ≡ 63
  -- 14, a numeral: digits alone, and they have a value.
  pub numeral : kind ≡ 14 → (v : ℕ) × (all_digits w ≡ true) × (numeral_of w ≡ Some v)
  -- 15 to 23: a sign of that kind.
  pub sign : 15 ≤ kind → SignOf kind w

-- At this place of a text stands a whole word that is read as this kind.
pub record WordAt (text : List ℕ) (kind start n : ℕ) : Type 0 where
  pub whole : WholeWord text start n
  pub read : ReadAs kind (part_of text start n)

-- At this place stands a name: neither a keyword nor a metavariable nor a numeral.
abbrev pub NameAt : List ℕ → ℕ → ℕ → Type 0
NameAt text start n = WordAt text 12 start n

-- A token of a text, whose row is kind, start, length, line.
pub record TokenWhole (text : List ℕ) (row : List ℕ) : Type 0 where
  -- Its place is not empty, inside the text and outside comments.
  pub some : 1 ≤ get_or row 2 0
  pub inside : get_or row 1 0 + get_or row 2 0 ≤ length text
  pub outside : (i : ℕ) → get_or row 1 0 ≤ i → i < get_or row 1 0 + get_or row 2 0 → InComment text i → ⊥
  -- Keywords, names, metavariables and numerals are whole words of the text.
  pub word : get_or row 0 0 ≤ 14 → WholeWord text (get_or row 1 0) (get_or row 2 0)
  -- The bytes at its place are what its kind says.
  pub reads : ReadAs (get_or row 0 0) (part_of text (get_or row 1 0) (get_or row 2 0))

-- The place i is in one of the tokens, and that token is a word: a keyword, a name, a metavariable or a numeral.
pub record InToken (ts : List (List ℕ)) (i : ℕ) : Type 0 where
  pub number : ℕ
  pub there : number < length ts
  pub from : get_or (get_or ts number []) 1 0 ≤ i
  pub to : i < get_or (get_or ts number []) 1 0 + get_or (get_or ts number []) 2 0
  pub kinded : get_or (get_or ts number []) 0 0 ≤ 14

-- The place i is in a comment, or in such a token.
pub data Accounted (text : List ℕ) (ts : List (List ℕ)) (i : ℕ) : Type 0 where
  commented : InComment text i → Accounted text ts i
  taken : InToken ts i → Accounted text ts i

-- The tokens of a text are its words and signs.
pub record TokensWhole (text : List ℕ) (ts : List (List ℕ)) : Type 0 where
  -- Each is whole.
  pub whole : Each (TokenWhole text) ts
  -- They stand in order and do not overlap: each ends before the next starts.
  pub in_order : (i j : ℕ) → i < j → j < length ts → get_or (get_or ts i []) 1 0 + get_or (get_or ts i []) 2 0 ≤ get_or (get_or ts j []) 1 0
  -- No part of a word is left out: each byte that makes words is in a comment or in a token, which is then the whole word.
  pub taken : (i : ℕ) → i < length text → is_word_byte (get_or text i 0) ≡ true → Accounted text ts i

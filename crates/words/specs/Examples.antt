-- The cases of words that document 01 marks for proof, as one list with one lemma over the definitions.
use Rattle.std.specs.Prelude.{◌≡◌, refl, Bool, true, ◌&&◌, ℕ}
use mathlib.Core.List.Memᴰ
use mathlib.Core.List.{List, [], ◌∷◌, ◌++◌, Memᴰ}
use Rattle.std.proofs.Common.{⊎_elim}
use Rattle.source_text.specs.Bytes.{one_of, starts_with, same_bytes, up_to}
use Rattle.source_text.specs.ByteLaws.{and_left, and_right, same_is}
use Rattle.source_text.specs.Utf8.{forms, form_of, lead_of, tails_of, character_length, utf8_after, is_utf8}
use Rattle.source_text.specs.Characters.{class_of, character_of, outside_after, has_outside}
use Rattle.source_text.specs.Lines.{lines, code_of}
use Rattle.source_text.specs.Numerals.{all_digits, value_from, numeral_of}
use Rattle.words.specs.Names.{keywords, number_among, keyword_of, word_item}
use Rattle.words.specs.Signs.{signs, sign_among, sign_item}
use Rattle.words.specs.Tokens.{Reading, and_then, word_of, item_of, read_after, read_lines, outside_line}
use Rattle.words.specs.Tokens.Reading.{tokens, refused}
use Rattle.refusals.specs.Refusals.{number_of}
use Rattle.words.specs.Lexer.{lex_of}

-- A text, and what is read: 0 and then the rows of its tokens, or the number and the line of the refusal.
pub record Case : Type 0 where
  pub text : List ℕ
  pub read : List ℕ

abbrev pub joined : List (List ℕ) → List ℕ
joined [] = []
joined (row ∷ rows) = row ++ joined rows

abbrev pub shown : Reading → List ℕ
shown (tokens ts) = 0 ∷ joined ts
shown (refused r n) = number_of r ∷ n ∷ []

pub marked : List Case
marked =
    -- 18446744073709551615 is read
    record { text = 49 ∷ 56 ∷ 52 ∷ 52 ∷ 54 ∷ 55 ∷ 52 ∷ 52 ∷ 48 ∷ 55 ∷ 51 ∷ 55 ∷ 48 ∷ 57 ∷ 53 ∷ 53 ∷ 49 ∷ 54 ∷ 49 ∷ 53 ∷ []; read = 0 ∷ 14 ∷ 0 ∷ 20 ∷ 1 ∷ [] }
    -- one more gives 5
    ∷ record { text = 49 ∷ 56 ∷ 52 ∷ 52 ∷ 54 ∷ 55 ∷ 52 ∷ 52 ∷ 48 ∷ 55 ∷ 51 ∷ 55 ∷ 48 ∷ 57 ∷ 53 ∷ 53 ∷ 49 ∷ 54 ∷ 49 ∷ 54 ∷ []; read = 5 ∷ 1 ∷ [] }
    -- ? is a metavariable
    ∷ record { text = 63 ∷ []; read = 0 ∷ 13 ∷ 0 ∷ 1 ∷ 1 ∷ [] }
    -- a-->b is a and a comment
    ∷ record { text = 97 ∷ 45 ∷ 45 ∷ 62 ∷ 98 ∷ []; read = 0 ∷ 12 ∷ 0 ∷ 1 ∷ 1 ∷ [] }
    -- - gives 4
    ∷ record { text = 45 ∷ []; read = 4 ∷ 1 ∷ [] }
    ∷ []

-- Do all cases come out as they say?
pub all_right : List Case → Bool
all_right [] = true
all_right (c ∷ cs) = same_bytes (shown (lex_of 65536 c.text)) c.read && all_right cs

-- Where the test is passed, each case is read as it says.
case_holds : (cs : List Case) → all_right cs ≡ true → (c : Case) → Memᴰ c cs → shown (lex_of 65536 c.text) ≡ c.read
unfolding all_right
case_holds [] e c m = absurd (Memᴰ.not-nil m)
case_holds (d ∷ cs) e c m =
    ⊎_elim
    (λ p. rw p (same_is _ _ (and_left (same_bytes (shown (lex_of 65536 d.text)) d.read) (all_right cs) e)))
    (λ n. case_holds cs (and_right (same_bytes (shown (lex_of 65536 d.text)) d.read) (all_right cs) e) c n)
    (Memᴰ.cases_cons m)

test_passes : all_right marked ≡ true
unfolding all_right marked lex_of is_utf8 utf8_after character_length tails_of lead_of form_of forms outside_line has_outside outside_after character_of class_of one_of starts_with same_bytes up_to lines code_of read_lines read_after and_then item_of word_of word_item keyword_of keywords number_among all_digits value_from numeral_of sign_item signs sign_among
test_passes = refl

-- Every marked case is read as it says.
pub marked_holds : (c : Case) → Memᴰ c marked → shown (lex_of 65536 c.text) ≡ c.read
marked_holds c m = case_holds marked test_passes c m

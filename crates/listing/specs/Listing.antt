-- The listing of a text's tokens: a line `LINE KIND TEXT` for each token in order, or the one line `refused N line L`.
use Rattle.std.specs.Prelude.{ℕ, ◌+◌, ◌*◌, ◌≡◌, Bool, cond, List, [], ◌∷◌, ◌++◌, eqb, ltb, get_or, length}
use Rattle.std.proofs.lemmas.List.Edits.{sets}
use Rattle.words.specs.Names.{name_kind, metavariable_kind, numeral_kind}
use Rattle.words.specs.Tokens.{Reading}
use Rattle.words.specs.Tokens.Reading.{tokens, refused}
use Rattle.refusals.specs.Refusals.{number_of}
use Rattle.source_text.specs.Parts.{part_of}
use Rattle.words.specs.Lexer.{capped_of, lex_of, lex_rows}
use Rattle.words.specs.declared.Limits.{Limits}
use Rattle.refusals.specs.declared.Refusal.TheVariants.{Storage}
use Rattle.byte_output.specs.Output.{numeral}
use Rattle.std.specs.Prelude.{Option, Some, None}

-- A token's kind between spaces: ` keyword `, ` name `, ` metavariable `, ` numeral `, ` sign `.
abbrev pub keyword_word : List ℕ
keyword_word = 32 ∷ 107 ∷ 101 ∷ 121 ∷ 119 ∷ 111 ∷ 114 ∷ 100 ∷ 32 ∷ []

abbrev pub name_word : List ℕ
name_word = 32 ∷ 110 ∷ 97 ∷ 109 ∷ 101 ∷ 32 ∷ []

abbrev pub metavariable_word : List ℕ
metavariable_word = 32 ∷ 109 ∷ 101 ∷ 116 ∷ 97 ∷ 118 ∷ 97 ∷ 114 ∷ 105 ∷ 97 ∷ 98 ∷ 108 ∷ 101 ∷ 32 ∷ []

abbrev pub numeral_word : List ℕ
numeral_word = 32 ∷ 110 ∷ 117 ∷ 109 ∷ 101 ∷ 114 ∷ 97 ∷ 108 ∷ 32 ∷ []

abbrev pub sign_word : List ℕ
sign_word = 32 ∷ 115 ∷ 105 ∷ 103 ∷ 110 ∷ 32 ∷ []

-- The word of a kind's number: 1 to 11 are the keywords.
abbrev pub kind_word : ℕ → List ℕ
kind_word kind =
    cond (ltb kind name_kind) keyword_word
    (cond (eqb kind name_kind) name_word
    (cond (eqb kind metavariable_kind) metavariable_word
    (cond (eqb kind numeral_kind) numeral_word sign_word)))

-- `refused `, ` line ` and the line's end.
abbrev pub refused_word : List ℕ
refused_word = 114 ∷ 101 ∷ 102 ∷ 117 ∷ 115 ∷ 101 ∷ 100 ∷ 32 ∷ []

abbrev pub line_word : List ℕ
line_word = 32 ∷ 108 ∷ 105 ∷ 110 ∷ 101 ∷ 32 ∷ []

abbrev pub line_end : List ℕ
line_end = 10 ∷ []

-- The line of a token, whose row has kind, start, length and line.
abbrev pub token_line : List ℕ → List ℕ → List ℕ
token_line text row = numeral (get_or row 3 0) ++ (kind_word (get_or row 0 0) ++ (part_of text (get_or row 1 0) (get_or row 2 0) ++ line_end))

-- The lines of tokens, in order.
unfoldable pub token_lines : List ℕ → List (List ℕ) → List ℕ
token_lines text [] = []
token_lines text (row ∷ rows) = token_line text row ++ token_lines text rows

-- The one line of a refused text.
abbrev pub refused_line : ℕ → ℕ → List ℕ
refused_line number line = refused_word ++ (numeral number ++ (line_word ++ (numeral line ++ line_end)))

-- The lines of a reading.
abbrev pub reading_lines : List ℕ → Reading → List ℕ
reading_lines text (tokens rows) = token_lines text rows
reading_lines text (refused r line) = refused_line (number_of r) line

-- The reading with so many rows lent: fewer than the limit on the text's bytes give 1.
abbrev pub reading_of : List ℕ → Limits → ℕ → Reading
reading_of text limits lent = cond (ltb lent (capped_of limits).text) (refused Storage 0) (lex_of (capped_of limits).text text)

-- The listing of a text under limits, with so many rows lent.
abbrev pub listing_of : List ℕ → Limits → ℕ → List ℕ
listing_of text limits lent = reading_lines text (reading_of text limits lent)

-- A buffer of 26 bytes for each byte of the limit, and 35 for a refusal, is always enough (`listing_fits`).
abbrev pub listing_size : Limits → ℕ
listing_size limits = 35 + 26 * (capped_of limits).text

-- Is the buffer shorter?
abbrev pub is_short : Limits → List ℕ → Bool
is_short limits out = ltb (length out) (listing_size limits)

-- The answer: how many bytes the listing has; a buffer that is too short is refused.
abbrev pub listed_answer : List ℕ → Limits → List (List ℕ) → List ℕ → Option ℕ
listed_answer text limits rows out = cond (is_short limits out) None (Some (length (listing_of text limits (length rows))))

-- The buffer then: it starts with the listing, and the rest is as it was.
abbrev pub listed_buffer : List ℕ → Limits → List (List ℕ) → List ℕ → List ℕ
listed_buffer text limits rows out = cond (is_short limits out) out (sets out 0 (listing_of text limits (length rows)))

-- The rows then: as `lex` leaves them; a refused buffer leaves them as they were.
abbrev pub listed_rows : List ℕ → Limits → List (List ℕ) → List ℕ → List (List ℕ)
listed_rows text limits rows out = cond (is_short limits out) rows (lex_rows text limits rows)

-- The promise of `write_listing`.
pub record ListingWritten (text : List ℕ) (limits : Limits) (rows rows' : List (List ℕ)) (out out' : List ℕ) (r : Option ℕ) : Type 0 where
  pub answer : r ≡ listed_answer text limits rows out
  pub buffer : out' ≡ listed_buffer text limits rows out
  pub tokens : rows' ≡ listed_rows text limits rows out

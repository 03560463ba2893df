-- `parse` and `parse_text` on all inputs: the order of the refusals, and what the lent rows hold afterwards.
use Rattle.std.specs.Prelude.{◌≡◌, Result, Ok, Err, Bool, cond, ◌||◌, List, [], ◌∷◌, ◌++◌, ℕ, ◌-◌, ◌≤◌, ltb, length, replicate}
use Rattle.words.specs.Lexer.{capped_of, lex_of, zero_row}
use Rattle.words.specs.Tokens.{Reading}
use Rattle.words.specs.Tokens.Reading.{tokens, refused as unread}
use Rattle.refusals.specs.Refusals.{number_of}
use Rattle.source_text.specs.Answers.{Told, answers, refuses}
use Rattle.words.specs.declared.Limits.{Limits}
use Rattle.term_parser.specs.Parsing.{Tokens, Parsed, parsed, absent, refused}
use Rattle.parser.specs.Declarations.{Declared, parse_of}
use Rattle.term_parser.specs.Rows.{Rows, rows_of_all}
use Rattle.parser.specs.Rows.{declared_rows}
use Rattle.refusals.specs.declared.Refusal.{Refusal}
use Rattle.refusals.specs.declared.Refusal.TheVariants.{Storage}
use Rattle.refusals.specs.declared.Rejection.{Rejection}
use Rattle.parser.specs.declared.Parsed.{Parsed as Counts}

-- What is answered: how many declarations there are and how many rows they take, or a refusal and its line.
abbrev pub Answer : Type 0
Answer = Result Counts Rejection

abbrev pub counted : ℕ → ℕ → Answer
counted n used = Ok (record { declarations = n; rows = used })

abbrev pub rejected : {A : Type 0} → Refusal → ℕ → Result A Rejection
rejected r line = Err (record { refusal = r; line = line })

-- What is answered for the declarations read, and what m lent rows hold then: their rows and zero past them; without declarations zero throughout.
abbrev pub answer_of : Parsed (List Declared) → Answer
answer_of (parsed ds n) = counted (length ds) (length (rows_of_all declared_rows ds))
answer_of absent = counted 0 0
answer_of (refused r line) = rejected r line

abbrev pub rows_after : ℕ → Parsed (List Declared) → Rows
rows_after m (parsed ds n) = rows_of_all declared_rows ds ++ replicate (m - length (rows_of_all declared_rows ds)) zero_row
rows_after m absent = replicate m zero_row
rows_after m (refused r line) = replicate m zero_row

-- How many rows an answer says are in use.
abbrev pub used_of : Answer → ℕ
used_of (Ok p) = p.rows
used_of (Err e) = 0

-- The answers by the paper's numbers: how many declarations there are and how many rows they take, or the refusal.
abbrev pub answer_told : Answer → Told
answer_told (Ok p) = answers (p.declarations ∷ p.rows ∷ [])
answer_told (Err e) = refuses (number_of e.refusal) e.line

-- The same of what the definitions come to.
abbrev pub parsed_told : Parsed (List Declared) → Told
parsed_told (parsed ds n) = answers (length ds ∷ length (rows_of_all declared_rows ds) ∷ [])
parsed_told absent = answers (0 ∷ 0 ∷ [])
parsed_told (refused r line) = refuses (number_of r) line

-- `parse`: over 65,536 tokens, or fewer rows than tokens, give 1 and the rows are left as they are. No more rows are used than there are tokens.
abbrev pub too_short : Tokens → Rows → Bool
too_short ts out = ltb 65536 (length ts) || ltb (length out) (length ts)

pub record Parsing (text : List ℕ) (ts : Tokens) (before : Rows) (r : Answer) (after : Rows) : Type 0 where
  pub answer : r ≡ cond (too_short ts before) (rejected Storage 0) (answer_of (parse_of text ts))
  pub told : answer_told r ≡ cond (too_short ts before) (refuses 1 0) (parsed_told (parse_of text ts))
  pub rows : after ≡ cond (too_short ts before) before (rows_after (length before) (parse_of text ts))
  pub fits : used_of r ≤ length ts

-- A whole text: it is read to its end before it is parsed.
abbrev pub parsed_text : List ℕ → Reading → Parsed (List Declared)
parsed_text text (tokens ts) = parse_of text ts
parsed_text text (unread r line) = refused r line

-- What m lent token rows hold then: the tokens and zero past them where the text was parsed; on a refusal zero throughout.
abbrev pub tokens_after : ℕ → Tokens → Parsed (List Declared) → Tokens
tokens_after m ts (parsed ds n) = ts ++ replicate (m - length ts) zero_row
tokens_after m ts absent = ts ++ replicate (m - length ts) zero_row
tokens_after m ts (refused r line) = replicate m zero_row

abbrev pub tokens_of : Reading → Tokens
tokens_of (tokens ts) = ts
tokens_of (unread r line) = []

-- `parse_text`: fewer rows of either kind than the limit on the text's bytes give 1, and both are left as they are. No more rows are used than the limit.
abbrev pub short_for : Limits → Tokens → Rows → Bool
short_for limits ts out = ltb (length ts) (capped_of limits).text || ltb (length out) (capped_of limits).text

abbrev pub text_of : List ℕ → Limits → Parsed (List Declared)
text_of text limits = parsed_text text (lex_of (capped_of limits).text text)

pub record ParsingText (text : List ℕ) (limits : Limits) (tokensBefore rowsBefore : Rows) (r : Answer) (tokensAfterwards rowsAfterwards : Rows) : Type 0 where
  pub answer : r ≡ cond (short_for limits tokensBefore rowsBefore) (rejected Storage 0) (answer_of (text_of text limits))
  pub told : answer_told r ≡ cond (short_for limits tokensBefore rowsBefore) (refuses 1 0) (parsed_told (text_of text limits))
  pub tokens : tokensAfterwards ≡ cond (short_for limits tokensBefore rowsBefore) tokensBefore (tokens_after (length tokensBefore) (tokens_of (lex_of (capped_of limits).text text)) (text_of text limits))
  pub rows : rowsAfterwards ≡ cond (short_for limits tokensBefore rowsBefore) rowsBefore (rows_after (length rowsBefore) (text_of text limits))
  pub fits : used_of r ≤ (capped_of limits).text

-- `lex` on all inputs: limits, the order of the refusals, and what the lent rows hold afterwards.
use Rattle.std.specs.Prelude.{◌≡◌, cond, List, [], ◌∷◌, ◌++◌, ℕ, zero, suc, ◌-◌, ◌≤◌, min, ltb, length, replicate}
use Rattle.source_text.specs.Utf8.{is_utf8}
use Rattle.source_text.specs.Lines.{lines}
use Rattle.words.specs.Tokens.{Reading, read_lines, outside_line}
use Rattle.words.specs.Tokens.Reading.{tokens, refused}
use Rattle.source_text.specs.Answers.{Told, refuses}
use Rattle.words.specs.Answers.{lexed_told, reading_told}
use Rattle.words.specs.declared.Limits.{Limits}
use Rattle.std.specs.Prelude.{Result, Ok, Err}
use Rattle.refusals.specs.declared.Rejection.{Rejection}
use Rattle.refusals.specs.declared.Refusal.TheVariants.{Storage, TextLength, NotUtf8, OutsideDomain}

-- A limit over document 01's counts as document 01's.
abbrev pub capped_of : Limits → Limits
capped_of l =
    record {
      text = min l.text 65536;
      nodes = min l.nodes 32768;
      steps = min l.steps 65535;
      variables = min l.variables 65536;
      words = min l.words 262144;
    }

-- With no line outside the domain, the reading; else 3 at that line.
abbrev pub in_domain : ℕ → Reading → Reading
in_domain zero r = r
in_domain (suc n) r = refused OutsideDomain (suc n)

-- The reading of a text under a limit on its bytes, in the order of the table: 2, 3 for the whole text, 3 for a character, and then 4 to 6.
unfoldable pub lex_of : ℕ → List ℕ → Reading
lex_of limit text =
    cond (ltb limit (length text)) (refused TextLength 0)
    (cond (is_utf8 text) (in_domain (outside_line (lines text) 1) (read_lines (lines text) 0 1))
    (refused NotUtf8 0))

abbrev pub zero_row : List ℕ
zero_row = 0 ∷ 0 ∷ 0 ∷ 0 ∷ []

-- What `lex` answers for a reading, and what m lent rows hold then: the tokens and zero past them; on a refusal zero throughout.
abbrev pub answer_of : Reading → Result ℕ Rejection
answer_of (tokens ts) = Ok (length ts)
answer_of (refused r n) = Err (record { refusal = r; line = n })

abbrev pub rows_of : ℕ → Reading → List (List ℕ)
rows_of m (tokens ts) = ts ++ replicate (m - length ts) zero_row
rows_of m (refused r n) = replicate m zero_row

-- `lex` itself: fewer rows than the limit give 1 and are left as they are; else answer and rows are those of the reading.
abbrev pub lex_answer : List ℕ → Limits → List (List ℕ) → Result ℕ Rejection
lex_answer text limits rows = cond (ltb (length rows) (capped_of limits).text) (Err (record { refusal = Storage; line = 0 })) (answer_of (lex_of (capped_of limits).text text))

abbrev pub lex_rows : List ℕ → Limits → List (List ℕ) → List (List ℕ)
lex_rows text limits rows = cond (ltb (length rows) (capped_of limits).text) rows (rows_of (length rows) (lex_of (capped_of limits).text text))

-- The answer by the paper's numbers.
abbrev pub lex_told : List ℕ → Limits → List (List ℕ) → Told
lex_told text limits rows =
    cond (ltb (length rows) (capped_of limits).text) (refuses 1 0) (reading_told (lex_of (capped_of limits).text text))

-- How many rows an answer counts.
abbrev pub count_of : Result ℕ Rejection → ℕ
count_of (Ok n) = n
count_of (Err e) = 0

-- The promise of `lex`: answer, numbers and rows as above, and no more tokens than the limit on the text's bytes.
pub record Lexing (text : List ℕ) (limits : Limits) (before : List (List ℕ)) (r : Result ℕ Rejection) (after : List (List ℕ)) : Type 0 where
  pub answer : r ≡ lex_answer text limits before
  pub told : lexed_told r ≡ lex_told text limits before
  pub rows : after ≡ lex_rows text limits before
  pub fits : count_of r ≤ (capped_of limits).text

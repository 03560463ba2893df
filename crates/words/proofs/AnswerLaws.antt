-- Answers by the paper's numbers: they follow from the answers themselves.
use mathlib.Core.Path.{◌≡◌, refl, ap, ◌∙◌}
use mathlib.Core.Bool.{Bool, true, false, cond}
use mathlib.Core.List.{List}
use Prim.Native.Nat.{ℕ, ◌≤◌}
use lib.Dec.{ltb}
use lib.ListN.{length}
use Rattle.words.specs.Tokens.{Reading}
use Rattle.words.specs.Tokens.Reading.{tokens, refused}
use Rattle.source_text.specs.Answers.{refuses}
use Rattle.words.specs.Answers.{lexed_told, reading_told}
use Rattle.words.specs.Lexer.{capped_of, lex_of, answer_of, lex_answer, lex_rows, count_of, Lexing}
use Rattle.words.specs.declared.Limits.{Limits}
use Rattle.std.specs.Prelude.{Result, Err}
use Rattle.refusals.specs.declared.Rejection.{Rejection}
use Rattle.refusals.specs.declared.Refusal.TheVariants.{Storage}

-- Short rows, or a reading.
answer_told_lem : (short : Bool) (q : Reading) → lexed_told (cond short (Err (record { refusal = Storage; line = 0 })) (answer_of q)) ≡ cond short (refuses 1 0) (reading_told q)
answer_told_lem true q = refl
answer_told_lem false (tokens ts) = refl
answer_told_lem false (refused r line) = refl

-- The promise of `lex`, from its answer and its rows.
pub lexing : (text : List ℕ) (limits : Limits) (before : List (List ℕ)) (r : Result ℕ Rejection) {after : List (List ℕ)} → r ≡ lex_answer text limits before
    → after ≡ lex_rows text limits before → count_of r ≤ (capped_of limits).text → Lexing text limits before r after
lexing text limits before r answer rows fits =
    record {
      answer = answer;
      told = ap lexed_told answer ∙ answer_told_lem (ltb (length before) (capped_of limits).text) (lex_of (capped_of limits).text text);
      rows = rows;
      fits = fits;
    }

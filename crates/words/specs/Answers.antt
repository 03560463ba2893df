-- Document 01, The forms we expect: of each answer that is an enum, the paper's number and values for each case. The contracts cite these definitions.
use Rattle.std.specs.Prelude.{ℕ, [], ◌∷◌, length}
use Rattle.source_text.specs.Answers.{Told, answers, refuses}
use Rattle.words.specs.Tokens.{Reading}
use Rattle.words.specs.Tokens.Reading.{tokens, refused}
use Rattle.refusals.specs.Refusals.{number_of}
use Rattle.std.specs.Prelude.{Result, Ok, Err}
use Rattle.refusals.specs.declared.Rejection.{Rejection}

-- What `lex` answers: how many tokens there are, or the refusal.
abbrev pub lexed_told : Result ℕ Rejection → Told
lexed_told (Ok n) = answers (n ∷ [])
lexed_told (Err e) = refuses (number_of e.refusal) e.line

-- The same of what the definitions come to.
abbrev pub reading_told : Reading → Told
reading_told (tokens ts) = answers (length ts ∷ [])
reading_told (refused r line) = refuses (number_of r) line

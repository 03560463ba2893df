-- What the inner readers ask of and owe to each other: they write token rows from a place on and answer as `lex` does.
use Rattle.std.specs.Prelude.{◌≡◌, List, ℕ, ◌+◌, ◌≤◌, length, take}
use Rattle.words.specs.Lexer.{count_of}
use Rattle.words.specs.Tokens.{Reading, and_then}
use Rattle.words.specs.Tokens.Reading.{tokens, refused}
use Rattle.std.specs.Prelude.{Result, Ok, Err}
use Rattle.refusals.specs.declared.Rejection.{Rejection}

-- What an answer and the rows then at hand come to.
abbrev pub outcome : Result ℕ Rejection → List (List ℕ) → Reading
outcome (Ok n) rows = tokens (take n rows)
outcome (Err e) rows = refused e.refusal e.line

-- What a reader owes that was handed `count` rows: they and its reading are what it comes to, it counts at most `most` rows,
-- and the rows stay as many.
pub record Read (reading : Reading) (most count : ℕ) (before : List (List ℕ)) (r : Result ℕ Rejection) (after : List (List ℕ)) : Type 0 where
  pub reads : outcome r after ≡ and_then (tokens (take count before)) reading
  pub fits : count_of r ≤ most
  pub long : length after ≡ length before

-- What the reader of a line asks: room for one row for each byte of it.
pub record Room (code : List ℕ) (start : ℕ) (rows : List (List ℕ)) : Type 0 where
  pub lent : length code ≤ length rows
  pub small : start + length code ≤ 65536

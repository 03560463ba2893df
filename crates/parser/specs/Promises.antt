-- What the readers of declarations owe.
use Rattle.std.specs.Prelude.{ℕ, ◌+◌, List, drop}
use Rattle.term_parser.specs.declared.Input.{Input}
use Rattle.term_parser.specs.declared.Position.{Position}
use Rattle.term_parser.specs.Parsing.{Tokens, Parsed, last_line, plus}
use Rattle.term_parser.specs.Rows.{Rows}
use Rattle.term_parser.specs.Steps.{Step}
use Rattle.term_parser.specs.Promises.{Answers}

-- Each reads from its keyword's place on, and its grammar is that of the tokens behind the keyword.
abbrev pub Declares : {A : Type 0} → (A → Rows) → (List ℕ → ℕ → Tokens → Parsed A) → Input → Position → Rows → Step → Rows → Type 0
Declares rows grammar input from before r after =
    Answers 1 rows (plus 1 (grammar input.text.now (last_line input.tokens.now) (drop (from.at + 1) input.tokens.now))) input.tokens.now from.at from.used before r after

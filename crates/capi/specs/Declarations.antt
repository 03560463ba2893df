-- What `horn_parse` answers.
use Rattle.std.specs.Prelude.{ℕ, ◌≡◌, Ok, Err, List}
use Rattle.term_parser.specs.Rows.{Rows}
use Rattle.parser.specs.Parser.{Answer, ParsingText}
use Rattle.capi.specs.Words.{packed_rejection, text_limit}

-- The number of declarations, or the refusal.
abbrev pub packed_answer : Answer → ℕ
packed_answer (Ok p) = p.declarations
packed_answer (Err r) = packed_rejection r

-- The answer of `parse_text` as one number, and its rows.
pub record ParsedAs (text : List ℕ) (limit : ℕ) (tokensBefore rowsBefore : Rows) (answer : ℕ) (tokensAfterwards rowsAfterwards : Rows) : Type 0 where
  pub given : Answer
  pub is : answer ≡ packed_answer given
  pub parsing : ParsingText text (text_limit limit) tokensBefore rowsBefore given tokensAfterwards rowsAfterwards

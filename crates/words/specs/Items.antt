-- What stands at a place of a line, and what the readers of items answer for it.
use Rattle.std.specs.Prelude.{Option, Some, None, Result, Ok, Err, ℕ}
use Rattle.refusals.specs.declared.Refusal.{Refusal}
use Rattle.words.specs.declared.tokens.Lexeme.{Lexeme}

-- A blank, a token of a kind and a length, or a refusal.
pub data Item : Type 0 where
  Blank : Item
  Token : ℕ → ℕ → Item
  Refused : Refusal → Item

-- The item of an answer that is never a blank.
abbrev pub lexeme_item : Result Lexeme Refusal → Item
lexeme_item (Ok t) = Token t.kind t.length
lexeme_item (Err r) = Refused r

-- The item of an answer.
abbrev pub item : Result (Option Lexeme) Refusal → Item
item (Ok None) = Blank
item (Ok (Some t)) = Token t.kind t.length
item (Err r) = Refused r

-- Lines taken from a text one by one.
use Rattle.std.specs.Prelude.{◌≡◌, List, ℕ, ◌+◌, ◌≤◌, ◌<◌, length, drop, Option, MatchOption}
use Rattle.source_text.specs.Lines.{line_of, code_of}
use Rattle.source_text.specs.declared.lines.Code.{Code}
use Rattle.source_text.specs.declared.lines.Lines.{Lines}

-- The line with this number, which starts at a place of the text, is taken: its code, and the lines after it.
pub record LineTaken (text : List ℕ) (at line : ℕ) (code : Code) (after : Lines) : Type 0 where
  pub inside : at < length text
  pub bytes : code.bytes.now ≡ code_of (line_of (drop at text))
  pub start : code.start ≡ at
  pub number : code.line ≡ line
  pub next : after.at ≡ at + length (line_of (drop at text)) + 1
  pub counted : after.line ≡ line + 1

-- What a call of `next` gives: the next line is taken, or there is none; the text stays.
abbrev pub GivesLine : Lines → Option Code → Lines → Type 0
GivesLine old r new = (new.text.now ≡ old.text.now) × MatchOption r (length old.text.now ≤ old.at) (λ code. LineTaken old.text.now old.at old.line code new)

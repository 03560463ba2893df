-- Steps: what the readers of tokens answer, those that may find no item and those that always find one or refuse.
use Rattle.std.specs.Prelude.{Option, Some, None, Result, Ok, Err, ℕ, drop}
use Rattle.refusals.specs.declared.Refusal.{Refusal}
use Rattle.refusals.specs.declared.Rejection.{Rejection}
use Rattle.term_parser.specs.Parsing.{Tokens, line_of, last_line}
use Rattle.term_parser.specs.declared.Read.{Read}

-- The next place, how many rows there are, and how many items were read; that there is no such item; or the refusal and its line.
pub data Step : Type 0 where
  At : ℕ → ℕ → ℕ → Step
  Absent : Step
  Refused : Refusal → ℕ → Step

-- The step of an answer that is never absent.
abbrev pub step : Result Read Rejection → Step
step (Ok r) = At r.position.at r.position.used r.count
step (Err e) = Refused e.refusal e.line

-- The step of an answer.
abbrev pub maybe_step : Result (Option Read) Rejection → Step
maybe_step (Ok None) = Absent
maybe_step (Ok (Some r)) = At r.position.at r.position.used r.count
maybe_step (Err e) = Refused e.refusal e.line

-- The refusal of the token at a place.
abbrev pub rejection_at : Refusal → Tokens → ℕ → Rejection
rejection_at r ts p = record { refusal = r; line = line_of (last_line ts) (drop p ts) }

-- Which `#eval` is evaluated (document 01, "Evaluated terms"; `is_forward_call` of `evaluation`).
use Rattle.std.specs.Prelude.{ℕ, ◌≡◌, Bool, List, length}
use Rattle.term_parser.specs.Source.{one}
use Rattle.term_parser.specs.Standing.{Written, Stands}
use Rattle.names.specs.Symbols.{Rows, symbols_of}
use Rattle.evaluation.specs.Expressions.{is_forward_call}

-- The rows from a place on stand for a term.
pub record ForwardAsked (text : List ℕ) (rows : Rows) (at : ℕ) (symbols : Rows) : Type 0 where
  pub term : Written one
  pub next : ℕ
  pub stands : Stands text rows at term next

pub record ForwardAnswered (text : List ℕ) (rows : Rows) (at : ℕ) (symbols : Rows) (r : Bool) : Type 0 where
  pub says : (t : Written one) (q : ℕ) → Stands text rows at t q → r ≡ is_forward_call (symbols_of text symbols (length symbols)) t

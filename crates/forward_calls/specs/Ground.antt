-- Groundness of stored source terms (document 01, "Evaluated terms"; `is_ground` of `evaluation`).
use Rattle.std.specs.Prelude.{ℕ, ◌≡◌, Bool, List}
use Rattle.term_parser.specs.Source.{one}
use Rattle.term_parser.specs.Rows.{Rows}
use Rattle.term_parser.specs.Standing.{Written, Stands}
use Rattle.evaluation.specs.Expressions.{is_ground}

-- The rows from a place on stand for a term.
pub record GroundAsked (text : List ℕ) (rows : Rows) (at : ℕ) : Type 0 where
  pub term : Written one
  pub next : ℕ
  pub stands : Stands text rows at term next

pub record GroundAnswered (text : List ℕ) (rows : Rows) (at : ℕ) (r : Bool) : Type 0 where
  pub says : (t : Written one) (q : ℕ) → Stands text rows at t q → r ≡ is_ground t

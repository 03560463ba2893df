-- When scratch is clean.
use Rattle.arena.specs.Rows.{Rows}
use Rattle.checks.specs.Ready.{Zeros}

-- All scratch is 0.
pub record Clean (links marks stack : Rows) : Type 0 where
  pub linked : Zeros links 0
  pub marked : Zeros marks 0
  pub stacked : Zeros stack 0

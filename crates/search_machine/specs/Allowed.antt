-- What a search may use: variables of the session and words, frames, and rules.
use Rattle.std.specs.Prelude.{ℕ}
use Rattle.attempts.specs.declared.SearchLimits.{SearchLimits}

pub record Allowed : Type 0 where
  pub limits : SearchLimits
  pub frames : ℕ
  pub rules : ℕ

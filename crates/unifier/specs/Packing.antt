-- The answer of `unify` as one number, for programs in other languages.
use Rattle.std.specs.Prelude.{ℕ, ◌+◌, ◌^◌, ◌≡◌, Bool, true, false, List}
use Rattle.arena.specs.Copies.{term_room}
use Rattle.arena.specs.Rows.{Rows}
use Rattle.unifier.specs.Promises.{Unified}

-- How many variables are bound, and 2^31 more where the terms unify; fewer than 2^31 are bound (`answer_low`, `answer_tells` of capi).
abbrev pub packed_unify : Bool → ℕ → ℕ
packed_unify true bound = 2 ^ 31 + bound
packed_unify false bound = bound

-- `unify` ended as its contract says, with this number for its answer.
pub record UnifiedAs (w : List ℕ) (b b' l l' m m' s s' : Rows) (variables used k r t answer : ℕ) : Type 0 where
  pub unified : Bool
  pub bound : ℕ
  pub packed : answer ≡ packed_unify unified bound
  pub ended : Unified term_room w b b' l l' m m' s s' variables used k bound r t unified

-- What the program's tests of a search's storage find.
use Rattle.std.specs.Prelude.{ℕ, ◌+◌, ◌≤◌, ◌≡◌, Bool, true, List, length}
use Rattle.arena.specs.Cells.{cells, headers, Reference}
use Rattle.arena.specs.Copies.{term_room}
use Rattle.arena.specs.Rows.{Rows}
use Rattle.unifier.specs.Promises.{Scratch}
use Rattle.attempts.specs.Promises as contracts
use Rattle.attempts.specs.declared.SearchState.{SearchState}

-- There is room for what the limits allow, and the scratch is zero.
pub record Room (most limit : ℕ) (words : List ℕ) (rows links marks stack : Rows) : Type 0 where
  pub scratch : Scratch term_room limit links marks stack
  pub lent_words : limit ≤ length words
  pub lent_rows : most ≤ length rows
  pub enough : most ≤ term_room
  pub low : term_room + limit ≤ headers

-- The storage is what an attempt asks, if the answer is yes, and the marks are as they were.
pub record StateTold (s : SearchState) (words : List ℕ) (rows links marks marks' stack : Rows) (answer : Bool) : Type 0 where
  pub state : answer ≡ true → contracts.State s.limits.variables s.limits.words words rows links marks stack s.in_use.variables s.in_use.used s.in_use.bound
  pub refers : answer ≡ true → Reference term_room (cells words) s.in_use.variables s.in_use.used s.goal
  pub kept : marks' ≡ marks

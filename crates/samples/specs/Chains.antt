-- Variables that are bound one to the next.
use Rattle.std.specs.Prelude.{ℕ, ◌+◌, ◌≤◌, ◌<◌, ◌≡◌, List, [], ◌∷◌, get_or, length}
use Rattle.arena.specs.Rows.{Rows}

-- The rows that are bound to the next, at most.
abbrev pub longest : ℕ
longest = 1000000

-- Each variable before the last row's is bound to the next and listed at its own position, and the last row is the one given.
pub record Chained (rows rows' : Rows) (last : List ℕ) : Type 0 where
  pub linked : (v : ℕ) → v + 1 < length rows → v < longest → get_or rows' v [] ≡ (v + 2) ∷ v ∷ []
  pub ended : (v : ℕ) → v + 1 ≡ length rows → get_or rows' v [] ≡ last
  -- the rows behind these are as before
  pub kept : (v : ℕ) → v + 1 < length rows → longest ≤ v → get_or rows' v [] ≡ get_or rows v []

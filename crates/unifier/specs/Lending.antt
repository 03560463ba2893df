-- What stays of a workspace whatever is written in it: the buffers that are lent with it.
use Rattle.std.specs.Prelude.{ℕ, ◌≡◌, Bool, List}
use Rattle.arena.specs.Rows.{Rows}
use Rattle.unifier.specs.Promises.{Unified}
use Rattle.unifier.specs.declared.Workspace.{Workspace}

-- The same buffers are lent.
pub record SameBuffers (w w' : Workspace) : Type 0 where
  pub links : w'.links.ghost_name ≡ w.links.ghost_name
  pub marks : w'.marks.ghost_name ≡ w.marks.ghost_name
  pub stack : w'.stack.ghost_name ≡ w.stack.ghost_name

-- Laws

-- What was unified with a workspace was unified with the buffers that it was made of.
pub unified_lent : {N : ℕ} {w : List ℕ} {b b' l l' l'' m m' m'' s s' s'' : Rows} {variables used k k' r t : ℕ} {answer : Bool} → l'' ≡ l' → m'' ≡ m' → s'' ≡ s'
    → Unified N w b b' l l' m m' s s' variables used k k' r t answer → Unified N w b b' l l'' m m'' s s'' variables used k k' r t answer
unified_lent p q o h = rw (p, q, o) h

-- What `prove_listed` leaves, and what its parts hand on.
use Rattle.std.specs.Prelude.{ℕ, ◌≡◌, Bool, List, length, replicate}
use Rattle.words.specs.declared.Limits.{Limits}
use Rattle.bindings.specs.Promises.{Tells}
use Rattle.names.specs.Symbols.{Rows}
use Rattle.deepening.specs.Clearing.{ClearFrom}
use Rattle.signature.specs.Storage.{SignatureStore}
use Rattle.tree_rows.specs.Trees.{zero_tree}
use Rattle.sessions.specs.Storage.{SessionStore, Workspace, zero_name}
use Rattle.sessions.specs.Goals.{goal_in}
use Rattle.sessions.specs.Promises.{Asked, Given, ProveReady, answer_to, ProveLeaves}
use Rattle.sessions.specs.declared.SessionCounts.{SessionCounts}

-- A call that is ready, with zero past the counts.
pub record ClearedReady (sg : SignatureStore) (k : Asked) (b : SessionStore) (n : SessionCounts) : Type 0 where
  pub ready : ProveReady sg k b n
  pub names : ClearFrom zero_name b.names n.names
  pub words : ClearFrom 0 b.words n.words
  pub proof : k.proof ≡ replicate (length k.proof) zero_tree

-- The definitions' answer, for each reading of the goal's rows, and every lent buffer.
abbrev pub ProveLeft : SignatureStore → Asked → SessionStore → SessionCounts → Given → Type 0
ProveLeft sg k b n g = (r : ProveReady sg k b n) → ProveLeaves sg k b n (answer_to sg k b n (goal_in r.goal)) g

-- A call with any steps and depth: these are not tested by 1.
abbrev pub call_of : List ℕ → Limits → Rows → ℕ → ℕ → ℕ → Rows → Workspace → Asked
call_of text limits rows at steps depth proof space =
    record {
      text = text;
      limits = limits;
      rows = rows;
      at = at;
      steps = steps;
      depth = depth;
      proof = proof;
      space = space;
    }

-- `is_ready` told whether the call is ready, and left the marks as they were.
pub record ReadyTold (sg : SignatureStore) (text : List ℕ) (limits : Limits) (rows : Rows) (at : ℕ) (proof : Rows) (space : Workspace)
    (b : SessionStore) (n : SessionCounts) (marks' : Rows) (r : Bool) : Type 0 where
  pub tells : (steps depth : ℕ) → Tells r (ProveReady sg (call_of text limits rows at steps depth proof space) b n)
  pub kept : marks' ≡ space.marks

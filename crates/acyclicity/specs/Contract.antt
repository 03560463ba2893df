-- What the check of stored bindings is given and what it answers. Bindings are rows: column 0 has by variable 0, or 1 + the reference to the term that
-- the variable is bound to. A list of bindings in any order, in which each variable is bound once, is the storage's if it gives each variable that
-- term; whether it is acyclic does not depend on the order.
use Rattle.std.specs.Prelude.{ℕ, zero, suc, ◌+◌, ◌≤◌, ◌<◌, ◌≡◌, Bool, true, false, List, length}
use Rattle.std.proofs.Math.Option.{Option, none, some}
use Rattle.terms.specs.Term.{Term}
use Rattle.terms.specs.Bindings.{Bindings, lookup, Acyclic}
use Rattle.terms.specs.Order.{Distinct}
use Rattle.arena.specs.Cells.{headers, Cells, cells, denote, Reference, WellFormed}
use Rattle.arena.specs.Rows.{Rows, column}

-- The term that a stored word binds a variable to.
abbrev pub binding_of : ℕ → Cells → ℕ → Option Term
binding_of N w zero = none
binding_of N w (suc r) = some (denote N w r)

-- The list is one of the stored bindings: of the variables below `variables`, where there is room for N.
pub record Held (N : ℕ) (w bound : Cells) (variables : ℕ) (β : Bindings) : Type 0 where
  -- Each variable is bound once,
  pub distinct : Distinct β
  -- a variable in use to the term that its stored reference denotes, if it has one,
  pub below : (v : ℕ) → v < variables → lookup β v ≡ binding_of N w (bound v)
  -- and no other variable is bound.
  pub above : (v : ℕ) → variables ≤ v → lookup β v ≡ none

-- Words and bindings are in form, but for cycles.
pub record Stored (words : List ℕ) (bindings : Rows) (N variables used : ℕ) : Type 0 where
  -- References are below headers.
  pub low : N + used ≤ headers
  -- The variables in use have room, and a row each; the words in use are within the slice.
  pub few : variables ≤ N
  pub rows : variables ≤ length bindings
  pub within : used ≤ length words
  -- Among them each header has its node's arguments behind it: variables in use and earlier nodes.
  pub formed : WellFormed N (cells words) variables used
  -- A variable in use is unbound, or bound to a variable in use or to a node.
  pub bound : (v r : ℕ) → v < variables → column 0 bindings v ≡ suc r → Reference N (cells words) variables used r

-- What the check requires.
pub record Ready (words : List ℕ) (bindings : Rows) (N variables used : ℕ) (scratch : Rows) : Type 0 where
  -- Words and bindings are in form.
  pub stored : Stored words bindings N variables used
  -- There is a row of scratch for each reference, and every number in scratch is 0.
  pub long : N + used ≤ length scratch
  pub zeros : (c a : ℕ) → column c scratch a ≡ 0

-- What the check ensures.
pub record Decided (words : List ℕ) (bindings : Rows) (N variables : ℕ) (scratch : Rows) (answer : Bool) (scratch' : Rows) : Type 0 where
  -- Accepted: the stored bindings are acyclic, in whatever order they are listed.
  pub accepted : answer ≡ true → (β : Bindings) → Held N (cells words) (column 0 bindings) variables β → Acyclic β
  -- Refused: they are acyclic in no order.
  pub refused : answer ≡ false → (β : Bindings) → Held N (cells words) (column 0 bindings) variables β → Acyclic β → ⊥
  -- Scratch is as it was.
  pub restored : scratch' ≡ scratch

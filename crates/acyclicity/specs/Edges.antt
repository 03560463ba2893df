-- The graph of stored bindings. Its vertices are references; a bound variable has one edge, to the reference that it is bound to, and a node an edge to
-- each argument. And the contracts of the functions that the check is made of.
use Rattle.std.specs.Prelude.{ℕ, suc, ◌+◌, ◌-◌, ◌≤◌, ◌<◌, ◌≡◌, ◌⊎◌, Bool, true, false, cond, Option, Some, None, List, [], ◌∷◌, get_or, length}
use Rattle.terms.specs.Numbers.{same, less}
use Rattle.terms.specs.Bindings.{Bindings, Acyclic}
use Rattle.arena.specs.Cells.{Cells, cells, arity_of, Reference}
use Rattle.arena.specs.Rows.{Rows, column}
use Rattle.acyclicity.specs.Contract.{Held, Stored}

-- A place as the number that stands for it in a row: 0 for none, else 1 + the reference.
abbrev pub number : Option ℕ → ℕ
number None = 0
number (Some r) = suc r

-- Where edge number i from the reference r leads: 0 if there is none, else 1 + a reference.
unfoldable pub edge : ℕ → Cells → Cells → ℕ → ℕ → ℕ
edge N w bound r i = cond (less r N)
    (cond (same i 0) (bound r) 0)
    (cond (less i (arity_of (w (r - N)))) (suc (w (r - N + suc i))) 0)

-- What following an edge requires.
pub record Followable (words : List ℕ) (bindings : Rows) (N variables used r : ℕ) : Type 0 where
  pub stored : Stored words bindings N variables used
  pub reference : Reference N (cells words) variables used r

-- What the search requires: words and bindings are in form, there is a row of scratch for each reference, and no reference is marked.
pub record Searchable (words : List ℕ) (bindings : Rows) (N variables used : ℕ) (scratch : Rows) : Type 0 where
  pub stored : Stored words bindings N variables used
  pub long : N + used ≤ length scratch
  pub unmarked : (a : ℕ) → column 0 scratch a ≡ 0

-- A number that is no reference.
abbrev pub Outside : ℕ → ℕ → ℕ → ℕ → Type 0
Outside N variables used a = (variables ≤ a) × ((a < N) ⊎ (N + used ≤ a))

-- What the search ensures: the check's answer; scratch changes in the rows for references alone.
pub record Searched (words : List ℕ) (bindings : Rows) (N variables used : ℕ) (scratch : Rows) (answer : Bool) (scratch' : Rows) : Type 0 where
  pub accepted : answer ≡ true → (β : Bindings) → Held N (cells words) (column 0 bindings) variables β → Acyclic β
  pub refused : answer ≡ false → (β : Bindings) → Held N (cells words) (column 0 bindings) variables β → Acyclic β → ⊥
  pub long : length scratch' ≡ length scratch
  pub outside : (a : ℕ) → Outside N variables used a → get_or scratch' a [] ≡ get_or scratch a []

-- The rows from `from` on before `to` are zero, and the others as they were.
pub record Cleared (rows : Rows) (from to : ℕ) (rows' : Rows) : Type 0 where
  pub long : length rows' ≡ length rows
  pub inside : (a : ℕ) → from ≤ a → a < to → get_or rows' a [] ≡ 0 ∷ 0 ∷ []
  pub outside : (a : ℕ) → (a < from) ⊎ (to ≤ a) → get_or rows' a [] ≡ get_or rows a []

-- The rows before `end` have two numbers each.
abbrev pub Pairs : Rows → ℕ → Type 0
Pairs rows end = (a : ℕ) → a < end → length (get_or rows a []) ≡ 2

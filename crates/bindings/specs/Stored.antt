-- What storage holds: words are terms (arena's Cells, with room for N variables), and the first k entries of a table are bindings, newest first. A
-- variable's value is 0 where it is unbound and 1 + a reference where it is bound to what that reference denotes; the list of the table is the trail.
use Rattle.std.specs.Prelude.{ℕ, zero, suc, ◌+◌, ◌-◌, ◌≤◌, ◌<◌, ◌≡◌, List, length}
use Rattle.terms.specs.Bindings.{Bindings, start, bind, lookup, Acyclic, BelowB}
use Rattle.arena.specs.Cells.{headers, Cells, cells, arity_of, denote, Reference, WellFormed}
use Rattle.arena.specs.Rows.{Rows, column}
use Rattle.acyclicity.specs.Contract.{binding_of}

-- The bindings at the first k positions of the trail, newest first.
abbrev pub bindings : ℕ → Cells → Cells → Cells → ℕ → Bindings
bindings N w values trail zero = start
bindings N w values trail (suc k) = bind (trail k) (denote N w (values (trail k) - 1)) (bindings N w values trail k)

-- The bindings that words and rows hold.
abbrev pub held : ℕ → List ℕ → Rows → ℕ → Bindings
held N w b k = bindings N (cells w) (column 0 b) (column 1 b) k

-- Words and bindings in form: what every function here asks and leaves.
pub record Form (N : ℕ) (w : List ℕ) (b : Rows) (variables used k : ℕ) : Type 0 where
  -- the nodes among the used words lie within them, and their arguments are in form and below them
  pub words : WellFormed N (cells w) variables used
  -- there is room for the variables
  pub few : variables ≤ N
  -- references are below headers
  pub low : N + used ≤ headers
  -- the slices are long enough
  pub lent_words : used ≤ length w
  pub lent_rows : variables ≤ length b
  -- a bound variable is bound to a reference in form
  pub references : (v r : ℕ) → v < variables → column 0 b v ≡ suc r → Reference N (cells w) variables used r
  -- the trail lists exactly the bound variables
  pub lookups : (v : ℕ) → v < variables → lookup (held N w b k) v ≡ binding_of N (cells w) (column 0 b v)
  -- no binding leads back to its own variable, and none is bound twice
  pub acyclic : Acyclic (held N w b k)
  -- the bindings are of variables in use
  pub below : BelowB variables (held N w b k)
  -- past the variables in use nothing is bound, and past the k-th position the trail is 0
  pub unbound : (v : ℕ) → variables ≤ v → column 0 b v ≡ 0
  pub rest : (i : ℕ) → k ≤ i → column 1 b i ≡ 0

-- Where the values lead from a reference: through bound variables to an unbound one or to a node.
pub data WalksTo (N : ℕ) (values : Cells) : ℕ → ℕ → Type 0 where
  free : {r : ℕ} → r < N → values r ≡ 0 → WalksTo N values r r
  bound : {r x q : ℕ} → r < N → values r ≡ suc x → WalksTo N values x q → WalksTo N values r q
  node : {r : ℕ} → N ≤ r → WalksTo N values r r

-- One step down from a reference: from a bound variable to its value, or from a node to an argument.
pub data Edge (N : ℕ) (w values : Cells) : ℕ → ℕ → Type 0 where
  into : {r x : ℕ} → r < N → values r ≡ suc x → Edge N w values r x
  argument : {r : ℕ} (i : ℕ) → N ≤ r → i < arity_of (w (r - N)) → Edge N w values r (w (suc (r - N) + i))

-- Any number of steps down.
pub data Reaches (N : ℕ) (w values : Cells) : ℕ → ℕ → Type 0 where
  here : {r : ℕ} → Reaches N w values r r
  step : {r s t : ℕ} → Edge N w values r s → Reaches N w values s t → Reaches N w values r t

-- Contracts of the functions inside `equal`, which compares stored terms without recursion. Two references have to denote the same term: the greater, a node, is linked to the lesser, and from the
-- greatest address down each linked node passes the demand on to its arguments, which lie below it. A link is 0, or one more than a reference.
use Rattle.std.specs.Prelude.{ℕ, suc, ◌+◌, ◌≤◌, ◌<◌, ◌≡◌, Bool, true, false, ◌⊎◌, List, length}
use Rattle.terms.specs.Term.{Term}
use Rattle.arena.specs.Cells.{Cells, headers, cells, denote, Reference, WellFormed}

-- Each link leads from a node to a node below it.
pub record Descending (room : ℕ) (links : Cells) : Type 0 where
  pub node : (i z : ℕ) → links i ≡ suc z → room ≤ z
  pub below : (i z : ℕ) → links i ≡ suc z → z < room + i

-- Linked nodes have the same term by g.
abbrev pub Agrees : ℕ → (ℕ → Term) → Cells → Type 0
Agrees room g links = (i z : ℕ) → links i ≡ suc z → g (room + i) ≡ g z

-- Linked nodes pass the test.
abbrev pub Each : ℕ → (ℕ → Bool) → Cells → Type 0
Each room test links = (i z : ℕ) → links i ≡ suc z → (test (room + i) ≡ true) × (test z ≡ true)

-- By g a variable has another term than any reference above it.
abbrev pub Apart : ℕ → (ℕ → Term) → Type 0
Apart room g = (p q : ℕ) → q < room → q < p → g p ≡ g q → ⊥

-- The links L became L' when the first n pairs (x i, y i) were linked. Whatever terms the references have: with the answer true, L' says of them what L
-- and the pairs say; with the answer false, L and the pairs cannot hold together. Below the address `low` there were no links, and below low' there are
-- none.
pub record Joined (room : ℕ) (L L' : List ℕ) (n : ℕ) (x y : ℕ → ℕ) (low low' : ℕ) (answer : Bool) : Type 0 where
  pub long : length L' ≡ length L
  -- each link still leads to a node below
  pub form : Descending room (cells L')
  -- links of nodes above the pairs stay
  pub above : (t : ℕ) → ((i : ℕ) → i < n → (x i < t) × (y i < t)) → (i : ℕ) → t ≤ room + i → cells L' i ≡ cells L i
  -- no links below `low`, and then none below low'
  pub floor : ((i : ℕ) → i < low → cells L i ≡ 0) → (i : ℕ) → i < low' → cells L' i ≡ 0
  -- what is linked was linked or is of the pairs
  pub good : (test : ℕ → Bool) → Each room test (cells L) → ((i : ℕ) → i < n → (test (x i) ≡ true) × (test (y i) ≡ true)) → Each room test (cells L')
  -- with the answer true: what agrees with L' agrees with L and makes each pair the same, and the other way round
  pub back : answer ≡ true → (g : ℕ → Term) → Agrees room g (cells L') → Agrees room g (cells L) × ((i : ℕ) → i < n → g (x i) ≡ g (y i))
  pub forth : answer ≡ true → (g : ℕ → Term) → Agrees room g (cells L) → ((i : ℕ) → i < n → g (x i) ≡ g (y i)) → Agrees room g (cells L')
  -- with the answer false: nothing that tells variables apart agrees with L and makes each pair the same
  pub no : answer ≡ false → (g : ℕ → Term) → Apart room g → Agrees room g (cells L) → ((i : ℕ) → i < n → g (x i) ≡ g (y i)) → ⊥

-- What linking two references asks: the links descend, and have room for both.
pub record Linkable (room : ℕ) (L : List ℕ) (a b : ℕ) : Type 0 where
  pub form : Descending room (cells L)
  pub left : a < room + length L
  pub right : b < room + length L

-- What linking the arguments of two nodes, each with its like, asks.
pub record Arguments (room : ℕ) (left right L : List ℕ) : Type 0 where
  pub form : Descending room (cells L)
  -- they are as many
  pub like : length left ≡ length right
  -- and there is a link for each argument that is a node
  pub lefts : (i : ℕ) → i < length left → cells left i < room + length L
  pub rights : (i : ℕ) → i < length left → cells right i < room + length L

-- Words that are compared: well formed, all references below the headers, and a link for each.
pub record Comparable (room : ℕ) (w L : List ℕ) (nv used : ℕ) : Type 0 where
  pub formed : WellFormed room (cells w) nv used
  pub small : room + used ≤ headers
  pub words_in_lem : used ≤ length w
  pub scratch : used ≤ length L
  -- each link leads to a node below
  pub form : Descending room (cells L)
  -- linked nodes are references in form
  pub references : (i z : ℕ) → cells L i ≡ suc z → Reference room (cells w) nv used (room + i) × Reference room (cells w) nv used z

-- The link of the node at the address `at` was taken up: it is gone, and the demand is passed on. `same` is the answer so far.
pub record Settled (room : ℕ) (w L L' : List ℕ) (nv used at : ℕ) (same : Bool) (low low' : ℕ) (answer : Bool) : Type 0 where
  pub long : length L' ≡ length L
  -- no links below `low`, and then none below low'
  pub floor : ((i : ℕ) → i < low → cells L i ≡ 0) → (i : ℕ) → i < low' → cells L' i ≡ 0
  -- the words can still be compared
  pub kept : Comparable room w L' nv used
  -- no links from `at` on, if there were none behind it
  pub cleared : ((i : ℕ) → at < i → cells L i ≡ 0) → (i : ℕ) → at ≤ i → cells L' i ≡ 0
  -- with the answer true: L' says of the terms what L says
  pub back : answer ≡ true → (same ≡ true) × (Agrees room (denote room (cells w)) (cells L') → Agrees room (denote room (cells w)) (cells L))
  pub forth : answer ≡ true → Agrees room (denote room (cells w)) (cells L) → Agrees room (denote room (cells w)) (cells L')
  -- with the answer false: it was false before, or the links cannot hold
  pub no : answer ≡ false → (same ≡ false) ⊎ (Agrees room (denote room (cells w)) (cells L) → ⊥)

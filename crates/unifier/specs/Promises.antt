-- What the functions answer, each contract a record with named parts.
use Rattle.std.specs.Prelude.{ℕ, zero, suc, ◌+◌, ◌-◌, ◌≤◌, ◌<◌, ◌≡◌, Bool, true, false, ◌⊎◌, ◌≢◌, List, [], ◌∷◌, length, set}
use Rattle.terms.specs.Bindings.{Bindings, occurs}
use Rattle.terms.specs.Unification.{Outcome, fails, unified, unify}
use Rattle.arena.specs.Cells.{Cells, cells, arity_of, denote}
use Rattle.arena.specs.Rows.{Rows, column}
use Rattle.bindings.specs.Tables.{Empty, undone}
use Rattle.bindings.specs.Stored.{held, Form, WalksTo}
use Rattle.bindings.specs.Promises.{Entered, Free}
use Rattle.unifier.specs.declared.Decision.{Decision}
use Rattle.unifier.specs.declared.Decision.TheVariants.{Same, Bind, Open, Clash}
-- Passed on to callers that test storage.
pub use Rattle.bindings.specs.Promises.{Tells}

-- Where links lead from a reference: links are 0 or 1 + a reference, and a reference with no link is a root.
pub data LeadsTo (links : Cells) : ℕ → ℕ → Type 0 where
  stay : {r : ℕ} → links r ≡ 0 → LeadsTo links r r
  go : {r x q : ℕ} → links r ≡ suc x → LeadsTo links x q → LeadsTo links r q

-- Links lead to smaller references.
abbrev pub Falling : Rows → Type 0
Falling links = (a z : ℕ) → column 0 links a ≡ suc z → z < a

-- The references x and y lead to p and q.
pub record Ways (N : ℕ) (b : Rows) (x y p q : ℕ) : Type 0 where
  -- from x to p
  pub first : WalksTo N (column 0 b) x p
  -- from y to q
  pub second : WalksTo N (column 0 b) y q

-- x and y need not be made equal: they lead to the same reference, to the same constant, or to linked nodes.
pub data Alike (N : ℕ) (w : List ℕ) (b links : Rows) (x y : ℕ) : Type 0 where
  met : (p : ℕ) → Ways N b x y p p → Alike N w b links x y
  constants : (p q : ℕ) → Ways N b x y p q → N ≤ p → N ≤ q → cells w (p - N) ≡ cells w (q - N) → arity_of (cells w (p - N)) ≡ 0 → Alike N w b links x y
  linked : (p q root : ℕ) → Ways N b x y p q → LeadsTo (column 0 links) p root → LeadsTo (column 0 links) q root → Alike N w b links x y

-- A variable is to be bound to a reference: of two variables the first one.
pub data Binding (N : ℕ) (w : List ℕ) (b : Rows) (k x y : ℕ) : ℕ → ℕ → Type 0 where
  of_first : {p q : ℕ} → Ways N b x y p q → p < N → p ≢ q → occurs (held N w b k) p (denote N (cells w) q) ≡ false → Binding N w b k x y p q
  of_second : {p q : ℕ} → Ways N b x y p q → N ≤ p → q < N → occurs (held N w b k) q (denote N (cells w) p) ≡ false → Binding N w b k x y q p

-- The arguments of two nodes are to be made equal.
pub record Opening (N : ℕ) (w : List ℕ) (b links : Rows) (x y p q : ℕ) : Type 0 where
  -- p and q are where x and y lead
  pub ways : Ways N b x y p q
  -- both are nodes
  pub first_node : N ≤ p
  pub second_node : N ≤ q
  -- the same symbol and arity
  pub alike : cells w (p - N) ≡ cells w (q - N)
  -- not linked
  pub apart : (root : ℕ) → LeadsTo (column 0 links) p root → LeadsTo (column 0 links) q root → ⊥

-- x and y cannot be made equal: a variable occurs in the other term, or symbol or arity differ.
pub data Clashing (N : ℕ) (w : List ℕ) (b : Rows) (k x y : ℕ) : Type 0 where
  in_second : (p q : ℕ) → Ways N b x y p q → p < N → p ≢ q → occurs (held N w b k) p (denote N (cells w) q) ≡ true → Clashing N w b k x y
  in_first : (p q : ℕ) → Ways N b x y p q → N ≤ p → q < N → occurs (held N w b k) q (denote N (cells w) p) ≡ true → Clashing N w b k x y
  heads : (p q : ℕ) → Ways N b x y p q → N ≤ p → N ≤ q → cells w (p - N) ≢ cells w (q - N) → Clashing N w b k x y

-- What a decision says.
abbrev pub Says : ℕ → List ℕ → Rows → Rows → ℕ → ℕ → ℕ → Decision → Type 0
Says N w b links k x y Same = Alike N w b links x y
Says N w b links k x y (Bind v z) = Binding N w b k x y v z
Says N w b links k x y (Open p q) = Opening N w b links x y p q
Says N w b links k x y Clash = Clashing N w b k x y

-- `decide` decided what is to be done with x and y.
pub record Decided (N : ℕ) (w : List ℕ) (b links m m' : Rows) (k x y : ℕ) (d : Decision) : Type 0 where
  -- what the decision says holds
  pub says : Says N w b links k x y d
  -- the marks at exit are those at entry
  pub marks : m' ≡ m

-- The roots of x and y were linked, the greater to the smaller, as the entry at position c.
pub record Joined (links links' : Rows) (c x y : ℕ) : Type 0 where
  -- the two roots
  pub root_x : ℕ
  pub root_y : ℕ
  pub leads_x : LeadsTo (column 0 links) x root_x
  pub leads_y : LeadsTo (column 0 links) y root_y
  -- the link leads from one root to the other
  pub from : ℕ
  pub to : ℕ
  pub either : ((from ≡ root_x) × (to ≡ root_y)) ⊎ ((from ≡ root_y) × (to ≡ root_x))
  -- from the greater to the smaller
  pub falls : (root_x ≡ root_y) ⊎ (to < from)
  -- it is entered with the list of links
  pub entered : Entered links links' c from (to + 1)

-- The theory's outcome for an answer and the bindings that then stand.
abbrev pub outcome : Bool → Bindings → Outcome
outcome true β = unified β
outcome false β = fails

-- The rows of the stack below d with all numbers 0.
unfoldable pub cleared : Rows → ℕ → Rows
cleared s zero = s
cleared s (suc d) = cleared (set s d (0 ∷ 0 ∷ 0 ∷ [])) d

-- The scratch of `unify`: a table for links and one for marks, and a stack, with nothing in them.
pub record Scratch (N used : ℕ) (links marks stack : Rows) : Type 0 where
  -- no links and no marks
  pub links_free : Free N used links
  pub marks_free : Free N used marks
  -- no more pairs are open together than there are words in use
  pub stack_lent : used ≤ length stack
  -- and none is open
  pub stack_empty : Empty stack

-- `unify` of what r and t denote under the first k bindings answered whether they unify; k' bindings stand at exit.
pub record Unified (N : ℕ) (w : List ℕ) (b b' l l' m m' s s' : Rows) (variables used k k' r t : ℕ) (answer : Bool) : Type 0 where
  -- by the theory's `unify`: the same bindings in the same order
  pub is : unify variables (held N w b k) (denote N (cells w) r) (denote N (cells w) t) ≡ outcome answer (held N w b' k')
  -- the state is again in form
  pub form : Form N w b' variables used k'
  -- bindings are only added
  pub more : k ≤ k'
  -- the trail below the mark k is as it was
  pub kept : (i : ℕ) → i < k → column 1 b' i ≡ column 1 b i
  -- and so is every value that stood
  pub still : (v : ℕ) → column 0 b v ≢ 0 → column 0 b' v ≡ column 0 b v
  -- undoing to the mark k gives the very rows at entry
  pub back : undone b' k (k' - k) ≡ b
  -- without success nothing changed
  pub failed : answer ≡ false → (b' ≡ b) × (k' ≡ k)
  -- the scratch is as it was
  pub links : l' ≡ l
  pub marks : m' ≡ m
  pub stack : s' ≡ s

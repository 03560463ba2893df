-- What the functions answer, each contract a record with named parts.
use Rattle.std.specs.Prelude.{ℕ, ◌+◌, ◌-◌, ◌≤◌, ◌<◌, ◌≡◌, Bool, true, ◌≢◌, List, [], get_or, length}
use Rattle.terms.specs.Bindings.{walk, occurs}
use Rattle.arena.specs.Cells.{cells, denote, Reference}
use Rattle.arena.specs.Rows.{Rows, column}
use Rattle.bindings.specs.Tables.{Empty, entered, removed}
use Rattle.bindings.specs.Stored.{held, Form, WalksTo}

-- A row was replaced.
pub record Replaced (t t' : Rows) (at width : ℕ) (new : Rows) : Type 0 where
  -- the rows at exit
  pub is : t' ≡ new
  -- how many numbers the row had that stood there
  pub wide : length (get_or t at []) ≡ width

-- A key was entered with its value.
pub record Entered (t t' : Rows) (n key value : ℕ) : Type 0 where
  -- the rows at exit
  pub is : t' ≡ entered t n key value
  -- where the key had no value and the list ended, taking the entry back gives the rows at entry
  pub back : column 0 t key ≡ 0 → column 1 t n ≡ 0 → removed t' n ≡ t

-- The entries from position `mark` to n can be taken back: the list is that long, and its keys are in the table.
pub record Undoable (t : Rows) (n mark : ℕ) : Type 0 where
  -- the mark is no newer than the last entry
  pub above : mark ≤ n
  -- the list has n positions
  pub within : n ≤ length t
  -- its keys from the mark on are in the table
  pub keys : (i : ℕ) → mark ≤ i → i < n → column 1 t i < length t

-- `walk` led from the reference r to the reference q.
pub record Walked (N : ℕ) (w : List ℕ) (b : Rows) (variables used k r q : ℕ) : Type 0 where
  -- by the theory's `walk`
  pub is : walk (held N w b k) (denote N (cells w) r) ≡ denote N (cells w) q
  -- by the values, so that q is the very reference that is stored
  pub way : WalksTo N (column 0 b) r q
  -- q is a reference in form
  pub in_form : Reference N (cells w) variables used q
  -- a variable at the end is unbound
  pub ends : q < N → column 0 b q ≡ 0

-- A table for every reference, with nothing in it.
pub record Free (N used : ℕ) (m : Rows) : Type 0 where
  -- a row for every reference
  pub lent : N + used ≤ length m
  -- every number is 0
  pub empty : Empty m

-- `occurs` answered whether the unbound variable x occurs in what r denotes.
pub record Checked (N : ℕ) (w : List ℕ) (b m m' : Rows) (k x r : ℕ) (answer : Bool) : Type 0 where
  -- by the theory's occurs check
  pub is : answer ≡ occurs (held N w b k) x (denote N (cells w) r)
  -- the marks at exit are those at entry
  pub marks : m' ≡ m

-- The answer tells whether P holds.
pub record Tells (answer : Bool) (P : Type 0) : Type 0 where
  -- yes: it holds
  pub yes : answer ≡ true → P
  -- where it holds, the answer is yes
  pub back : P → answer ≡ true

-- The table lists its entries: the first k positions have different variables in use, each bound, and they are all the bound variables; the values
-- are references in form.
pub record Trailed (N : ℕ) (w : List ℕ) (b : Rows) (variables used k : ℕ) : Type 0 where
  -- the variables of the trail are in use
  pub in_use : (i : ℕ) → i < k → column 1 b i < variables
  -- and bound
  pub bound : (i : ℕ) → i < k → column 0 b (column 1 b i) ≢ 0
  -- and none stands twice
  pub distinct : (i j : ℕ) → i < j → j < k → column 1 b i ≢ column 1 b j
  -- a value is that of a variable in use, which the trail lists, and is a reference in form
  pub values : (v : ℕ) → column 0 b v ≢ 0 → (v < variables) × ((i : ℕ) × (i < k) × (column 1 b i ≡ v)) × Reference N (cells w) variables used (column 0 b v - 1)

-- `check_bindings` answered whether words that are in form and any rows are in form together.
pub record BindingsChecked (N : ℕ) (w : List ℕ) (b m m' : Rows) (variables used k : ℕ) (answer : Bool) : Type 0 where
  -- accepted exactly where they are in form
  pub tells : Tells answer (Form N w b variables used k)
  -- the marks at exit are those at entry
  pub marks : m' ≡ m

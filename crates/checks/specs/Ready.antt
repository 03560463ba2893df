-- What `unifier` asks of lent storage, part by part, as the tests decide it.
use Rattle.std.specs.Prelude.{ℕ, suc, ◌+◌, ◌≤◌, ◌<◌, ◌≡◌, Bool, List, get_or, length}
use Rattle.arena.specs.Cells.{Cells, cells, headers, arity_of, Reference, WellFormed}
use Rattle.arena.specs.Rows.{Rows}
use Rattle.bindings.specs.Tables.{Empty}
use Rattle.bindings.specs.Stored.{Form}
use Rattle.bindings.specs.Promises.{Free, Tells}
use Rattle.unifier.specs.Promises.{Scratch}

-- Every number of the row is 0.
abbrev pub ZeroRow : List ℕ → Type 0
ZeroRow row = (c : ℕ) → get_or row c 0 ≡ 0

-- What was or-ed together is 0 exactly where what was before and the row are 0.
pub record Joined (seen : ℕ) (row : List ℕ) (r : ℕ) : Type 0 where
  pub old : r ≡ 0 → seen ≡ 0
  pub zero_row : r ≡ 0 → ZeroRow row
  pub back : seen ≡ 0 → ZeroRow row → r ≡ 0

-- There are at least so many rows, and every number is 0.
pub record Zeros (rows : Rows) (least : ℕ) : Type 0 where
  pub lent : least ≤ length rows
  pub empty : Empty rows

-- If the word at the address a is a header, its node is in form.
pub record NodeFormed (N : ℕ) (w : Cells) (variables used a : ℕ) : Type 0 where
  pub fits : headers ≤ w a → a + arity_of (w a) < used
  pub arguments : (i : ℕ) → headers ≤ w a → i < arity_of (w a) → Reference N w variables a (w (a + suc i))

-- The words in use are terms in form, in room for N variables: what `check_bindings` asks of them.
pub record Stored (N : ℕ) (words : List ℕ) (variables used : ℕ) : Type 0 where
  pub formed : WellFormed N (cells words) variables used
  -- there is room for the variables
  pub few : variables ≤ N
  -- references are below headers
  pub low : N + used ≤ headers
  -- there are so many words
  pub lent : used ≤ length words

-- Terms in form, and marks for every reference, all 0.
pub record Unmarked (room : ℕ) (words : List ℕ) (marks : Rows) (variables used : ℕ) : Type 0 where
  pub stored : Stored room words variables used
  pub zeros : Zeros marks (room + used)

-- Words and bindings in form, and marks for every reference, all 0: what `occurs` asks of storage.
pub record Formed (N : ℕ) (words : List ℕ) (bindings marks : Rows) (variables used bound : ℕ) : Type 0 where
  pub form : Form N words bindings variables used bound
  pub free : Free N used marks

-- `is_form` told so, and left the marks as they were.
pub record FormTold (N : ℕ) (words : List ℕ) (bindings marks marks' : Rows) (variables used bound : ℕ) (answer : Bool) : Type 0 where
  pub tells : Tells answer (Formed N words bindings marks variables used bound)
  pub kept : marks' ≡ marks

-- Storage and two references in form, and scratch with nothing in it: what `unify` asks.
pub record Ready (N : ℕ) (words : List ℕ) (bindings links marks stack : Rows) (variables used bound left right : ℕ) : Type 0 where
  pub form : Form N words bindings variables used bound
  pub left_refers : Reference N (cells words) variables used left
  pub right_refers : Reference N (cells words) variables used right
  pub scratch : Scratch N used links marks stack

-- `is_ready` told so, and left the marks as they were.
pub record ReadyTold (N : ℕ) (words : List ℕ) (bindings links marks marks' stack : Rows) (variables used bound left right : ℕ) (answer : Bool) : Type 0 where
  pub tells : Tells answer (Ready N words bindings links marks stack variables used bound left right)
  pub kept : marks' ≡ marks

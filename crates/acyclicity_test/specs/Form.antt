-- Bindings in form, as the checks of the program find them.
use Rattle.std.specs.Prelude.{ℕ, suc, ◌≤◌, ◌<◌, ◌≡◌, List, length}
use Rattle.arena.specs.Cells.{Cells, cells, Reference}
use Rattle.arena.specs.Rows.{Rows, column}

-- A stored word of a binding is 0, or 1 + a reference.
abbrev pub BindingInForm : ℕ → Cells → ℕ → ℕ → ℕ → Type 0
BindingInForm N w variables used x = (r : ℕ) → x ≡ suc r → Reference N w variables used r

-- The bindings of the variables in use are in form.
pub record BindingsInForm (N : ℕ) (words : List ℕ) (bindings : Rows) (variables used : ℕ) : Type 0 where
  pub rows : variables ≤ length bindings
  pub bound : (v : ℕ) → v < variables → BindingInForm N (cells words) variables used (column 0 bindings v)

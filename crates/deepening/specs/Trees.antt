-- How the frames of a proof become its rows (tree_rows, Trees): height from the top, kind, rule and goal; the other columns are zero.
use Rattle.std.specs.Prelude.{ℕ, zero, suc, ◌-◌, ◌<◌, ◌≡◌, List, set}
use Rattle.arena.specs.Rows.{Rows}
use Rattle.tree_rows.specs.Trees.{row_at, tree_row}
use Rattle.search_machine.specs.State.{Refers, frame_at}

-- The first n frames turned into rows, where D is the depth bound.
unfoldable pub tree_rows : ℕ → Rows → ℕ → Rows
tree_rows D F zero = F
tree_rows D F (suc n) = set (tree_rows D F n) n (tree_row (D - (frame_at F n).depth) (frame_at F n).rule (frame_at F n).goal)

-- A row that is some node's: its goal is a reference in form.
pub record Node (W : List ℕ) (c u : ℕ) (row : List ℕ) : Type 0 where
  pub height : ℕ
  pub rule : ℕ
  pub goal : ℕ
  pub is : row ≡ tree_row height rule goal
  pub refers : Refers W c u goal

-- The first n rows are.
abbrev pub Nodes : List ℕ → ℕ → ℕ → Rows → ℕ → Type 0
Nodes W c u F n = (k : ℕ) → k < n → Node W c u (row_at F k)

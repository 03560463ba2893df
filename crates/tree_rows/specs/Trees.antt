-- Trees in storage (document 01, "One text in full": nodes in preorder with their heights): a row for each node, in preorder. A row has the height, counted from
-- the top, the kind (0: a rule was used), the rule's number and the reference of the goal; the other columns are zero. The evaluator and the search leave
-- such rows; their words have room for different numbers of variables.
use Rattle.std.specs.Prelude.{ℕ, zero, suc, ◌≡◌, List, [], ◌∷◌, get_or, replicate}
use Rattle.terms.specs.Term.{Kind, Term}
use Rattle.arena.specs.Cells.{cells, denote, Reference}
use Rattle.resolution.specs.Rules.{Tree, node, leaf, ◌◂◌}
use Rattle.resolution.specs.Preorder.{Entry, entry}
use Rattle.arena.specs.Rows.{Rows}
pub use Rattle.slices.specs.Rows.{row_at}

-- The row of a node.
abbrev pub tree_row : ℕ → ℕ → ℕ → List ℕ
tree_row height rule goal = height ∷ 0 ∷ rule ∷ goal ∷ 0 ∷ 0 ∷ 0 ∷ 0 ∷ []

-- A row that no node has.
abbrev pub zero_tree : List ℕ
zero_tree = replicate 8 0

-- Words with room for `room` variables, the first `variables` of which there are.
module _ (room variables : ℕ) where
  -- A row is a node's: its goal is a term among the first `used` words.
  pub record RowOf (words : List ℕ) (used : ℕ) (row : List ℕ) (height rule : ℕ) (goal : Term) : Type 0 where
    pub reference : ℕ
    pub is : row ≡ tree_row height rule reference
    pub root : Reference room (cells words) variables used reference
    pub says : denote room (cells words) reference ≡ goal

  -- The rows from p on and before q are those of a tree, or of several trees, at a height.
  unfoldable pub Lists : {s : Kind} → List ℕ → ℕ → Rows → ℕ → ℕ → Tree s → ℕ → Type 0
  Lists words used rows p height (node i g ps) q = RowOf words used (row_at rows p) height i g × Lists words used rows (suc p) (suc height) ps q
  Lists words used rows p height leaf q = q ≡ p
  Lists words used rows p height (t ◂ ts) q = (m : ℕ) × Lists words used rows p height t m × Lists words used rows m height ts q

-- The rows read as entries.
module _ (room : ℕ) where
  abbrev pub entry_of : List ℕ → List ℕ → Entry
  entry_of words row = entry (get_or row 0 0) (get_or row 2 0) (denote room (cells words) (get_or row 3 0))

  -- n rows from p on, with their goals as terms.
  unfoldable pub entries_from : List ℕ → Rows → ℕ → ℕ → List Entry
  entries_from words rows p zero = []
  entries_from words rows p (suc n) = entry_of words (row_at rows p) ∷ entries_from words rows (suc p) n

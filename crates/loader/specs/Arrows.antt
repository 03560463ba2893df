-- The sorts of an arrow, looked up by names that stand in rows.
use Rattle.std.specs.Prelude.{ℕ, zero, suc, ◌≤◌, ◌≡◌, Option, Some, None, List, [], ◌∷◌, take}
use Rattle.source_text.specs.Parts.{part_of}
use Rattle.names.specs.Names.{Name}
use Rattle.names.specs.Symbols.{Rows, column, row_at}
use Rattle.loader.specs.Signature.{Numbers, unknown, numbers, last_of}

-- The names of k rows from row p on.
unfoldable pub names_at : List ℕ → Rows → ℕ → ℕ → List Name
names_at text rows p zero = []
names_at text rows p (suc k) = part_of text (column (row_at rows p) 1) (column (row_at rows p) 2) ∷ names_at text rows (suc p) k

-- What `find_arrow` answers, and that the first 16 of k numbers are written.
abbrev pub Arrowing : Numbers → Option ℕ → List ℕ → ℕ → Type 0
Arrowing unknown r inputs k = r ≡ None
Arrowing (numbers ns) r inputs k = (r ≡ Some (last_of ns)) × ((n : ℕ) → n ≤ 16 → n ≤ k → take n inputs ≡ take n ns)

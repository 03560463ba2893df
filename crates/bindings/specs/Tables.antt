-- A table with the list of its entries, as rows of two numbers: column 0 has by key the key's value, 0 for none, and column 1 has by position the
-- keys in the order in which they were entered, 0 past the last. Bindings with their trail (the Rust's `binding` and `trail`), marks with their queue
-- and links with their list are kept so.
use Rattle.std.specs.Prelude.{ℕ, zero, suc, ◌+◌, ◌≡◌, [], ◌∷◌, set}
use Rattle.arena.specs.Rows.{Rows, column}

-- Every number of the table is 0.
abbrev pub Empty : Rows → Type 0
Empty t = (c j : ℕ) → column c t j ≡ 0

-- The table with another value at the key.
abbrev pub valued : Rows → ℕ → ℕ → Rows
valued t key value = set t key (value ∷ column 1 t key ∷ [])

-- The table with another key at position n of the list.
abbrev pub listed : Rows → ℕ → ℕ → Rows
listed t n key = set t n (column 0 t n ∷ key ∷ [])

-- The key entered at position n, with its value.
unfoldable pub entered : Rows → ℕ → ℕ → ℕ → Rows
entered t n key value = listed (valued t key value) n key

-- The entry at position n taken back.
unfoldable pub removed : Rows → ℕ → Rows
removed t n = listed (valued t (column 1 t n) 0) n 0

-- The d entries from position `mark` on taken back, the last first.
unfoldable pub undone : Rows → ℕ → ℕ → Rows
undone t mark zero = t
undone t mark (suc d) = undone (removed t (mark + d)) mark d

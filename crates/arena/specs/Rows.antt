-- Rows of numbers: how bindings, marks and links are kept beside the words.
use Rattle.std.specs.Prelude.{ℕ, suc, ◌-◌, ◌≤◌, ◌≡◌, Some, SomeIff, refl, List, [], ◌∷◌, get_or, length}
use Rattle.std.proofs.Common.{arith}
use Rattle.arena.specs.Cells.{Cells}
pub use Rattle.slices.specs.Rows.{Rows}

-- The number in column c of row j; 0 outside the rows.
abbrev pub column : ℕ → Rows → Cells
column c rows j = get_or (get_or rows j []) c 0

-- A number that stands for a reference is one more than it; 0 stands for none.
pub one_more : {n z : ℕ} → SomeIff (Some z) (1 ≤ n) (n - 1) → n ≡ suc z
one_more e = omega (arith, e)

-- A row of two numbers is those two.
pub pair_is : (row : List ℕ) → length row ≡ 2 → row ≡ get_or row 0 0 ∷ get_or row 1 0 ∷ []
pair_is [] e = absurd (omega arith)
pair_is (x ∷ []) e = absurd (omega arith)
pair_is (x ∷ y ∷ []) e = refl
pair_is (x ∷ y ∷ z ∷ l) e = absurd (omega arith)

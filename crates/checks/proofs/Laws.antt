-- Rows with nothing but 0, by what their numbers are or-ed together.
use Prim.Native.Nat.{ℕ, zero, suc, ◌≤◌}
use native.Mathlib.Omega.{arith}
use mathlib.Core.Path.{◌≡◌, ◌∙◌, refl, sym}
use mathlib.Core.List.{List, [], ◌∷◌}
use lib.Dec.{eqb}
use lib.Bits.{bit_or, or_add_and, and_le_l, and_le_r}
use lib.ListN.{get_or, length}
use borrow.Author.Tests.{eqb-true, eq-eqb}
use Rattle.std.specs.List.{fold, flat_map}
use Rattle.std.proofs.lemmas.List.Sums.{fold-append}
use Rattle.arena.specs.Rows.{Rows}
use Rattle.bindings.specs.Promises.{Tells}
use Rattle.checks.specs.Ready.{ZeroRow, Joined, Zeros}

by_first : (P : ℕ → Type 0) → P 0 → ((k : ℕ) → P (suc k)) → (k : ℕ) → P k
by_first P z s zero = z
by_first P z s (suc k) = s k

-- Numbers or-ed together

or_none : (a b : ℕ) → bit_or a b ≡ 0 → (a ≡ 0) × (b ≡ 0)
or_none a b e = let s = or_add_and a b in let l = and_le_l a b in let r = and_le_r a b in (omega arith, omega arith)

or_both : (a b : ℕ) → a ≡ 0 → b ≡ 0 → bit_or a b ≡ 0
or_both a b d e = let s = or_add_and a b in omega arith

-- What is or-ed together of a row is 0 exactly where what was before is, and each number.
joined_row : (row : List ℕ) (a : ℕ) → Joined a row (fold bit_or a row)
joined_row [] a = record { old = λ e. e; zero_row = λ e c. refl; back = λ e z. e }
joined_row (x ∷ row) a =
    let more = joined_row row (bit_or a x) in
    record {
      old = λ e. (or_none a x (more.old e)).0;
      zero_row = λ e. by_first (λ c. get_or (x ∷ row) c 0 ≡ 0) (or_none a x (more.old e)).1 (more.zero_row e);
      back = λ e z. more.back (or_both a x e (z 0)) (λ c. z (suc c));
    }

-- So it is of rows, one behind the other.
seen_rows : (rows : Rows) (a : ℕ) → fold (fold bit_or) a rows ≡ 0 → (a ≡ 0) × ((j : ℕ) → ZeroRow (get_or rows j []))
seen_rows [] a e = (e, λ j c. refl)
seen_rows (row ∷ rows) a e =
    let more = seen_rows rows (fold bit_or a row) e in
    let one = joined_row row a in
    (one.old more.0, by_first (λ j. ZeroRow (get_or (row ∷ rows) j [])) (one.zero_row more.0) more.1)

rows_seen : (rows : Rows) (a : ℕ) → a ≡ 0 → ((j : ℕ) → ZeroRow (get_or rows j [])) → fold (fold bit_or) a rows ≡ 0
rows_seen [] a e z = e
rows_seen (row ∷ rows) a e z = rows_seen rows (fold bit_or a row) ((joined_row row a).back e (z 0)) (λ j. z (suc j))

-- What is or-ed together of all rows tells whether they are zero.
pub joined_all : {rows : Rows} {least seen : ℕ} → least ≤ length rows → seen ≡ fold (fold bit_or) 0 rows → Tells (eqb seen 0) (Zeros rows least)
joined_all {rows} {least} {seen} l h = record {
  yes = λ e. record { lent = l; empty = λ c j. (seen_rows rows 0 (sym h ∙ eqb-true seen 0 e)).1 j c };
  back = λ z. eq-eqb seen 0 (h ∙ rows_seen rows 0 refl (λ j c. z.empty c j));
}

-- All numbers of rows, one behind the other.
joined_flat : (rows : Rows) (a : ℕ) → fold bit_or a (flat_map (λ x. x) rows) ≡ fold (fold bit_or) a rows
joined_flat [] a = refl
joined_flat (row ∷ rows) a = fold-append bit_or a row (flat_map (λ x. x) rows) ∙ joined_flat rows (fold bit_or a row)

-- What is or-ed together of all numbers tells whether the rows are zero.
pub seen_all : {rows : Rows} {least seen : ℕ} → least ≤ length rows → seen ≡ fold bit_or 0 (flat_map (λ x. x) rows) → Tells (eqb seen 0) (Zeros rows least)
seen_all {rows} l h = joined_all l (h ∙ joined_flat rows 0)

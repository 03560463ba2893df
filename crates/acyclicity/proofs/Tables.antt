-- Tables of numbers in which one entry changes, and their sums; columns of rows are such tables.
use Prim.Native.Nat.{ℕ, zero, suc, ◌+◌, ◌*◌, ◌≤◌, ◌<◌}
use native.Mathlib.Omega.{arith}
use native.Mathlib.Nat.{not-suc-le-zero}
use mathlib.Core.Path.{◌≡◌, refl, sym, ap, subst}
use mathlib.Core.Logic.{◌≢◌}
use mathlib.Core.List.{List, []}
use lib.ListN.{get_or, length, set}
use lib.Seq.{get_or-set_same, get_or-set_other}
use Rattle.terms.specs.Numbers.{by_same, by_less}
use Rattle.arena.specs.Rows.{Rows, column}

-- The second table is the first, but v at x.
pub record Changed (f : ℕ → ℕ) (x v : ℕ) (f' : ℕ → ℕ) : Type 0 where
  pub at : f' x ≡ v
  pub off : (a : ℕ) → a ≢ x → f' a ≡ f a

pub column_changed : (k : ℕ) (rows : Rows) (x : ℕ) (row : List ℕ) → x < length rows → Changed (column k rows) x (get_or row k 0) (column k (set rows x row))
column_changed k rows x row l = record {
  at = ap (λ (r : List ℕ). get_or r k 0) (get_or-set_same rows x row [] l);
  off = λ a n. ap (λ (r : List ℕ). get_or r k 0) (get_or-set_other rows x a row [] n);
}

-- What holds of the new entry and of the old ones holds of all.
pub all_changed : {f f' : ℕ → ℕ} {x v : ℕ} (P : ℕ → ℕ → Type 0) → Changed f x v f' → P x v → ((a : ℕ) → a ≢ x → P a (f a)) → (a : ℕ) → P a (f' a)
all_changed {f} {f'} {x} {v} P c h g a = by_same a x
    (λ e q. subst (λ (z : ℕ). P z (f' z)) (sym e) (subst (P x) (sym c.at) h))
    (λ n q. subst (P a) (sym (c.off a n)) (g a n))

-- The sum of the first n entries.
unfoldable pub total : (ℕ → ℕ) → ℕ → ℕ
total f zero = 0
total f (suc n) = total f n + f n

total_same : {f f' : ℕ → ℕ} {x v : ℕ} (n : ℕ) → Changed f x v f' → n ≤ x → total f' n ≡ total f n
unfolding total
total_same zero c l = refl
total_same {x = x} (suc n) c l =
    let a = total_same n c (omega arith) in
    let b = c.off n (λ e. let z : ⊥ = omega arith in z) in
    omega arith

pub total_changed : {f f' : ℕ → ℕ} {x v : ℕ} (n : ℕ) → Changed f x v f' → x < n → total f' n + f x ≡ total f n + v
unfolding total
total_changed zero c l = absurd (not-suc-le-zero l)
total_changed {f} {f'} {x} {v} (suc n) c l = by_same n x
    (λ e q. let a = total_same n c (omega arith) in
    let b = c.at in
    let d : f' n ≡ f' x = ap f' e in
    let g : f n ≡ f x = ap f e in
    omega arith)
    (λ m q. let a = total_changed n c (by_less x n (λ k r. k) (λ k r. absurd (m (omega arith)))) in
    let b = c.off n m in
    omega arith)

pub total_most : (f : ℕ → ℕ) (k n : ℕ) → ((a : ℕ) → f a ≤ k) → total f n ≤ n * k
unfolding total
total_most f k zero h = omega arith
total_most f k (suc n) h = let a = total_most f k n h in let b = h n in omega arith

-- Laws of counting names: counts grow, they depend on the names only, and a name that is counted twice stands at two places.
use Prim.Native.Nat.{ℕ, zero, suc, ◌+◌, ◌≤◌, ◌<◌}
use native.Mathlib.Numerals.{add-one}
use native.Mathlib.Omega.{arith}
use mathlib.Core.Path.{◌≡◌, refl, sym, ap, ◌∙◌}
use mathlib.Core.Bool.{true, false}
use Rattle.terms.specs.Numbers.{by_bool, by_less, true_false}
use Rattle.source_text.specs.Bytes.{same_bytes}
use Rattle.source_text.specs.ByteLaws.{same_is}
use Rattle.names.specs.Names.{Name}
use Rattle.source_text.specs.ByteLaws.{same_itself}
use Rattle.distinct.specs.Order.{is_before}
use Rattle.distinct.specs.Sorting.{once, tally, Ascending, SameNames, Repeated}
use Rattle.distinct.proofs.OrderLaws.{before_itself, before_trans}

once_yes : (v w : Name) → same_bytes v w ≡ true → once v w ≡ 1
unfolding once
once_yes v w e = rw e

once_no : (v w : Name) → same_bytes v w ≡ false → once v w ≡ 0
unfolding once
once_no v w e = rw e

once_same : (v w : Name) → v ≡ w → once v w ≡ 1
once_same v w e = once_yes v w (rw e (same_itself w))

module _ (f : ℕ → Name) (w : Name) where
  pub tally_next : (k : ℕ) → tally f w (k + 1) ≡ once (f k) w + tally f w k
  unfolding tally
  tally_next k = rw (add-one k)

  pub tally_grows : (i j : ℕ) → i ≤ j → tally f w i ≤ tally f w j
  unfolding tally
  tally_grows i zero l = let e : i ≡ 0 = omega arith in rw e (omega arith)
  tally_grows i (suc j) l =
      by_less i (suc j)
      (λ a _. let h = tally_grows i j (omega arith) in omega arith)
      (λ a _. let e : i ≡ suc j = omega arith in rw e (omega arith))

  counted_one : (k : ℕ) → 1 ≤ tally f w k → (i : ℕ) × (i < k) × (f i ≡ w)
  unfolding tally
  counted_one zero l = absurd (omega arith)
  counted_one (suc k) l =
      by_bool (same_bytes (f k) w)
      (λ e. (k, omega arith, same_is (f k) w e))
      (λ e. let o = once_no (f k) w e in let (i, a, q) = counted_one k (omega arith) in (i, omega arith, q))

  pub counted_two : (k : ℕ) → 2 ≤ tally f w k → (i : ℕ) × (j : ℕ) × (i < j) × (j < k) × (f i ≡ f j)
  unfolding tally
  counted_two zero l = absurd (omega arith)
  counted_two (suc k) l =
      by_bool (same_bytes (f k) w)
      (λ e. let o = once_yes (f k) w e in let (i, a, q) = counted_one k (omega arith) in (i, k, a, omega arith, q ∙ sym (same_is (f k) w e)))
      (λ e. let o = once_no (f k) w e in let (i, j, a, b, q) = counted_two k (omega arith) in (i, j, a, omega arith, q))

pub tally_same : (f g : ℕ → Name) (w : Name) (k : ℕ) → ((i : ℕ) → i < k → f i ≡ g i) → tally f w k ≡ tally g w k
unfolding tally
tally_same f g w zero h = refl
tally_same f g w (suc k) h =
    let e : once (f k) w ≡ once (g k) w = ap (λ (v : Name). once v w) (h k (omega arith)) in
    let r = tally_same f g w k (λ i l. h i (omega arith)) in
    omega arith

-- Where two sequences agree from a place on and before another, their counts there do.
pub agreeing : (f g : ℕ → Name) (from to : ℕ) → from ≤ to → ((i : ℕ) → from ≤ i → i < to → f i ≡ g i) → SameNames f g from to
unfolding tally
agreeing f g from zero l h w = let e : from ≡ 0 = omega arith in rw e
agreeing f g from (suc to) l h w =
    by_less from (suc to)
    (λ a _. let e : once (f to) w ≡ once (g to) w = ap (λ (v : Name). once v w) (h to (omega arith) (omega arith)) in
    let r = agreeing f g from to (omega arith) (λ i p q. h i p (omega arith)) w in
    omega arith)
    (λ a _. let e : from ≡ suc to = omega arith in rw e (omega arith))

-- Two places with one name.
pub two_places : (f : ℕ → Name) (from i j to : ℕ) → from ≤ i → i < j → j < to → f i ≡ f j → Repeated f from to
two_places f from i j to a b c e =
    let p = once_same (f i) (f j) e in
    let q = once_same (f j) (f j) refl in
    let pn = tally_next f (f j) i in
    let qn = tally_next f (f j) j in
    let u = tally_grows f (f j) from i a in
    let v = tally_grows f (f j) (i + 1) j (omega arith) in
    let x = tally_grows f (f j) (j + 1) to (omega arith) in
    (f j, omega arith)

-- In an ascending sequence each name stands before all that follow, so none stands twice.
module _ (f : ℕ → Name) (from to : ℕ) (h : Ascending f from to) where
  ascending_before : (i j : ℕ) → from ≤ i → i < j → j < to → is_before (f i) (f j) ≡ true
  ascending_before i zero a b c = absurd (omega arith)
  ascending_before i (suc j) a b c =
      let last : is_before (f j) (f (suc j)) ≡ true = rw (add-one j) at (h j (omega arith) (omega arith)) in
      by_less i j
      (λ l _. before_trans (f i) (f j) (f (suc j)) (ascending_before i j a l (omega arith)) last)
      (λ l _. let e : i ≡ j = omega arith in rw e last)

  pub ascending_differ : (i j : ℕ) → from ≤ i → i < j → j < to → f i ≡ f j → ⊥
  ascending_differ i j a b c e = true_false {P = ⊥} (rw e at (ascending_before i j a b c)) (before_itself (f j))

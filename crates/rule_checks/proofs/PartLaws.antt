-- Laws of a part of a list, as a slice of it is lent: what holds of each number of the part holds of each number at its places.
use Rattle.std.specs.Prelude.{IsTrue, ◌↔◌, slice_index}
use Rattle.std.specs.List.{list_all, fold}
use Rattle.std.specs.Int.Bits.{bit_or}
use lib.Bits.{or_add_and, and_le_l, and_le_r}
use Rattle.std.proofs.Common.{◌≡◌, refl, ℕ, zero, suc, [], ◌∷◌, ◌&&◌, false, nat_eq, ne_eqb, ◌+◌, ◌-◌, ◌≤◌, ◌<◌, Bool, true, List, length, get_or, take, drop, sym, ap, subst, ◌∙◌, arith, EachIndex, length-take, length-drop, get_or-take, get_or-drop}
use Rattle.std.proofs.lemmas.List.Sums.{AllPass-from_list_all, list_all-from_AllPass}
use Rattle.names.specs.SearchLaws.{get_d_any}

module _ (xs : List ℕ) (from to : ℕ) where
  pub part_length : to ≤ length xs → length (take (to - from) (drop from xs)) ≡ to - from
  part_length l = omega (arith, length-take (to - from) (drop from xs), length-drop from xs)

  pub part_index : (k : ℕ) → from + k < to → get_or (take (to - from) (drop from xs)) k 0 ≡ get_or xs (from + k) 0
  part_index k l = get_or-take (to - from) (drop from xs) k 0 (omega arith) ∙ get_or-drop from xs k 0

  pub part_each : (P : ℕ → Type 0) → to ≤ length xs → EachIndex (take (to - from) (drop from xs)) (λ k. P (get_or (take (to - from) (drop from xs)) k 0))
      → (i : ℕ) → from ≤ i → i < to → P (get_or xs i 0)
  part_each P l h i a b =
      let e : from + (i - from) ≡ i = omega arith in
      let n = part_length l in
      subst P (part_index (i - from) (omega arith) ∙ ap (λ j. get_or xs j 0) e) (h (i - from) (omega arith))

  pub each_part : (P : ℕ → Type 0) → to ≤ length xs → ((i : ℕ) → from ≤ i → i < to → P (get_or xs i 0))
      → EachIndex (take (to - from) (drop from xs)) (λ k. P (get_or (take (to - from) (drop from xs)) k 0))
  each_part P l h k b =
      let n = part_length l in
      subst P (sym (part_index k (omega arith))) (h (from + k) (omega arith) (omega arith))

-- The same of columns, n up to m from column `at` on.
module _ (row : List ℕ) (at n m : ℕ) (P : ℕ → Type 0) (long : at + m ≤ length row) where
  pub columns_each : EachIndex (take (at + m - (at + n)) (drop (at + n) row)) (λ k. P (get_or (take (at + m - (at + n)) (drop (at + n) row)) k 0))
      → (j : ℕ) → n ≤ j → j < m → P (get_or row (at + j) 0)
  columns_each h j a b = part_each row (at + n) (at + m) P long h (at + j) (omega arith) (omega arith)

  pub each_columns : ((j : ℕ) → n ≤ j → j < m → P (get_or row (at + j) 0))
      → EachIndex (take (at + m - (at + n)) (drop (at + n) row)) (λ k. P (get_or (take (at + m - (at + n)) (drop (at + n) row)) k 0))
  each_columns h = each_part row (at + n) (at + m) P long
      (λ i a b. let e : at + (i - at) ≡ i = omega arith in subst (λ x. P (get_or row x 0)) e (h (i - at) (omega arith) (omega arith)))

-- Each number of a list passes a test exactly where it has P.
pub each_passes : (test : ℕ → Bool) (P : ℕ → Type 0) → ((x : ℕ) → test x ≡ true → P x) → ((x : ℕ) → P x → test x ≡ true) → (xs : List ℕ) (r : Bool)
    → r ≡ list_all test xs → IsTrue r ↔ EachIndex xs (λ k. P (slice_index xs k))
each_passes test P right left xs r e = (
  λ t i l. right _ (AllPass-from_list_all test xs (sym e ∙ t) i 0 l),
  λ h. e ∙ list_all-from_AllPass test xs (λ i d l. ap test (get_d_any xs i d 0 l) ∙ left _ (h i l)),
)

-- What is or-ed together of numbers is 0 exactly where each of them is.
or_zero : (a b : ℕ) → nat_eq (bit_or a b) 0 ≡ (nat_eq a 0 && nat_eq b 0)
or_zero zero zero = refl
or_zero zero (suc b) = ne_eqb _ _ (λ e. let s = or_add_and 0 (suc b) in let l = and_le_l 0 (suc b) in omega arith) ∙ sym (ne_eqb (suc b) 0 (λ e. omega arith))
or_zero (suc a) b = ne_eqb _ _ (λ e. let s = or_add_and (suc a) b in let l = and_le_r (suc a) b in omega arith) ∙ sym (ap (λ t. t && nat_eq b 0) (ne_eqb (suc a) 0 (λ e. omega arith)))

and_assoc : (a b c : Bool) → ((a && b) && c) ≡ (a && (b && c))
and_assoc true b c = refl
and_assoc false b c = refl

and_true : (a : Bool) → a ≡ (a && true)
and_true true = refl
and_true false = refl

pub joined_zero : (columns : List ℕ) (a : ℕ) → nat_eq (fold bit_or a columns) 0 ≡ (nat_eq a 0 && list_all (λ x. nat_eq x 0) columns)
joined_zero [] a = and_true (nat_eq a 0)
joined_zero (x ∷ columns) a =
    joined_zero columns (bit_or a x) ∙ ap (λ b. b && list_all (λ y. nat_eq y 0) columns) (or_zero a x) ∙ and_assoc (nat_eq a 0) (nat_eq x 0) (list_all (λ y. nat_eq y 0) columns)

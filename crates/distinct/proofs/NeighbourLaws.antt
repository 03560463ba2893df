-- Laws of sorted names: where each stands before the next all differ, and where one does not it is the next.
use mathlib.Core.Path.{refl}
use Rattle.std.specs.List.{AllAdjacentBelow, IsAllAdjacentAnswer}
use Rattle.std.specs.List.Sorted.{IsPermutation, IsSortedBy}
use Rattle.std.specs.Ordering.{nat_cmp, is_lt, ordering_reverse}
use Rattle.std.specs.Cmp.Lexicographic.{slice_cmp}
use Rattle.std.specs.declared.cmp.Ordering.{Ordering}
use Rattle.std.specs.declared.cmp.Ordering.TheVariants.{Less, Equal, Greater}
use Rattle.std.proofs.Common.{◌≡◌, ℕ, ◌+◌, ◌<◌, Bool, true, false, List, [], length, sym, ap, ◌∙◌, arith}
use Rattle.std.proofs.lemmas.Cmp.{nat_list_cmp_total}
use Rattle.std.proofs.lemmas.List.Sorted.{IsPermutation-sym, ranks_by, sorted_far}
use Rattle.std.proofs.lemmas.Map.Lookups.{exact_bytes}
use Rattle.terms.specs.Numbers.{true_false}
use Rattle.unifier.specs.Promises.{Tells}
use Rattle.names.specs.Names.{Name, Distinct}
use Rattle.names.specs.Symbols.{Rows, row_at, sort_of, sorts_of}
use Rattle.names.specs.SearchLaws.{sorts_length}
use Rattle.distinct.specs.Sorting.{name_at}
use Rattle.distinct.proofs.SortLaws.{name_at_lem}
use Rattle.distinct.proofs.PermutationLaws.{Repeated, repeated_kept}

-- Does the name in one row stand before that in another?
abbrev pub is_before : List ℕ → List ℕ → List ℕ → Bool
is_before text x y = is_lt (slice_cmp nat_cmp (sort_of text x) (sort_of text y))

-- Of two names of which neither stands before the other, both are the same.
neither : (a b : Name) → is_lt (slice_cmp nat_cmp a b) ≡ false → is_lt (slice_cmp nat_cmp b a) ≡ false → a ≡ b
neither a b p q = exact_bytes a b (go (slice_cmp nat_cmp a b) p (ap is_lt (sym (nat_list_cmp_total.antisymm b a)) ∙ q))
  where
    go : (r : Ordering) → is_lt r ≡ false → is_lt (ordering_reverse r) ≡ false → r ≡ Equal
    go Less p q = true_false refl p
    go Equal p q = refl
    go Greater p q = true_false refl q

-- The names of all rows differ where none stands twice.
module _ (text : List ℕ) (rows : Rows) where
  distinct_not : Distinct (sorts_of text rows (length rows)) → Repeated text rows → ⊥
  distinct_not d (i, j, a, b, q) =
      let named = name_at_lem text rows (length rows) (omega arith) in
      d i j a (rw (sorts_length text rows (length rows) (omega arith)) b) (named i (omega arith) ∙ q ∙ sym (named j b))

  distinct_yes : (Repeated text rows → ⊥) → Distinct (sorts_of text rows (length rows))
  distinct_yes f i j a b q =
      let m : j < length rows = rw (sorts_length text rows (length rows) (omega arith)) at b in
      let named = name_at_lem text rows (length rows) (omega arith) in
      f (i, j, a, m, sym (named i (omega arith)) ∙ q ∙ named j m)

-- Rows that are sorted by their names.
module _ (text : List ℕ) (rows : Rows) (up : IsSortedBy (is_before text) rows) where
  differ : AllAdjacentBelow (λ x y. true ≡ is_before text x y) rows (length rows) → Repeated text rows → ⊥
  unfolding name_at
  differ h (i, j, a, b, e) =
      let s : is_before text (row_at rows j) (row_at rows (i + 1)) ≡ false = sorted_far (is_before text) (ranks_by nat_list_cmp_total (sort_of text)) rows up (i + 1) j [] (omega arith) b in
      true_false (sym (h i [] (omega arith))) (rw e s)

  tied : (k : ℕ) → k + 1 < length rows → false ≡ is_before text (row_at rows k) (row_at rows (k + 1)) → Repeated text rows
  unfolding name_at
  tied k l n = (k, k + 1, omega arith, l, neither (name_at text rows k) (name_at text rows (k + 1)) (sym n) (up k [] (omega arith) l))

-- What sorting and then comparing neighbours tells.
pub sorted_tells : (text : List ℕ) (xs ys : Rows) (r : Bool) → IsPermutation xs ys → IsSortedBy (is_before text) ys
    → IsAllAdjacentAnswer (λ x y b. b ≡ is_before text x y) ys r → Tells r (Distinct (sorts_of text xs (length xs)))
sorted_tells text xs ys true p up cases = record {
  yes = λ _. distinct_yes text xs (λ d. differ text ys up cases (repeated_kept text xs ys p d));
  back = λ _. refl;
}
sorted_tells text xs ys false p up cases = record {
  yes = λ e. true_false e refl;
  back = λ d. absurd (distinct_not text xs d (repeated_kept text ys xs (IsPermutation-sym xs ys p) (tied text ys up cases.0 cases.1 (cases.2 []))));
}

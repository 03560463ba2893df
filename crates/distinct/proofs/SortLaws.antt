-- Sorting a part: its two halves one after the other, then both together; and what the counts say of names that all differ.
use Prim.Native.Nat.{ℕ, ◌+◌, ◌≤◌, ◌<◌}
use native.Mathlib.Omega.{arith}
use mathlib.Core.Path.{◌≡◌, refl, sym, ap, ◌∙◌}
use mathlib.Core.Bool.{Bool, true, false}
use mathlib.Core.List.{List, []}
use lib.ListN.{length, get_or, set}
use lib.Seq.{get_or-set_same, get_or-set_other}
use borrow.Author.Count.{below_more}
use Rattle.terms.specs.Numbers.{by_bool, by_less, true_false}
use Rattle.unifier.specs.Promises.{Tells}
use Rattle.names.specs.Names.{Name, Distinct}
use Rattle.names.specs.Symbols.{Rows, row_at, sort_of, sorts_of}
use Rattle.names.specs.SearchLaws.{table_at, get_d_any, sorts_length}
use Rattle.distinct.specs.Sorting.{name_at, tally, Ascending, Joins, SameNames, Repeated, Sorted}
use Rattle.distinct.proofs.TallyLaws.{tally_grows, counted_two, agreeing, two_places, ascending_differ}

-- One row more of a part is copied.
pub copy_more : (rows spare : Rows) (from i : ℕ) → i < length spare → ((j : ℕ) → j < i → from ≤ j → row_at spare j ≡ row_at rows j)
    → (j : ℕ) → j < i + 1 → from ≤ j → row_at (set spare i (row_at rows i)) j ≡ row_at rows j
copy_more rows spare from i l h =
    below_more (λ j. from ≤ j → row_at (set spare i (row_at rows i)) j ≡ row_at rows j) i
    (λ j m a. get_or-set_other spare i j (row_at rows i) [] (λ e. omega arith) ∙ h j m a)
    (λ _. get_or-set_same spare i (row_at rows i) [] l)

pub copied_names : (text : List ℕ) (rows spare : Rows) {from to : ℕ} → ((i : ℕ) → from ≤ i → i < to → row_at spare i ≡ row_at rows i)
    → (i : ℕ) → from ≤ i → i < to → name_at text spare i ≡ name_at text rows i
unfolding name_at
copied_names text rows spare h i a l = ap (sort_of text) (h i a l)

-- At most one name.
pub sorted_short : (f : ℕ → Name) (from to : ℕ) → to < from + 2 → Sorted f f f from to true
sorted_short f from to l = record {
  below = λ x c. refl;
  above = λ x c. refl;
  ascending = λ _ i p q. absurd (omega arith);
  same = λ _ w. refl;
  repeated = λ t. true_false refl t;
}

-- A name stands twice in the first half.
pub sorted_first : {f f₁ : ℕ → Name} {from middle to : ℕ} {r : Bool} → middle ≤ to → Sorted f f f₁ from middle r → r ≡ false → Sorted f f f₁ from to false
sorted_first {f} {f₁} {from} {middle} {to} b h e = record {
  below = h.below;
  above = λ x c. h.above x (omega arith);
  ascending = λ t. true_false t refl;
  same = λ t. true_false t refl;
  repeated = λ _. let (w, n) = h.repeated e in let g = tally_grows f w middle to b in (w, omega arith);
}

-- The first half is sorted.
module _ {f f₁ f₂ : ℕ → Name} {from middle to : ℕ} {r s : Bool} (a : from ≤ middle) (b : middle ≤ to) (h : Sorted f f f₁ from middle r) (e : r ≡ true) (k : Sorted f₁ f₁ f₂ middle to s) where
  halves_below : (i : ℕ) → i < from → f₂ i ≡ f i
  halves_below i c = k.below i (omega arith) ∙ h.below i c

  halves_above : (i : ℕ) → to ≤ i → f₂ i ≡ f i
  halves_above i c = k.above i c ∙ h.above i (omega arith)

  -- A name stands twice in the second half.
  pub sorted_second : s ≡ false → Sorted f f f₂ from to false
  sorted_second q = record {
    below = halves_below;
    above = halves_above;
    ascending = λ t. true_false t refl;
    same = λ t. true_false t refl;
    repeated = λ _. let (w, n) = k.repeated q in
        let x = agreeing f₁ f middle to b (λ i c d. h.above i c) w in
        let y = tally_grows f w from middle a in
        (w, omega arith);
  }

  -- Both halves are sorted.
  module _ (q : s ≡ true) where
    halves_same : SameNames f₂ f from to
    halves_same w =
        let x = h.same e w in
        let y = k.same q w in
        let u = agreeing f₁ f middle to b (λ i c d. h.above i c) w in
        let v = agreeing f₂ f₁ from middle a (λ i c d. k.below i d) w in
        omega arith

    halves_ascending : Ascending f₂ from middle
    halves_ascending i c d = rw (k.below i (omega arith), k.below (i + 1) d) (h.ascending e i c d)

    -- They stand in order as they are.
    pub sorted_joined : {answer : Bool} → Joins f₂ middle answer → answer ≡ false → Sorted f f f₂ from to true
    sorted_joined joins apart = let seam = joins apart in record {
      below = halves_below;
      above = halves_above;
      ascending = λ _ i c d. by_less (i + 1) middle
          (λ l _. halves_ascending i c l)
          (λ m _. by_less i middle
          (λ l _. let e : i + 1 ≡ middle = omega arith in rw e (seam i e))
          (λ l _. k.ascending q i l d));
      same = λ _ w. halves_same w;
      repeated = λ t. true_false refl t;
    }

    module _ {g : ℕ → Name} (copied : (i : ℕ) → from ≤ i → i < to → g i ≡ f₂ i) where
      pub first_run : Ascending g from middle
      first_run i c d = rw (copied i c (omega arith), copied (i + 1) (omega arith) (omega arith)) (halves_ascending i c d)

      pub second_run : Ascending g middle to
      second_run i c d = rw (copied i (omega arith) (omega arith), copied (i + 1) (omega arith) d) (k.ascending q i c d)

      pub sorted_all : {f₃ : ℕ → Name} {t : Bool} → Sorted g f₂ f₃ from to t → Sorted f f f₃ from to t
      sorted_all m = record {
        below = λ i c. m.below i c ∙ halves_below i c;
        above = λ i c. m.above i c ∙ halves_above i c;
        ascending = m.ascending;
        same = λ z w. let x = m.same z w in let y = agreeing g f₂ from to (omega arith) copied w in let u = halves_same w in omega arith;
        repeated = λ z. let (w, n) = m.repeated z in let y = agreeing g f₂ from to (omega arith) copied w in let u = halves_same w in (w, omega arith);
      }

-- The names of n rows.
module _ (text : List ℕ) (rows : Rows) (n : ℕ) (lent : n ≤ length rows) where
  names_length : length (sorts_of text rows n) ≡ n
  names_length = sorts_length text rows n lent

  pub name_at_lem : (i : ℕ) → i < n → get_or (sorts_of text rows n) i [] ≡ name_at text rows i
  unfolding sorts_of name_at
  name_at_lem i l = get_d_any (sorts_of text rows n) i [] (sort_of text []) (rw names_length l) ∙ table_at (sort_of text) rows n lent i l

  repeated_not : Repeated (name_at text rows) 0 n → Distinct (sorts_of text rows n) → ⊥
  unfolding tally
  repeated_not (w, two) d =
      let (i, j, a, b, q) = counted_two (name_at text rows) w n (omega arith) in
      d i j a (rw names_length b) (name_at_lem i (omega arith) ∙ q ∙ sym (name_at_lem j b))

  distinct_yes : (f : ℕ → Name) → Ascending f 0 n → SameNames f (name_at text rows) 0 n → Distinct (sorts_of text rows n)
  unfolding tally
  distinct_yes f up same i j a b q =
      let m : j < n = rw names_length at b in
      let (w, two) = two_places (name_at text rows) 0 i j n (omega arith) a m (sym (name_at_lem i (omega arith)) ∙ q ∙ name_at_lem j m) in
      let s = same w in
      let (x, y, c, d, p) = counted_two f w n (omega arith) in
      ascending_differ f 0 n up x y (omega arith) c d p

  pub sorted_tells : {f : ℕ → Name} {r : Bool} → Sorted (name_at text rows) (name_at text rows) f 0 n r → Tells r (Distinct (sorts_of text rows n))
  sorted_tells {f} {r} h = record {
    yes = λ e. distinct_yes f (h.ascending e) (h.same e);
    back = λ d. by_bool r (λ e. e) (λ e. absurd (repeated_not (h.repeated e) d));
  }

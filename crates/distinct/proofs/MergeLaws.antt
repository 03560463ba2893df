-- The loop of `merge`: what is written so far ascends, has the names that were read, and stands before what is left of both runs.
use Prim.Native.Nat.{ℕ, ◌+◌, ◌≤◌, ◌<◌}
use native.Mathlib.Omega.{arith}
use mathlib.Core.Path.{◌≡◌, refl, sym, ap, ◌∙◌}
use mathlib.Core.Bool.{true, false}
use mathlib.Core.List.{List}
use lib.ListN.{length, set}
use lib.Seq.{get_or-set_same, get_or-set_other}
use Rattle.terms.specs.Numbers.{by_less, true_false}
use Rattle.names.specs.Names.{Name}
use Rattle.names.specs.Symbols.{Rows, row_at, sort_of}
use Rattle.distinct.specs.Order.{is_before, Ordered}
use Rattle.distinct.specs.Sorting.{name_at, once, tally, Ascending, Next, Sorted}
use Rattle.std.specs.declared.cmp.Ordering.{Ordering}
use Rattle.std.specs.declared.cmp.Ordering.TheVariants.{Less, Equal, Greater}
use Rattle.distinct.proofs.TallyLaws.{tally_next, tally_same, two_places}

-- The next name: one run is at its end, or the names of both are compared.
module _ {f : ℕ → Name} {i middle j to : ℕ} where
  pub next_second : middle ≤ i → j < to → Next f i middle j to Greater
  next_second a b = record {
    first = λ e. absurd (let z : ◌≡◌ {A = ℕ} 0 1 = cc in omega arith);
    second = λ _. (b, λ c. absurd (omega arith));
    both = λ e. absurd (let z : ◌≡◌ {A = ℕ} 0 1 = cc in omega arith);
  }

  pub next_first : i < middle → to ≤ j → Next f i middle j to Less
  next_first a b = record {
    first = λ _. (a, λ c. absurd (omega arith));
    second = λ e. absurd (let z : ◌≡◌ {A = ℕ} 0 1 = cc in omega arith);
    both = λ e. absurd (let z : ◌≡◌ {A = ℕ} 0 1 = cc in omega arith);
  }

  pub next_compared : {r : Ordering} {v w : Name} → i < middle → j < to → v ≡ f i → w ≡ f j → Ordered r v w → Next f i middle j to r
  next_compared a b p q o = record {
    first = λ e. (a, λ _. rw (p, q) at (o.before e));
    second = λ e. (b, λ _. rw (p, q) at (o.after e));
    both = λ e. (a, b, sym p ∙ o.same e ∙ q);
  }

-- Of the run of f from a to a' the first i - a names are read, of that from b to b' the first j - b; they stand in g from `from` on and before k.
pub record Merging (f g₀ g : ℕ → Name) (from to a i a' b j b' k : ℕ) : Type 0 where
  pub start : a ≤ i
  pub end : i ≤ a'
  pub other_start : b ≤ j
  pub other_end : j ≤ b'
  pub within : from ≤ k
  pub at : k + a + b ≡ from + i + j
  pub counted : (w : Name) → tally g w k + (tally f w a + tally f w b) ≡ tally g w from + (tally f w i + tally f w j)
  pub ascending : Ascending g from k
  pub last : (x : ℕ) → from ≤ x → x + 1 ≡ k → i < a' → is_before (g x) (f i) ≡ true
  pub other_last : (x : ℕ) → from ≤ x → x + 1 ≡ k → j < b' → is_before (g x) (f j) ≡ true
  pub below : (x : ℕ) → x < from → g x ≡ g₀ x
  pub above : (x : ℕ) → to ≤ x → g x ≡ g₀ x

-- The two runs in the other order.
swapped : {f g₀ g : ℕ → Name} {from to a i a' b j b' k : ℕ} → Merging f g₀ g from to a i a' b j b' k → Merging f g₀ g from to b j b' a i a' k
swapped h = record {
  start = h.other_start;
  end = h.other_end;
  other_start = h.start;
  other_end = h.end;
  within = h.within;
  at = let e = h.at in omega arith;
  counted = λ w. let e = h.counted w in omega arith;
  ascending = h.ascending;
  last = h.other_last;
  other_last = h.last;
  below = h.below;
  above = h.above;
}

-- The next name of the first run is written.
module _ {f g₀ g : ℕ → Name} {from to a i a' b j b' k : ℕ} (g' : ℕ → Name) (h : Merging f g₀ g from to a i a' b j b' k) (up : Ascending f a a') (l : i < a') (m : k < to)
    (first : j < b' → is_before (f i) (f j) ≡ true) (here : g' k ≡ f i) (other : (x : ℕ) → (x ≡ k → ⊥) → g' x ≡ g x) where
  written_counted : (w : Name) → tally g' w (k + 1) + (tally f w a + tally f w b) ≡ tally g' w from + (tally f w (i + 1) + tally f w j)
  written_counted w =
      let n = h.within in
      let p = tally_next g' w k in
      let o : once (g' k) w ≡ once (f i) w = ap (λ (v : Name). once v w) here in
      let q = tally_same g' g w k (λ x c. other x (λ e. omega arith)) in
      let r = tally_same g' g w from (λ x c. other x (λ e. omega arith)) in
      let s = tally_next f w i in
      let t = h.counted w in
      omega arith

  written_ascending : Ascending g' from (k + 1)
  written_ascending x p q =
      by_less (x + 1) k
      (λ c _. rw (other x (λ e. omega arith), other (x + 1) (λ e. omega arith)) (h.ascending x p c))
      (λ c _. let e : x + 1 ≡ k = omega arith in rw (other x (λ e₁. omega arith), e, here) (h.last x p e l))

  written : Merging f g₀ g' from to a (i + 1) a' b j b' (k + 1)
  written = record {
    start = let n = h.start in omega arith;
    end = omega arith;
    other_start = h.other_start;
    other_end = h.other_end;
    within = let n = h.within in omega arith;
    at = let e = h.at in omega arith;
    counted = written_counted;
    ascending = written_ascending;
    last = λ x p q c. let e : x ≡ k = omega arith in rw (e, here) (up i h.start c);
    other_last = λ x p q c. let e : x ≡ k = omega arith in rw (e, here) (first c);
    below = λ x c. let n = h.within in other x (λ e. omega arith) ∙ h.below x c;
    above = λ x c. other x (λ e. omega arith) ∙ h.above x c;
  }

pub merge_start : (f g : ℕ → Name) (from middle to : ℕ) → from ≤ middle → middle ≤ to → Merging f g g from to from from middle middle middle to from
merge_start f g from middle to a b = record {
  start = omega arith;
  end = a;
  other_start = omega arith;
  other_end = b;
  within = omega arith;
  at = omega arith;
  counted = λ w. omega arith;
  ascending = λ x p q. absurd (omega arith);
  last = λ x p q c. absurd (omega arith);
  other_last = λ x p q c. absurd (omega arith);
  below = λ x c. refl;
  above = λ x c. refl;
}

-- The loop over rows.
module _ (text : List ℕ) (spare before places : Rows) {from middle to i j k : ℕ}
    (h : Merging (name_at text spare) (name_at text before) (name_at text places) from to from i middle middle j to k) where
  pub merge_first : Ascending (name_at text spare) from middle → {r : Ordering} → Next (name_at text spare) i middle j to r → r ≡ Less → k < to → k < length places
      → Merging (name_at text spare) (name_at text before) (name_at text (set places k (row_at spare i))) from to from (i + 1) middle middle j to (k + 1)
  unfolding name_at
  merge_first up n e m c =
      written (name_at text (set places k (row_at spare i))) h up (n.first e).0 m (n.first e).1
      (ap (sort_of text) (get_or-set_same places k (row_at spare i) _ c)) (λ x d. ap (sort_of text) (get_or-set_other places k x (row_at spare i) _ d))

  pub merge_second : Ascending (name_at text spare) middle to → {r : Ordering} → Next (name_at text spare) i middle j to r → r ≡ Greater → k < to → k < length places
      → Merging (name_at text spare) (name_at text before) (name_at text (set places k (row_at spare j))) from to from i middle middle (j + 1) to (k + 1)
  unfolding name_at
  merge_second up n e m c =
      swapped (written (name_at text (set places k (row_at spare j))) (swapped h) up (n.second e).0 m (n.second e).1
      (ap (sort_of text) (get_or-set_same places k (row_at spare j) _ c)) (λ x d. ap (sort_of text) (get_or-set_other places k x (row_at spare j) _ d)))

  pub merge_both : {r : Ordering} → Next (name_at text spare) i middle j to r → r ≡ Equal → Sorted (name_at text spare) (name_at text before) (name_at text places) from to false
  merge_both n e =
      let (a, b, q) = n.both e in
      let c = h.start in
      let d = h.other_start in
      record {
        below = h.below;
        above = h.above;
        ascending = λ t. true_false t refl;
        same = λ t. true_false t refl;
        repeated = λ _. two_places (name_at text spare) from i j to c (omega arith) b q;
      }

  pub merge_end : to ≤ k → Sorted (name_at text spare) (name_at text before) (name_at text places) from to true
  merge_end c =
      let p = h.end in
      let q = h.other_end in
      let r = h.at in
      let ei : i ≡ middle = omega arith in
      let ej : j ≡ to = omega arith in
      let ek : k ≡ to = omega arith in
      record {
        below = h.below;
        above = h.above;
        ascending = λ _. rw ek at h.ascending;
        same = λ _ w. let t = rw (ei, ej, ek) at (h.counted w) in omega arith;
        repeated = λ t. true_false refl t;
      }

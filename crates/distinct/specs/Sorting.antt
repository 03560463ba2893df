-- Sorting by merging. A table is looked at as a sequence of names; that two sequences have the same names is said by counting each.
use Rattle.std.specs.Prelude.{ℕ, zero, suc, ◌+◌, ◌≤◌, ◌<◌, ◌≡◌, Bool, true, false, cond, List}
use Rattle.source_text.specs.Bytes.{same_bytes}
use Rattle.names.specs.Names.{Name}
use Rattle.names.specs.Symbols.{Rows, row_at, sort_of}
use Rattle.distinct.specs.Order.{is_before}
use Rattle.std.specs.declared.cmp.Ordering.{Ordering}
use Rattle.std.specs.declared.cmp.Ordering.TheVariants.{Less, Equal, Greater}

-- The name of row i.
unfoldable pub name_at : List ℕ → Rows → ℕ → Name
name_at text rows i = sort_of text (row_at rows i)

-- 1 for the same name, 0 for another.
unfoldable pub once : Name → Name → ℕ
once v w = cond (same_bytes v w) 1 0

-- How many of the first k names are w.
unfoldable pub tally : (ℕ → Name) → Name → ℕ → ℕ
tally f w zero = 0
tally f w (suc k) = once (f k) w + tally f w k

-- From `from` on and before `to`: each name stands before the next;
abbrev pub Ascending : (ℕ → Name) → ℕ → ℕ → Type 0
Ascending f from to = (i : ℕ) → from ≤ i → i + 1 < to → is_before (f i) (f (i + 1)) ≡ true

-- where the answer is no, the name before `middle` stands before the one there;
abbrev pub Joins : (ℕ → Name) → ℕ → Bool → Type 0
Joins f middle answer = answer ≡ false → (i : ℕ) → i + 1 ≡ middle → is_before (f i) (f middle) ≡ true

-- f and g have the same names, each as often;
abbrev pub SameNames : (ℕ → Name) → (ℕ → Name) → ℕ → ℕ → Type 0
SameNames f g from to = (w : Name) → tally f w to + tally g w from ≡ tally g w to + tally f w from

-- some name stands there twice.
abbrev pub Repeated : (ℕ → Name) → ℕ → ℕ → Type 0
Repeated f from to = (w : Name) × (2 + tally f w from ≤ tally f w to)

-- Of two runs whose next names are at i and j, which end before `middle` and `to`: the first has the next name, or the second, or both have it.
pub record Next (f : ℕ → Name) (i middle j to : ℕ) (r : Ordering) : Type 0 where
  pub first : r ≡ Less → (i < middle) × (j < to → is_before (f i) (f j) ≡ true)
  pub second : r ≡ Greater → (j < to) × (i < middle → is_before (f j) (f i) ≡ true)
  pub both : r ≡ Equal → (i < middle) × (j < to) × (f i ≡ f j)

-- The names of f from `from` on and before `to` ascend in g' there, or one of them stands twice; elsewhere g' is g.
pub record Sorted (f g g' : ℕ → Name) (from to : ℕ) (answer : Bool) : Type 0 where
  pub below : (i : ℕ) → i < from → g' i ≡ g i
  pub above : (i : ℕ) → to ≤ i → g' i ≡ g i
  pub ascending : answer ≡ true → Ascending g' from to
  pub same : answer ≡ true → SameNames g' f from to
  pub repeated : answer ≡ false → Repeated f from to

-- The tests on one word, by their cases; and the pass that checks words, each turn of which is one step of the definition.
use Prim.Native.Nat.{ℕ, zero, suc, ◌+◌, ◌-◌, ◌≤◌, ◌<◌}
use native.Mathlib.Omega.{arith}
use native.Mathlib.Numerals.{add-one}
use mathlib.Core.Path.{◌≡◌, refl}
use mathlib.Core.Bool.{true, false, not}
use mathlib.Core.List.{List}
use lib.ListN.{get_or, length}
use lib.Seq.{slice, slice-cons, slice_empty}
use lib.Dec.{eqb, leb, ltb}
use borrow.Author.Tests.{ne_eqb, le-leb, lt-leb}
use Rattle.terms.specs.Numbers.{less, less_yes, less_no, by_less, same_refl, same_ne}
use Rattle.arena.specs.Cells.{headers, symbol_of, arity_of}
use Rattle.arena.specs.Form.{inputs, is_header, Place, is_argument, nodes}

-- At most, as not less the other way round.
at_most : (a b : ℕ) → leb a b ≡ not (less b a)
at_most a b = by_less b a (λ l e. rw e (lt-leb a b l)) (λ l e. rw e (le-leb a b l))

module _ (arities : List ℕ) (h : ℕ) where
  pub header_low : h < headers → is_header arities h ≡ false
  unfolding is_header
  header_low l = rw (less_yes l)

  pub header_unknown : headers ≤ h → length arities ≤ symbol_of h → is_header arities h ≡ false
  unfolding is_header
  header_unknown l m = rw (less_no l, less_no m)

  pub header_other : headers ≤ h → symbol_of h < length arities → (arity_of h ≡ get_or arities (symbol_of h) 0 → ⊥) → is_header arities h ≡ false
  unfolding is_header
  header_other l m n = rw (less_no l, less_yes m, same_ne n)

  pub header_own : headers ≤ h → symbol_of h < length arities → arity_of h ≡ get_or arities (symbol_of h) 0 → leb (arity_of h) inputs ≡ is_header arities h
  unfolding is_header
  header_own l m e = rw (less_no l, less_yes m, ← e, same_refl (arity_of h)) (at_most (arity_of h) inputs)

module _ (p : Place) (a r : ℕ) where
  pub argument_variable : r < p.room → ltb r p.variables ≡ is_argument p a r
  unfolding is_argument less
  argument_variable l = let e = less_yes l in rw e

  pub argument_outside : p.room ≤ r → r < p.room + p.from → is_argument p a r ≡ false
  unfolding is_argument
  argument_outside l m = rw (less_no l, less_yes m)

  pub argument_above : p.room ≤ r → p.room + p.from ≤ r → p.room + a ≤ r → is_argument p a r ≡ false
  unfolding is_argument
  argument_above l m n = rw (less_no l, less_no m, less_no n)

  pub argument_node : p.room ≤ r → p.room + p.from ≤ r → r < p.room + a → leb headers (get_or p.words (r - p.room) 0) ≡ is_argument p a r
  unfolding is_argument
  argument_node l m n = rw (less_no l, less_no m, less_yes n) (at_most headers (get_or p.words (r - p.room) 0))

module _ (p : Place) (arities words : List ℕ) (to : ℕ) (long : to ≤ length words) where
  -- A header where one is due.
  pub header_step : (at node left : ℕ) → at < to → left ≡ 0 → is_header arities (get_or words at 0) ≡ true
      → nodes p arities (slice at to words) at node left ≡ nodes p arities (slice (at + 1) to words) (at + 1) at (arity_of (get_or words at 0))
  header_step at node left l z e = rw (z, slice-cons at to words 0 l long, e, add-one at)

  pub header_stop : (at node left : ℕ) → at < to → left ≡ 0 → is_header arities (get_or words at 0) ≡ false → nodes p arities (slice at to words) at node left ≡ false
  header_stop at node left l z e = rw (z, slice-cons at to words 0 l long, e)

  -- An argument where one is due.
  pub argument_step : (at node left : ℕ) → at < to → (left ≡ 0 → ⊥) → is_argument p node (get_or words at 0) ≡ true
      → nodes p arities (slice at to words) at node left ≡ nodes p arities (slice (at + 1) to words) (at + 1) node (left - 1)
  argument_step at node zero l z e = absurd (z refl)
  argument_step at node (suc left) l z e = let d : suc left - 1 ≡ left = omega arith in rw (d, slice-cons at to words 0 l long, e, add-one at)

  pub argument_stop : (at node left : ℕ) → at < to → (left ≡ 0 → ⊥) → is_argument p node (get_or words at 0) ≡ false → nodes p arities (slice at to words) at node left ≡ false
  argument_stop at node zero l z e = absurd (z refl)
  argument_stop at node (suc left) l z e = rw (slice-cons at to words 0 l long, e)

  -- The end.
  pub end_step : (at node left : ℕ) → at ≡ to → nodes p arities (slice at to words) at node left ≡ eqb left 0
  end_step at node zero d = rw (d, slice_empty to words)
  end_step at node (suc left) d = rw (d, slice_empty to words, ne_eqb (suc left) 0 (λ z. omega arith))

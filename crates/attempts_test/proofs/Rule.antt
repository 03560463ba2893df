-- The program's rule is in form: succ (succ (succ (succ x))) from pair x y and succ y, whose variables x and y have the numbers 1 and 0 and are met
-- in the order x, y.
use Prim.Native.Nat.{ℕ, zero, suc, ◌+◌, ◌-◌, ◌≤◌, ◌<◌}
use native.Mathlib.Omega.{arith}
use mathlib.Core.Path.{◌≡◌, refl}
use mathlib.Core.Bool.{true}
use mathlib.Core.List.{List, [], ◌∷◌}
use lib.ListN.{get_or, length}
use Rattle.terms.specs.Numbers.{same, less, by_same, true_false}
use Rattle.arena.specs.Cells.{headers, decode, denote, WellFormed, cells}
use Rattle.arena.specs.Copies.{pattern_room}
use Rattle.arena.specs.Form.{is_header, is_argument, in_form}
use Rattle.resolution.specs.Fresh.{elem, place}
use Rattle.attempts.specs.StoredRules.{rule_of, Part, Root, StoredRule}
use Rattle.attempts.specs.Accepting.{part_accepted}
use Rattle.attempts.specs.declared.Stored.{Stored}

abbrev pub pattern : List ℕ
pattern = 1048642 ∷ 1 ∷ 0 ∷ 1048609 ∷ 0 ∷ 1048609 ∷ 1 ∷ 1048609 ∷ 69 ∷ 1048609 ∷ 71 ∷ 1048609 ∷ 73 ∷ []

abbrev pub premises : List ℕ
premises = 64 ∷ 67 ∷ []

abbrev pub places : List ℕ
places = 1 ∷ 0 ∷ []

abbrev pub stored : Stored
stored = record { from = 0; head = 8; body = 5; conclusion = 75; met = 1; variables = 2 }

-- The known symbols: a constant, succ and pair.
abbrev arities : List ℕ
arities = 0 ∷ 1 ∷ 2 ∷ []

nothing_formed : WellFormed pattern_room (cells pattern) pattern_room 0
nothing_formed = record { fits = λ a l. let z : ⊥ = omega arith in absurd z; arguments = λ a i l. let z : ⊥ = omega arith in absurd z }

-- The premises have two variables.
premise_variables : (i : ℕ) → i < 5 → get_or pattern i 0 < pattern_room → (get_or pattern i 0 < length places) × (get_or places (get_or pattern i 0) 0 < 2)
premise_variables zero l v = absurd (omega arith)
premise_variables (suc zero) l v = (omega arith, omega arith)
premise_variables (suc (suc zero)) l v = (omega arith, omega arith)
premise_variables (suc (suc (suc zero))) l v = absurd (omega arith)
premise_variables (suc (suc (suc (suc zero)))) l v = (omega arith, omega arith)
premise_variables (suc (suc (suc (suc (suc i))))) l v = absurd (omega arith)

-- The conclusion has one, and its place is 0.
conclusion_variables : (i : ℕ) → i < 8 → get_or pattern (5 + i) 0 < pattern_room → (get_or pattern (5 + i) 0 < length places) × (get_or places (get_or pattern (5 + i) 0) 0 < 1)
conclusion_variables zero l v = absurd (omega arith)
conclusion_variables (suc zero) l v = (omega arith, omega arith)
conclusion_variables (suc (suc zero)) l v = absurd (omega arith)
conclusion_variables (suc (suc (suc zero))) l v = absurd (omega arith)
conclusion_variables (suc (suc (suc (suc zero)))) l v = absurd (omega arith)
conclusion_variables (suc (suc (suc (suc (suc zero))))) l v = absurd (omega arith)
conclusion_variables (suc (suc (suc (suc (suc (suc zero)))))) l v = absurd (omega arith)
conclusion_variables (suc (suc (suc (suc (suc (suc (suc zero))))))) l v = absurd (omega arith)
conclusion_variables (suc (suc (suc (suc (suc (suc (suc (suc i)))))))) l v = absurd (omega arith)

body_part_lem : Part pattern places 0 5 2
unfolding in_form is_header is_argument less same
body_part_lem =
    part_accepted pattern places arities 0 5 2 (omega arith) (omega arith) refl nothing_formed
    (λ i l v. let e : 0 + i ≡ i = omega arith in rw e (premise_variables i l (rw e at v)))

head_part_lem : Part pattern places 5 8 1
unfolding in_form is_header is_argument less same
head_part_lem = part_accepted pattern places arities 5 8 1 (omega arith) (omega arith) refl body_part_lem.formed conclusion_variables

-- The places are those in meeting order.
places_met : (x : ℕ) → elem x (1 ∷ 0 ∷ []) ≡ true → get_or places x 0 ≡ place (1 ∷ 0 ∷ []) x
unfolding same
places_met x h = by_same x 1 (λ p e. rw p refl) (λ p e. by_same x 0 (λ q f. rw q refl) (λ q f. true_false h (rw (e, f) refl)))

premise_root : (r : ℕ) → 64 ≤ r → r < 69 → headers ≤ get_or pattern (r - 64) 0 → Root pattern places 0 5 2 r
premise_root r l m h = record {
  listed = λ v. absurd (omega arith);
  numbered = λ v. absurd (omega arith);
  from_on = λ v. omega arith;
  below = λ v. omega arith;
  header = λ v. h;
}

pub stored_rule : StoredRule pattern premises places stored
unfolding rule_of denote decode less same
stored_rule = record {
  body_part = body_part_lem;
  head_part = head_part_lem;
  premise = λ i l. by_same i 0 (λ p e. rw p (premise_root 64 (omega arith) (omega arith) (omega arith)))
      (λ p e. let q : i ≡ 1 = omega arith in rw q (premise_root 67 (omega arith) (omega arith) (omega arith)));
  conclusion = record { listed = λ v. absurd (omega arith); numbered = λ v. absurd (omega arith); from_on = λ v. omega arith; below = λ v. omega arith; header = λ v. omega arith };
  head_words = refl;
  body_words = refl;
  head_variables = refl;
  all_variables = refl;
  few = omega arith;
  placed = λ x h. places_met x h;
}

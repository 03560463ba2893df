-- Parts that `check_words` accepts, and a stored rule in form as an example: le (succ y) (succ x) from le y x, whose variables x and y have the
-- numbers 0 and 1 and are met in the order y, x.
use Rattle.std.specs.Prelude.{ℕ, zero, suc, ◌+◌, ◌≤◌, ◌<◌, ◌≡◌, refl, true, List, [], ◌∷◌, get_or, length}
use Rattle.std.proofs.Common.{arith}
use Rattle.terms.specs.Numbers.{same, less, by_same, true_false}
use Rattle.arena.specs.Cells.{headers, decode, denote, WellFormed, cells}
use Rattle.arena.specs.Copies.{pattern_room}
use Rattle.arena.specs.Form.{is_header, is_argument, in_form}
use Rattle.arena.specs.FormLaws.{form_words, form_formed}
use Rattle.resolution.specs.Fresh.{elem, place, all_vars}
use Rattle.attempts.specs.StoredRules.{rule_of, Part, StoredRule, RuleInForm}
use Rattle.attempts.specs.declared.Stored.{Stored}

-- A part that is accepted behind well formed words, with a place below n for each of its variables, can be copied.
pub part_accepted : (pattern places arities : List ℕ) (from count n : ℕ) → from + count ≤ length pattern → pattern_room + from + count ≤ headers
    → in_form pattern from (from + count) pattern_room pattern_room arities ≡ true → WellFormed pattern_room (cells pattern) pattern_room from
    → ((i : ℕ) → i < count → get_or pattern (from + i) 0 < pattern_room → (get_or pattern (from + i) 0 < length places) × (get_or places (get_or pattern (from + i) 0) 0 < n))
    → Part pattern places from count n
part_accepted pattern places arities from count n there low accept before numbers =
    let each = form_words pattern from (from + count) pattern_room pattern_room arities (omega arith) there (omega arith) accept in
    record {
      there = there;
      low = low;
      formed = form_formed pattern from (from + count) pattern_room pattern_room arities (omega arith) there (omega arith) accept before;
      listed = λ i l v. (numbers i l v).0;
      numbered = λ i l v. (numbers i l v).1;
      inside = λ i l v h. (each i (omega arith)).from_on v h;
      address = λ i l v h. let b = (each i (omega arith)).below v h in omega arith;
    }

-- The words: the premise at 0, succ y at 3, succ x at 5, the conclusion at 7.
abbrev pub example_pattern : List ℕ
example_pattern = 1048610 ∷ 1 ∷ 0 ∷ 1048577 ∷ 1 ∷ 1048577 ∷ 0 ∷ 1048610 ∷ 67 ∷ 69 ∷ []

abbrev pub example_places : List ℕ
example_places = 1 ∷ 0 ∷ []

abbrev pub example_stored : Stored
example_stored = record { from = 0; head = 7; body = 3; conclusion = 71; met = 2; variables = 2 }

nothing_formed : WellFormed pattern_room (cells example_pattern) pattern_room 0
nothing_formed = record { fits = λ a l. let z : ⊥ = omega arith in absurd z; arguments = λ a i l. let z : ⊥ = omega arith in absurd z }

-- Each variable of the rule has a place among two.
two : (x : ℕ) → x < 2 → (x < length example_places) × (get_or example_places x 0 < 2)
two x l = by_same x 0 (λ p e. rw p (omega arith, omega arith)) (λ p e. let q : x ≡ 1 = omega arith in rw q (omega arith, omega arith))

variables_two : (i : ℕ) → i < 10 → get_or example_pattern i 0 < pattern_room → get_or example_pattern i 0 < 2
variables_two zero l v = omega arith
variables_two (suc zero) l v = omega arith
variables_two (suc (suc zero)) l v = omega arith
variables_two (suc (suc (suc zero))) l v = omega arith
variables_two (suc (suc (suc (suc zero)))) l v = omega arith
variables_two (suc (suc (suc (suc (suc zero))))) l v = omega arith
variables_two (suc (suc (suc (suc (suc (suc zero)))))) l v = omega arith
variables_two (suc (suc (suc (suc (suc (suc (suc zero))))))) l v = omega arith
variables_two (suc (suc (suc (suc (suc (suc (suc (suc zero)))))))) l v = omega arith
variables_two (suc (suc (suc (suc (suc (suc (suc (suc (suc zero))))))))) l v = omega arith
variables_two (suc (suc (suc (suc (suc (suc (suc (suc (suc (suc i)))))))))) l v = absurd (omega arith)

body_part_lem : Part example_pattern example_places 0 3 2
unfolding in_form is_header is_argument less same
body_part_lem = part_accepted example_pattern example_places (1 ∷ 2 ∷ []) 0 3 2 (omega arith) (omega arith) refl nothing_formed (λ i l v. two (get_or example_pattern (0 + i) 0) (variables_two (0 + i) (omega arith) v))

head_part_lem : Part example_pattern example_places 3 7 2
unfolding in_form is_header is_argument less same
head_part_lem =
    part_accepted example_pattern example_places (1 ∷ 2 ∷ []) 3 7 2 (omega arith) (omega arith) refl body_part_lem.formed
    (λ i l v. two (get_or example_pattern (3 + i) 0) (variables_two (3 + i) (omega arith) v))

met_two : all_vars (rule_of example_pattern (64 ∷ []) example_stored) ≡ 1 ∷ 0 ∷ []
unfolding rule_of denote decode less same
met_two = refl

places_met : (x : ℕ) → elem x (1 ∷ 0 ∷ []) ≡ true → get_or example_places x 0 ≡ place (1 ∷ 0 ∷ []) x
unfolding same
places_met x h = by_same x 1 (λ p e. rw p refl) (λ p e. by_same x 0 (λ q f. rw q refl) (λ q f. true_false h (rw (e, f) refl)))

pub stored_example : StoredRule example_pattern (64 ∷ []) example_places example_stored
unfolding rule_of denote decode less same
stored_example = record {
  body_part = body_part_lem;
  head_part = head_part_lem;
  premise = λ i l. let e : i ≡ 0 = omega arith in rw e (record { listed = λ v. absurd (omega arith); numbered = λ v. absurd (omega arith); from_on = λ v. omega arith; below = λ v. omega arith; header = λ v. omega arith });
  conclusion = record { listed = λ v. absurd (omega arith); numbered = λ v. absurd (omega arith); from_on = λ v. omega arith; below = λ v. omega arith; header = λ v. omega arith };
  head_words = refl;
  body_words = refl;
  head_variables = refl;
  all_variables = refl;
  few = omega arith;
  placed = λ x h. places_met x h;
}

-- Its words are in form over the arities of succ and le.
pub example_in_form : RuleInForm example_pattern example_stored (1 ∷ 2 ∷ [])
unfolding in_form is_header is_argument less same
example_in_form = record { premises = refl; conclusion = refl }

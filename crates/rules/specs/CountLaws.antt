-- Laws of counting a rule's variables: if those met in the premises and then in the conclusion are the numbers below n, in order, then a fresh instance,
-- which meets them in another order, meets the same n variables.
use Rattle.std.specs.Prelude.{ℕ, zero, suc, ◌≤◌, ◌<◌, ◌≡◌, refl, Bool, true, false, ◌||◌, cond, List, [], ◌∷◌, ◌++◌, length}
use Rattle.std.proofs.Common.{arith, sym, ap, ◌∙◌}
use Rattle.terms.specs.Numbers.{same, less, by_bool, true_false, same_refl, same_true, same_sym, by_same, less_yes, less_no, by_less, or_false, or_right, or_assoc, or_no}
use Rattle.terms.specs.Term.{Kind, Syn, var, app, nil, cons, Terms, mem}
use Rattle.resolution.specs.Rules.{Rule}
use Rattle.resolution.specs.Fresh.{elem, met, met_back, head_vars, all_vars}
use Rattle.meeting.specs.Places.{numbers_below}
use Rattle.meeting.specs.PlaceLaws.{numbers_count}

-- Members

-- In two lists one behind the other are the members of both.
elem_both : (x : ℕ) (e s : List ℕ) → elem x (e ++ s) ≡ (elem x e || elem x s)
elem_both x [] s = refl
elem_both x (y ∷ e) s = ap (λ (b : Bool). same x y || b) (elem_both x e s) ∙ sym (or_assoc (same x y) (elem x e) (elem x s))

-- A variable behind a list.
elem_behind : (x y : ℕ) (e : List ℕ) → elem x (e ++ (y ∷ [])) ≡ (elem x e || same x y)
elem_behind x y e = elem_both x e (y ∷ []) ∙ ap (λ (b : Bool). elem x e || b) (or_no (same x y))

-- A member put in again changes nothing.
elem_again : (x y : ℕ) (e : List ℕ) → elem y e ≡ true → elem x e ≡ (elem x e || same x y)
elem_again x y e h = by_same x y
    (λ q p. let m : elem x e ≡ true = rw q h in m ∙ sym (or_right (elem x e) (same x y) p))
    (λ q p. rw p (sym (or_no (elem x e))))

-- Met are the variables met before, and those that occur.
pub elem_met : {s : Kind} (x : ℕ) (t : Syn s) (e : List ℕ) → elem x (met t e) ≡ (elem x e || mem x t)
unfolding mem
elem_met x (var y) e = by_bool (elem y e) (λ p. rw p (elem_again x y e p)) (λ p. rw p (elem_behind x y e))
elem_met x (app f ts) e = elem_met x ts e
elem_met x nil e = sym (or_no (elem x e))
elem_met x (cons t ts) e =
    elem_met x ts (met t e) ∙ ap (λ (b : Bool). b || mem x ts) (elem_met x t e) ∙ or_assoc (elem x e) (mem x t) (mem x ts)

-- The last two of three questions change places.
or_swap : (a b c : Bool) → ((a || b) || c) ≡ (a || (c || b))
or_swap true b c = refl
or_swap false true true = refl
or_swap false true false = refl
or_swap false false true = refl
or_swap false false false = refl

-- The same if the last term is met first.
pub elem_met_back : (x : ℕ) (ts : Terms) (e : List ℕ) → elem x (met_back ts e) ≡ (elem x e || mem x ts)
unfolding mem
elem_met_back x nil e = sym (or_no (elem x e))
elem_met_back x (cons t ts) e =
    elem_met x t (met_back ts e) ∙ ap (λ (b : Bool). b || mem x t) (elem_met_back x ts e) ∙ or_swap (elem x e) (mem x ts) (mem x t)

-- Numbers below n

-- Their members are the numbers less than n.
elem_numbers : (x n : ℕ) → elem x (numbers_below n) ≡ less x n
elem_numbers x zero = sym (less_no {x = x} {y = 0} (omega arith))
elem_numbers x (suc n) = elem_behind x n (numbers_below n) ∙ ap (λ (b : Bool). b || same x n) (elem_numbers x n) ∙ by_same x n
    (λ q p. or_right (less x n) (same x n) p ∙ sym (less_yes {x = x} {y = suc n} (omega arith)))
    (λ q p. rw p (or_no (less x n) ∙ by_less x n
    (λ l r. r ∙ sym (less_yes {x = x} {y = suc n} (omega arith)))
    (λ l r. r ∙ sym (less_no {x = x} {y = suc n} (by_less n x (λ k s. k) (λ k s. absurd (q (omega arith))))))))

-- Lists in which nothing stands twice

-- No member stands twice.
abbrev pub Distinct : List ℕ → Type 0
Distinct [] = Unit {0}
Distinct (x ∷ e) = (elem x e ≡ false) × Distinct e

-- A new member behind such a list.
distinct_behind : (x : ℕ) (e : List ℕ) → elem x e ≡ false → Distinct e → Distinct (e ++ (x ∷ []))
distinct_behind x [] h d = (refl, tt)
distinct_behind x (y ∷ e) h d =
    let (p, q) = or_false (same x y) (elem x e) h in
    (elem_behind y x e ∙ rw (d.0, same_sym y x, p), distinct_behind x e q d.1)

-- Meeting a term makes no variable stand twice,
pub met_distinct : {s : Kind} (t : Syn s) (e : List ℕ) → Distinct e → Distinct (met t e)
met_distinct (var x) e d = by_bool (elem x e) (λ p. rw p d) (λ p. rw p (distinct_behind x e p d))
met_distinct (app f ts) e d = met_distinct ts e d
met_distinct nil e d = d
met_distinct (cons t ts) e d = met_distinct ts (met t e) (met_distinct t e d)

-- nor does meeting the last term first.
pub met_back_distinct : (ts : Terms) (e : List ℕ) → Distinct e → Distinct (met_back ts e)
met_back_distinct nil e d = d
met_back_distinct (cons t ts) e d = met_distinct t (met_back ts e) (met_back_distinct ts e d)

-- The list without x where it first stands.
without : ℕ → List ℕ → List ℕ
without x [] = []
without x (y ∷ e) = cond (same x y) e (y ∷ without x e)

-- It is shorter by one if x is a member,
without_count : (x : ℕ) (e : List ℕ) → elem x e ≡ true → suc (length (without x e)) ≡ length e
unfolding without
without_count x [] h = true_false h refl
without_count x (y ∷ e) h = by_bool (same x y) (λ p. rw p) (λ p. rw p (ap suc (without_count x e (rw p at h))))

-- and has the other members.
without_elem : (x z : ℕ) (e : List ℕ) → same z x ≡ false → elem z (without x e) ≡ elem z e
unfolding without
without_elem x z [] n = refl
without_elem x z (y ∷ e) n = by_bool (same x y)
    (λ p. let m : same z y ≡ false = rw (same_true p) at n in rw (p, m))
    (λ p. rw p (ap (λ (b : Bool). same z y || b) (without_elem x z e n)))

-- If all members of one list are in another, it is not longer.
pub distinct_le : (e e' : List ℕ) → Distinct e → ((x : ℕ) → elem x e ≡ true → elem x e' ≡ true) → length e ≤ length e'
distinct_le [] e' d h = omega arith
distinct_le (x ∷ e) e' d h =
    let c = without_count x e' (h x (rw (same_refl x))) in
    let l = distinct_le e (without x e') d.1
    (λ z m. let n : same z x ≡ false = by_same z x (λ q p. true_false m (rw q d.0)) (λ q p. p) in
    without_elem x z e' n ∙ h z (rw (n, m))) in
    omega arith

-- Two such lists with the same members have the same length.
pub distinct_count : (e e' : List ℕ) → Distinct e → Distinct e' → ((x : ℕ) → elem x e ≡ elem x e') → length e ≡ length e'
distinct_count e e' d d' h =
    let a = distinct_le e e' d (λ x m. sym (h x) ∙ m) in
    let b = distinct_le e' e d' (λ x m. h x ∙ m) in
    omega arith

-- A rule's variables

-- Both orders meet the same variables.
pub elem_all : (x : ℕ) (R : Rule) → elem x (all_vars R) ≡ elem x (met R.conclusion (met R.premises []))
elem_all x R =
    elem_met_back x R.premises (head_vars R) ∙ ap (λ (b : Bool). b || mem x R.premises) (elem_met x R.conclusion [])
    ∙ or_swap false (mem x R.conclusion) (mem x R.premises)
    ∙ sym (elem_met x R.conclusion (met R.premises []) ∙ ap (λ (b : Bool). b || mem x R.conclusion) (elem_met x R.premises []))

module _ (R : Rule) (n : ℕ) (h : met R.conclusion (met R.premises []) ≡ numbers_below n) where
  -- A fresh instance meets as many variables as there are numbers below n.
  pub all_count : length (all_vars R) ≡ n
  all_count =
      distinct_count (all_vars R) (met R.conclusion (met R.premises []))
      (met_back_distinct R.premises (head_vars R) (met_distinct R.conclusion [] tt))
      (met_distinct R.conclusion (met R.premises []) (met_distinct R.premises [] tt))
      (λ x. elem_all x R)
      ∙ ap length h ∙ numbers_count n

  -- Its variables are the numbers less than n:
  pub all_less : (x : ℕ) → elem x (all_vars R) ≡ less x n
  all_less x = elem_all x R ∙ ap (elem x) h ∙ elem_numbers x n

  -- each number below n is one of them,
  pub all_met : (x : ℕ) → x < n → elem x (all_vars R) ≡ true
  all_met x l = all_less x ∙ less_yes l

  -- and each of them is below n.
  pub all_below : (x : ℕ) → elem x (all_vars R) ≡ true → x < n
  all_below x p = by_less x n (λ l r. l) (λ l r. true_false p (all_less x ∙ r))

-- What a numeral is refused for before anything is built.
use Prim.Native.Nat.{ℕ, zero, suc, ◌+◌, ◌-◌, ◌≤◌, ◌<◌, min}
use native.Mathlib.Omega.{arith}
use mathlib.Core.Path.{◌≡◌, refl, sym, ◌∙◌}
use mathlib.Core.Bool.{Bool, true, false, cond, not, ◌&&◌}
use mathlib.Core.List.{List}
use lib.Dec.{eqb, ltb}
use lib.ListN.{length}
use borrow.Author.Tests.{eq-eqb, ne_eqb, lt-ltb, le-ltb, eqb-true, ltb-false, not-false}
use Rattle.std.specs.Prelude.{Result, Ok, Err}
use Rattle.refusals.specs.declared.Refusal.{Refusal}
use Rattle.refusals.specs.Refusals.{number_of}
use Rattle.terms.specs.Numbers.{by_less}
use Rattle.names.specs.Symbols.{Rows, column, row_at, symbols_of}
use Rattle.term_parser.specs.Source.{one as single}
use Rattle.resolution.specs.Rules.{Rule}
use Rattle.evaluation.specs.Expressions.{Evaluated, failed, unless, numeral_misuse}
use Rattle.forward_calls.proofs.Tables.{arity_at_lem}
use Rattle.expressions.specs.Nodes.{Finds}

-- A misuse is the answer, whatever would come after it.
pub unless_some : (e : ℕ) (f : ℕ → Evaluated single) → (e ≡ 0 → ⊥) → unless e f ≡ failed e
unless_some zero f h = absurd (h refl)
unless_some (suc e) f h = refl

-- In numbers: y has a inputs, z has b.
abbrev pub refusal_of : ℕ → ℕ → ℕ → ℕ → ℕ
refusal_of a b n depth = cond (ltb 0 n && not (eqb a 1)) 21 (cond (ltb 128 (depth + n)) 29 (cond (eqb b 0) 0 21))

no_test : (a n : ℕ) → (0 < n → a ≡ 1) → (ltb 0 n && not (eqb a 1)) ≡ false
no_test a n h = by_less 0 n (λ l e. rw (lt-ltb 0 n l, eq-eqb a 1 (h l))) (λ l e. rw (le-ltb 0 n l))

module _ (text : List ℕ) (symbols : Rows) (count y z n depth : ℕ) (h : (count ≤ length symbols) × (y < count) × (z < count) × (depth ≤ 128)) (limit : ℕ) (rules : List Rule) where
  abbrev a : ℕ
  a = column (row_at symbols y) 6

  abbrev b : ℕ
  b = column (row_at symbols z) 6

  pub misuse_is : numeral_misuse limit (symbols_of text symbols count) rules y z n depth ≡ refusal_of a b n depth
  misuse_is = rw (arity_at_lem text symbols count h.0 y h.1, arity_at_lem text symbols count h.0 z h.2)

  pub misuse_inputs : 0 < n → (a ≡ 1 → ⊥) → 21 ≡ numeral_misuse limit (symbols_of text symbols count) rules y z n depth
  misuse_inputs l e = sym (misuse_is ∙ rw (lt-ltb 0 n l, ne_eqb a 1 e))

  module _ (one : 0 < n → a ≡ 1) where
    pub misuse_deep : 128 - depth < n → 29 ≡ numeral_misuse limit (symbols_of text symbols count) rules y z n depth
    misuse_deep l = let d = h.3 in sym (misuse_is ∙ rw (no_test a n one, lt-ltb 128 (depth + n) (omega arith)))

    module _ (l : n ≤ 128 - depth) where
      pub misuse_zero : (b ≡ 0 → ⊥) → 21 ≡ numeral_misuse limit (symbols_of text symbols count) rules y z n depth
      misuse_zero e = let d = h.3 in sym (misuse_is ∙ rw (no_test a n one, le-ltb 128 (depth + n) (omega arith), ne_eqb b 0 e))

      pub misuse_none : b ≡ 0 → 0 ≡ numeral_misuse limit (symbols_of text symbols count) rules y z n depth
      misuse_none e = let d = h.3 in sym (misuse_is ∙ rw (no_test a n one, le-ltb 128 (depth + n) (omega arith), eq-eqb b 0 e))

-- What is found, by the answer.
pub found_wrong : {A : Type 0} {r : Result A Refusal} {x : Refusal} {e : ℕ} → Finds r e → r ≡ Err x → (number_of x ≡ e) × (0 < e)
found_wrong h q = rw q at h

pub found_nothing : {A : Type 0} {r : Result A Refusal} {a : A} {e : ℕ} → Finds r e → r ≡ Ok a → e ≡ 0
found_nothing h q = rw q at h

-- Nothing is refused: then y has one input if there is one, it is not too deep, and z has none.
zero_tests : (s t u : Bool) → ◌≡◌ {A = ℕ} 0 (cond s 21 (cond t 29 (cond u 0 21))) → (s ≡ false) × (t ≡ false) × (u ≡ true)
zero_tests true t u e = absurd (let z : ⊥ = omega arith in z)
zero_tests false true u e = absurd (let z : ⊥ = omega arith in z)
zero_tests false false true e = (refl, refl, refl)
zero_tests false false false e = absurd (let z : ⊥ = omega arith in z)

one_input : (a n : ℕ) → (ltb 0 n && not (eqb a 1)) ≡ false → 0 < n → a ≡ 1
one_input a n e l = eqb-true a 1 (not-false (eqb a 1) (rw (lt-ltb 0 n l) at e))

pub nothing_refused : (a b n depth : ℕ) → 0 ≡ refusal_of a b n depth → (0 < n → a ≡ 1) × (depth + n ≤ 128) × (b ≡ 0)
nothing_refused a b n depth e =
    let (s, t, u) = zero_tests (ltb 0 n && not (eqb a 1)) (ltb 128 (depth + n)) (eqb b 0) e in
    (one_input a n s, ltb-false 128 (depth + n) t, eqb-true b 0 u)

-- A row has the least of the value and 2^32 - 1.
pub refusal_row : (a b v n depth : ℕ) → n ≡ min v 4294967295 → refusal_of a b v depth ≡ refusal_of a b n depth
refusal_row a b v n depth e = by_less v 4294967296
    (λ l _. let q : v ≡ n = omega arith in rw q)
    (λ l _. let q : 128 < n = omega arith in
    rw (lt-ltb 0 v (omega arith), lt-ltb 0 n (omega arith), lt-ltb 128 (depth + v) (omega arith), lt-ltb 128 (depth + n) (omega arith)))

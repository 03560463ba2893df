-- A pattern that is a variable: what is built is its value, which stands already; and it takes a value, or is compared with it.
use Prim.Native.Nat.{ℕ, zero, suc, ◌-◌, ◌≤◌, ◌<◌}
use native.Mathlib.Omega.{arith}
use mathlib.Core.Path.{◌≡◌, refl, sym, ap, subst}
use mathlib.Core.Logic.{◌≢◌}
use mathlib.Core.Bool.{Bool}
use mathlib.Core.Option.{Option, none, some}
use mathlib.Core.List.{List}
use lib.ListN.{get_or, length}
use Rattle.terms.specs.Term.{var, Term}
use Rattle.terms.specs.Term.Kind.{one as single}
use Rattle.terms.specs.Bindings.{Bindings, lookup}
use Rattle.arena.specs.Cells.{cells, denote_variable}
use Rattle.arena.specs.Copies.{pattern_room}
use Rattle.arena.specs.Rows.{Rows}
use Rattle.evaluation.specs.Matching.{Built, value_of, instantiate_of}
use Rattle.clause_matching.specs.Stored.{Valued, pattern_at}
use Rattle.std.specs.Option.{SomeIff, ok_or}
use Rattle.std.specs.Prelude.{Option as Optional, None, Some, Result, Ok, Err}
use Rattle.refusals.specs.declared.Refusal.{Refusal}
use Rattle.refusals.specs.declared.Refusal.TheVariants.{Unbound}
use Rattle.clause_matching.specs.Building.{held, built_at, InstantiateAsked, Tells, Instantiated}
use Rattle.clause_matching.specs.Matching.{Matched}
use Rattle.clause_matching.proofs.Forming.{unbuilt_forms, built_forms}

-- One less than a number of an environment, or the refusal at 0, is what it stands for.
pub held_as : (n : ℕ) (o : Optional ℕ) → SomeIff o (1 ≤ n) (n - 1) → ok_or o Unbound ≡ held n
unfolding held
held_as zero None s = refl
held_as zero (Some z) s = absurd (let l = s.0 in let b : ⊥ = omega arith in b)
held_as (suc n) None s = absurd (let b : ⊥ = omega arith in b)
held_as (suc n) (Some z) s = ap Ok (let q = s.1 in let w : z ≡ n = omega arith in w)

pub held_is : {n z : ℕ} {r : Result ℕ Refusal} → r ≡ held n → r ≡ Ok z → (n ≢ 0) × (z ≡ n - 1)
unfolding held
held_is {n = zero} s q = absurd (let b : ⊥ = cc in b)
held_is {n = suc n} {z = z} s q = let w : z ≡ n = cc in (λ e. let b : ⊥ = omega arith in b, omega arith)

pub held_none : {n : ℕ} {r : Result ℕ Refusal} {e : Refusal} → r ≡ held n → r ≡ Err e → (n ≡ 0) × (e ≡ Unbound)
unfolding held
held_none {n = zero} s q = (refl, cc)
held_none {n = suc n} s q = absurd (let b : ⊥ = cc in b)

-- The pattern of such a reference.
variable_is : (pattern : List ℕ) (reference : ℕ) → reference < pattern_room → pattern_at pattern reference ≡ var reference
variable_is pattern reference v = denote_variable pattern_room (cells pattern) reference v

module _ {pattern : List ℕ} {reference : ℕ} {environment values : List ℕ} {used limit : ℕ} {stack : Rows}
    (h : InstantiateAsked pattern reference environment values used limit stack) (v : reference < pattern_room) where
  pub in_environment : reference < length environment
  in_environment = let l = h.long in omega arith

  -- What building a variable comes to, by the number that the environment has for it.
  none_tells : (o : Option Term) → get_or environment reference 0 ≡ 0 → Valued values used (get_or environment reference 0) o
      → Tells (value_of o used) (Err Unbound) values values used limit
  none_tells none z k = refl
  none_tells (some t) z k = absurd (let a = k.0 in let y : ⊥ = omega arith in y)

  value_tells : (o : Option Term) → get_or environment reference 0 ≢ 0 → Valued values used (get_or environment reference 0) o
      → Tells (value_of o used) (built_at (get_or environment reference 0 - 1) used) values values used limit
  value_tells none n k = absurd (n k)
  value_tells (some t) n k = (
    get_or environment reference 0 - 1,
    refl,
    record { stored = h.stored; root = k.1; is = k.2; same = λ i l. refl; grows = omega arith; within = h.fits },
  )

  built_is : (β : Bindings) → instantiate_of limit β (pattern_at pattern reference) used ≡ value_of (lookup β reference) used
  unfolding instantiate_of
  built_is β = ap (λ (p : Term). instantiate_of limit β p used) (variable_is pattern reference v)

  pub variable_unbound : get_or environment reference 0 ≡ 0 → Instantiated pattern reference environment values used limit (Err Unbound) values
  variable_unbound z = record {
    tells = λ β k. subst (λ (b : Built single). Tells b (Err Unbound) values values used limit) (sym (built_is β))
        (none_tells (lookup β reference) z (k.valued reference v));
    forms = unbuilt_forms pattern Unbound values values used;
    kept = refl;
  }

  pub variable_value : get_or environment reference 0 ≢ 0
      → Instantiated pattern reference environment values used limit (built_at (get_or environment reference 0 - 1) used) values
  variable_value n = record {
    tells = λ β k. subst (λ (b : Built single). Tells b (built_at (get_or environment reference 0 - 1) used) values values used limit) (sym (built_is β))
        (value_tells (lookup β reference) n (k.valued reference v));
    forms = built_forms pattern (get_or environment reference 0 - 1) used values values used (λ arities d f. f);
    kept = refl;
  }

-- A variable matched with the value is the pattern matched with it.
pub variable_matched : (pattern : List ℕ) (reference : ℕ) {values : List ℕ} {used value : ℕ} {environment links : List ℕ} {r : Bool} {environment' links' : List ℕ}
    → reference < pattern_room → Matched (var reference) values used value environment links r environment' links'
    → Matched (pattern_at pattern reference) values used value environment links r environment' links'
variable_matched pattern reference {values} {used} {value} {environment} {links} {r} {environment'} {links'} v m =
    subst (λ (t : Term). Matched t values used value environment links r environment' links') (sym (variable_is pattern reference v)) m

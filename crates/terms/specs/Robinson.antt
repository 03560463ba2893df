-- Robinson's theorem for `unify`: success gives acyclic bindings that only add and that are a most general unifier over the starting bindings;
-- failure means that no substitution that agrees with the starting bindings unifies the terms.
-- Here are the definitions; the theorems about them are in proofs/Robinson.
use Rattle.std.specs.Prelude.{ℕ, [], ◌∷◌}
use Rattle.terms.specs.Term.{Term, Subst}
use Rattle.terms.specs.Bindings.{Bindings}
use Rattle.terms.specs.Unification.{Unifier, eqn, Outcome, unfinished, fails, unified}
use Rattle.terms.specs.UnificationLaws.{Mgu}

-- What the outcome for two terms says.
abbrev pub Unified : ℕ → Bindings → Term → Term → Outcome → Type 0
Unified c β a b unfinished = ⊥
Unified c β a b fails = (σ : Subst) → Unifier β a b σ → ⊥
Unified c β a b (unified β') = Mgu c β (eqn a b ∷ []) β'

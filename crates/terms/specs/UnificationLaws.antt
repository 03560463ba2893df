-- What one step of unification does to the solutions of the equations, and why the steps come to an end.
-- Here are the definitions; the theorems about them are in proofs/UnificationLaws.
use Rattle.std.specs.Prelude.{ℕ, ◌<◌, ◌≡◌, List}
use Rattle.terms.specs.Term.{Term, Subst, sub, Below}
use Rattle.terms.specs.Bindings.{Bindings, bind, Acyclic, Solves, BelowB, Extends}
use Rattle.terms.specs.Unification.{Eqn, Step, stop, keep, join, Outcome, unfinished, fails, unified, sizes, SolvesE, BelowE}

-- A step that binds x to t: the solutions are those of the other equations that agree with the binding.
pub record Joined (c : ℕ) (β : Bindings) (es : List Eqn) (x : ℕ) (t : Term) (es' : List Eqn) : Type 0 where
  pub acyclic : Acyclic (bind x t β)
  pub below : Below c t × (x < c) × BelowE c es'
  pub into : (σ : Subst) → Solves σ β → SolvesE σ es → (σ x ≡ sub σ t) × SolvesE σ es'
  pub back : (σ : Subst) → Solves σ (bind x t β) → SolvesE σ es' → SolvesE σ es

-- A step that binds nothing: the same solutions, and a smaller measure.
pub record Kept (c : ℕ) (β : Bindings) (es : List Eqn) (es' : List Eqn) : Type 0 where
  pub below : BelowE c es'
  pub less : sizes β es' < sizes β es
  pub into : (σ : Subst) → Solves σ β → SolvesE σ es → SolvesE σ es'
  pub back : (σ : Subst) → Solves σ β → SolvesE σ es' → SolvesE σ es

-- A step that fails: no solution.
abbrev pub Stepped : ℕ → Bindings → List Eqn → Step → Type 0
Stepped c β es stop = (σ : Subst) → Solves σ β → SolvesE σ es → ⊥
Stepped c β es (keep es') = Kept c β es es'
Stepped c β es (join x t es') = Joined c β es x t es'

-- β' adds to β a most general solution of the equations.
pub record Mgu (c : ℕ) (β : Bindings) (es : List Eqn) (β' : Bindings) : Type 0 where
  pub acyclic : Acyclic β'
  pub below : BelowB c β'
  pub extends : Extends β β'
  pub general : (σ : Subst) → Solves σ β → SolvesE σ es → Solves σ β'
  pub sound : (σ : Subst) → Solves σ β' → Solves σ β × SolvesE σ es

-- What an outcome says about the equations.
abbrev pub Answers : ℕ → Bindings → List Eqn → Outcome → Type 0
Answers c β es unfinished = Unit {0}
Answers c β es fails = (σ : Subst) → Solves σ β → SolvesE σ es → ⊥
Answers c β es (unified β') = Mgu c β es β'

-- Every outcome of a run answers its equations.
abbrev pub Good : ℕ → (Bindings → List Eqn → Outcome) → Type 0
Good c run = (β : Bindings) (es : List Eqn) → Acyclic β → BelowB c β → BelowE c es → Answers c β es (run β es)

-- Unification ends: the measure falls until a variable is bound, and then fewer variables are unbound.
abbrev pub Over : Outcome → Type 0
Over unfinished = ⊥
Over fails = Unit {0}
Over (unified β) = Unit {0}

-- Unification (Robinson 1965) and the Rust's `unify`: equations worked off from the left, a variable bound to the raw walked term, with the
-- occurs check.
use Rattle.std.specs.Prelude.{ℕ, zero, suc, ◌+◌, ◌≡◌, cond, List, [], ◌∷◌}
use Rattle.terms.specs.Numbers.{same}
use Rattle.terms.specs.Term.{var, app, nil, cons, Term, Terms, Subst, sub, size, Below}
use Rattle.terms.specs.Bindings.{Bindings, bind, res, walk, occurs, Solves}

-- Robinson's notions, for two terms under bindings. Under no bindings they are Robinson's own.

-- A unifier agrees with the bindings and makes the terms equal.
abbrev pub Unifier : Bindings → Term → Term → Subst → Type 0
Unifier β a b σ = Solves σ β × (sub σ a ≡ sub σ b)

-- Every unifier is an instance of a most general one.
pub record MostGeneral (β : Bindings) (a b : Term) (σ : Subst) : Type 0 where
  pub unifier : Unifier β a b σ
  pub general : (τ : Subst) → Unifier β a b τ → (δ : Subst) × ((x : ℕ) → τ x ≡ sub δ (σ x))

-- The algorithm

-- What is still to be made equal: two terms, or two lists of arguments.
pub data Eqn : Type 0 where
  eqn : Term → Term → Eqn
  eqns : Terms → Terms → Eqn

-- One step: it fails, or goes on with other equations, or binds a variable and goes on.
pub data Step : Type 0 where
  stop : Step
  keep : List Eqn → Step
  join : ℕ → Term → List Eqn → Step

-- Two walked terms, as the Rust's `match` takes them: of two variables the first is bound to the second.
abbrev pub meet : Bindings → Term → Term → List Eqn → Step
meet β (var x) (var y) es = cond (same x y) (keep es) (join x (var y) es)
meet β (var x) (app g us) es = cond (occurs β x (app g us)) stop (join x (app g us) es)
meet β (app f ts) (var y) es = cond (occurs β y (app f ts)) stop (join y (app f ts) es)
meet β (app f ts) (app g us) es = cond (same f g) (keep (eqns ts us ∷ es)) stop

-- The first equation, with others behind it.
abbrev pub step : Bindings → Eqn → List Eqn → Step
step β (eqn a b) es = meet β (walk β a) (walk β b) es
step β (eqns nil nil) es = keep es
step β (eqns nil (cons u us)) es = stop
step β (eqns (cons t ts) nil) es = stop
step β (eqns (cons t ts) (cons u us)) es = keep (eqn t u ∷ eqns ts us ∷ es)

-- A bound was reached; the terms do not unify; they do, with these bindings.
pub data Outcome : Type 0 where
  unfinished fails : Outcome
  unified : Bindings → Outcome

-- The measure that falls while nothing is bound: the sizes of the equations with the bindings put in.
abbrev pub sizes : Bindings → List Eqn → ℕ
sizes β [] = 0
sizes β (eqn a b ∷ es) = suc (size (res β a) + size (res β b) + sizes β es)
sizes β (eqns a b ∷ es) = suc (size (res β a) + size (res β b) + sizes β es)

-- On from a step: it failed; other equations; a variable to bind, and then other equations.
abbrev pub proceed : Step → (List Eqn → Outcome) → (ℕ → Term → List Eqn → Outcome) → Outcome
proceed stop kept joined = fails
proceed (keep es) kept joined = kept es
proceed (join x t es) kept joined = joined x t es

-- At most n steps until something is bound, and then `again`.
abbrev pub work : (Bindings → List Eqn → Outcome) → ℕ → Bindings → List Eqn → Outcome
work again zero β [] = unified β
work again zero β (e ∷ es) = unfinished
work again (suc n) β [] = unified β
work again (suc n) β (e ∷ es) = proceed (step β e es) (work again n β) (λ x t es'. again (bind x t β) es')

-- All equations, with at most k variables bound.
abbrev pub unifies : ℕ → Bindings → List Eqn → Outcome
unifies zero β es = work (λ _ _. unfinished) (sizes β es) β es
unifies (suc k) β es = work (unifies k) (sizes β es) β es

-- The Rust's `unify`, c variables having been made. Robinson shows that it is never unfinished, and Recursion that it has the Rust's equations.
abbrev pub unify : ℕ → Bindings → Term → Term → Outcome
unify c β a b = unifies c β (eqn a b ∷ [])

-- σ makes all the equations equal.
abbrev pub SolvesE : Subst → List Eqn → Type 0
SolvesE σ [] = Unit {0}
SolvesE σ (eqn a b ∷ es) = (sub σ a ≡ sub σ b) × SolvesE σ es
SolvesE σ (eqns a b ∷ es) = (sub σ a ≡ sub σ b) × SolvesE σ es

-- All variables of the equations are below c.
abbrev pub BelowE : ℕ → List Eqn → Type 0
BelowE c [] = Unit {0}
BelowE c (eqn a b ∷ es) = Below c a × Below c b × BelowE c es
BelowE c (eqns a b ∷ es) = Below c a × Below c b × BelowE c es

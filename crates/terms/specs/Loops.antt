-- What loops over stored terms need of `walk`, `occurs` and `unify`: the Rust's recursion equations, with no bound on steps, and numbers that fall.
-- Here are the definitions; the theorems about them are in proofs/Loops.
use Rattle.std.specs.Prelude.{ℕ, suc, ◌+◌, ◌<◌, ◌≡◌, cond, List}
use Rattle.terms.specs.Numbers.{same}
use Rattle.terms.specs.Term.{var, app, Term}
use Rattle.terms.specs.Bindings.{Bindings, start, bind, walk}
use Rattle.terms.specs.Unification.{Eqn, Step, stop, keep, join, Outcome, fails, sizes, unifies}
use Rattle.terms.specs.BindingLaws.{unbound}

-- How many bound variables a walk passes: the number that falls along it.
abbrev pub length_if : ℕ → Term → ℕ → ℕ
length_if x (var y) n = cond (same y x) n 0
length_if x (app f ts) n = 0

-- The bound variables from t on.
abbrev pub walk_length : Bindings → Term → ℕ
walk_length start t = 0
walk_length (bind x u β) t = walk_length β t + length_if x (walk β t) (suc (walk_length β u))

-- The outcome by the way the first step goes.
abbrev pub Next : ℕ → Bindings → Step → Outcome → Type 0
Next c β stop o = o ≡ fails
Next c β (keep es) o = o ≡ unifies c β es
Next c β (join x t es) o = o ≡ unifies c (bind x t β) es

-- The numbers that fall: the measure while nothing is bound, and the unbound variables at a binding.
abbrev pub StepFalls : ℕ → Bindings → List Eqn → Step → Type 0
StepFalls c β es stop = Unit {0}
StepFalls c β es (keep es') = sizes β es' < sizes β es
StepFalls c β es (join x t es') = unbound c (bind x t β) < unbound c β

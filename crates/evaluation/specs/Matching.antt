-- Patterns against values (document 01, "Evaluated terms"; the Rust's `bind` and `instantiate`). Values have no variables; the variables of a clause take
-- values one after another, newest first. Every node that is built takes a word for itself and one for each argument, and 37 is tested as it is built.
use Rattle.std.specs.Prelude.{ℕ, suc, ◌+◌, cond, ltb}
use Rattle.std.proofs.Math.Option.{Option, none, some}
use Rattle.terms.specs.Numbers.{same}
use Rattle.terms.specs.Term.{Kind, one, Syn, var, app, nil, cons, Term, Terms, count}
use Rattle.terms.specs.Bindings.{Bindings, bind, lookup}
use Rattle.arena.specs.Equality.{alike}
use Rattle.patterns.specs.Patterns.{when}

-- The values that fit, or that none do.
pub data Fitted : Type 0 where
  misfit : Fitted
  fitted : Bindings → Fitted

abbrev pub if_fitted : Fitted → (Bindings → Fitted) → Fitted
if_fitted misfit next = misfit
if_fitted (fitted β) next = next β

-- A variable without a value takes the value; one with a value fits if both are equal.
abbrev pub takes : Option Term → ℕ → Term → Bindings → Fitted
takes none x t β = fitted (bind x t β)
takes (some u) x t β = cond (alike u t) (fitted β) misfit

-- `bind`: a pattern against a value, or several against as many, from left to right.
unfoldable pub bind_of : {s : Kind} → Syn s → Syn s → Bindings → Fitted
bind_of (var x) t β = takes (lookup β x) x t β
bind_of (app f ps) (var y) β = misfit
bind_of (app f ps) (app g ts) β = when (same f g) (λ _. bind_of ps ts β) (λ _. misfit)
bind_of nil nil β = fitted β
bind_of nil (cons t ts) β = misfit
bind_of (cons p ps) nil β = misfit
bind_of (cons p ps) (cons t ts) β = if_fitted (bind_of p t β) (λ γ. bind_of ps ts γ)

-- A term, or several, and the words then used; or a refusal.
pub data Built (s : Kind) : Type 0 where
  barred : ℕ → Built s
  built : Syn s → ℕ → Built s

abbrev pub if_built : {s r : Kind} → Built s → (Syn s → ℕ → Built r) → Built r
if_built (barred e) next = barred e
if_built (built t used) next = next t used

-- A node over arguments that are built: 37 where the words do not suffice.
abbrev pub build_node : ℕ → ℕ → Terms → ℕ → Built one
build_node limit f ts used = cond (ltb limit (used + suc (count ts))) (barred 37) (built (app f ts) (used + suc (count ts)))

-- A variable gives its value: 36 where it has none.
abbrev pub value_of : Option Term → ℕ → Built one
value_of none used = barred 36
value_of (some t) used = built t used

-- `instantiate`: each node after its arguments, from left to right.
unfoldable pub instantiate_of : {s : Kind} → ℕ → Bindings → Syn s → ℕ → Built s
instantiate_of limit β (var x) used = value_of (lookup β x) used
instantiate_of limit β (app f ps) used = if_built (instantiate_of limit β ps used) (λ ts u. build_node limit f ts u)
instantiate_of limit β nil used = built nil used
instantiate_of limit β (cons p ps) used = if_built (instantiate_of limit β p used) (λ t u. if_built (instantiate_of limit β ps u) (λ ts v. built (cons t ts) v))

-- All terms but the last, and the last.
abbrev pub front : Terms → Terms
front nil = nil
front (cons t nil) = nil
front (cons t (cons u us)) = cons t (front (cons u us))

abbrev pub last : Terms → Term
last nil = var 0
last (cons t nil) = t
last (cons t (cons u us)) = last (cons u us)

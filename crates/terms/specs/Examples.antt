-- Unification by computing: the Rust's order, the raw terms that it stores, and the occurs check, also through bindings.
-- Here are the definitions; the theorems about them are in proofs/Examples.
use Rattle.std.specs.Prelude.{List, [], ◌∷◌}
use Rattle.terms.specs.Term.{var, app, nil, cons, Term}
use Rattle.terms.specs.Bindings.{Bindings, start, bind}
use Rattle.terms.specs.Unification.{Outcome, unify}

-- Two terms under bindings, below 4 variables.
pub record Problem : Type 0 where
  pub bindings : Bindings
  pub left : Term
  pub right : Term

-- What the problems come to.
abbrev pub outcomes : List Problem → List Outcome
outcomes [] = []
outcomes (p ∷ ps) = unify 4 p.bindings p.left p.right ∷ outcomes ps

-- A constant, and symbols with one and two arguments.
abbrev pub a : Term
a = app 0 nil

abbrev pub f : Term → Term
f t = app 1 (cons t nil)

abbrev pub g : Term → Term → Term
g t u = app 2 (cons t (cons u nil))

-- The problems.
abbrev pub problems : List Problem
problems =
    -- Arguments from left to right, the newest binding first.
    record { bindings = start; left = g (var 0) (f (var 1)); right = g a (var 2) }
    -- Of two variables the left one is bound to the right one.
    ∷ record { bindings = start; left = var 0; right = var 1 }
    -- The term is stored as it stands, with no bindings put in.
    ∷ record { bindings = bind 0 a start; left = var 1; right = f (var 0) }
    -- Equal under the bindings: nothing is bound.
    ∷ record { bindings = bind 0 a start; left = f (var 0); right = f a }
    -- The occurs check, at once and through a binding.
    ∷ record { bindings = start; left = var 0; right = f (var 0) }
    ∷ record { bindings = bind 0 (f (var 1)) start; left = f (var 0); right = var 1 }
    -- Another symbol; another number of arguments.
    ∷ record { bindings = start; left = a; right = f (var 0) }
    ∷ record { bindings = start; left = app 3 (cons (var 0) nil); right = app 3 (cons a (cons a nil)) }
    ∷ []

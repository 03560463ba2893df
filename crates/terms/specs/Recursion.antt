-- `unify` by the Rust's own recursion: two walked terms, and arguments from left to right, each with the bindings that the last one left.
-- Here are the definitions; the theorems about them are in proofs/Recursion.
use Rattle.std.specs.Prelude.{ℕ, cond, [], ◌∷◌}
use Rattle.terms.specs.Numbers.{same}
use Rattle.terms.specs.Term.{var, app, Term, Terms}
use Rattle.terms.specs.Bindings.{Bindings, bind, occurs}
use Rattle.terms.specs.Unification.{eqns, Outcome, unfinished, fails, unified, unifies}

-- One after the other: a failure is the end, and success goes on from its bindings.
abbrev pub and_then : Outcome → (Bindings → Outcome) → Outcome
and_then unfinished next = unfinished
and_then fails next = fails
and_then (unified β) next = next β

-- The Rust's loop over arguments.
abbrev pub unify_args : ℕ → Bindings → Terms → Terms → Outcome
unify_args c β ts us = unifies c β (eqns ts us ∷ [])

-- The Rust's `match` on two walked terms.
abbrev pub unify_walked : ℕ → Bindings → Term → Term → Outcome
unify_walked c β (var x) (var y) = cond (same x y) (unified β) (unified (bind x (var y) β))
unify_walked c β (var x) (app g us) = cond (occurs β x (app g us)) fails (unified (bind x (app g us) β))
unify_walked c β (app f ts) (var y) = cond (occurs β y (app f ts)) fails (unified (bind y (app f ts) β))
unify_walked c β (app f ts) (app g us) = cond (same f g) (unify_args c β ts us) fails

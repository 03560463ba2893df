-- Unification by computing: the Rust's order, the raw terms that it stores, and the occurs check, also through bindings.
-- The definitions that it speaks of are in specs/Examples.
use Rattle.std.specs.Prelude.{◌≡◌, refl, [], ◌∷◌}
use Rattle.terms.specs.Numbers.{same}
use Rattle.terms.specs.Term.{var, mem}
use Rattle.terms.specs.Bindings.{start, bind}
use Rattle.terms.specs.Unification.{fails, unified}
use Rattle.terms.specs.Examples.{a, f, outcomes, problems}

pub problems_come_out : outcomes problems ≡
    unified (bind 2 (f (var 1)) (bind 0 a start))
    ∷ unified (bind 0 (var 1) start)
    ∷ unified (bind 1 (f (var 0)) (bind 0 a start))
    ∷ unified (bind 0 a start)
    ∷ fails
    ∷ fails
    ∷ fails
    ∷ fails
    ∷ []
unfolding same mem
problems_come_out = refl

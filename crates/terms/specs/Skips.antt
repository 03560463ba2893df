-- Unifying terms that are equal under the bindings binds nothing, so a machine that skips such pairs makes the very same bindings.
-- Here are the definitions; the theorems about them are in proofs/Skips.
use Rattle.std.specs.Prelude.{◌≡◌}
use Rattle.terms.specs.Bindings.{Bindings, res}
use Rattle.terms.specs.Unification.{Eqn, eqn, eqns}

-- The two sides are equal under the bindings.
abbrev pub Same : Bindings → Eqn → Type 0
Same β (eqn a b) = res β a ≡ res β b
Same β (eqns a b) = res β a ≡ res β b

-- What one attempt does, from Robinson's theorem, and how the attempts with the rules go on from it: all that the theorems use of them.
-- Here are the definitions; the theorems about them are in proofs/Attempts.
use Rattle.std.specs.Prelude.{ℕ, ◌+◌, ◌≤◌, ◌≡◌, length}
use Rattle.terms.specs.Term.{Term, Subst, sub, Below}
use Rattle.terms.specs.Bindings.{Bindings, Acyclic, Solves, BelowB, Extends}
use Rattle.terms.specs.Unification.{Unifier}
use Rattle.resolution.specs.Rules.{Rule}
use Rattle.resolution.specs.Fresh.{head_vars, all_vars, head, body}
use Rattle.resolution.specs.Search.{Attempt, exceeded, missed, entered}

-- The conclusion did not unify: it has no unifier with the goal over the bindings.
pub record Missed (c : ℕ) (β : Bindings) (g : Term) (R : Rule) (c' : ℕ) : Type 0 where
  pub counter : c' ≡ c + length (head_vars R)
  pub later : c ≤ c'
  pub apart : (σ : Subst) → Unifier β g (head c R) σ → ⊥

-- The rule was entered: the bindings add a most general unifier of the goal and the conclusion.
pub record Entered (c : ℕ) (β : Bindings) (g : Term) (R : Rule) (β' : Bindings) (c' : ℕ) : Type 0 where
  pub counter : c' ≡ c + length (all_vars R)
  pub later : c ≤ c'
  pub acyclic : Acyclic β'
  pub below : BelowB c' β'
  pub extends : Extends β β'
  pub unifies : (σ : Subst) → Solves σ β' → sub σ g ≡ sub σ (head c R)
  pub general : (σ : Subst) → Unifier β g (head c R) σ → Solves σ β'
  pub premises : Below c' (body c R)

-- What an attempt says.
abbrev pub Attempted : ℕ → Bindings → Term → Rule → Attempt → Type 0
Attempted c β g R exceeded = Unit {0}
Attempted c β g R (missed c') = Missed c β g R c'
Attempted c β g R (entered β' c' m') = Entered c β g R β' c'

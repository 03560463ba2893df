-- Completeness of SLD resolution (Lloyd, section 8): every derivable instance of a goal is an instance of the goal under the answer of a refutation.
-- Here are the definitions; the theorems about them are in proofs/Completeness.
use Rattle.std.specs.Prelude.{ℕ, ◌<◌, ◌≡◌, List}
use Rattle.terms.specs.Term.{Terms, Subst, sub}
use Rattle.terms.specs.Bindings.{Bindings, full, res}
use Rattle.resolution.specs.Rules.{Rule}
use Rattle.resolution.specs.Lloyd.{Refutation, ComputedAnswer}

-- A refutation of the goal with the bindings put in, of whose answer σ is an instance.
pub record Covered (rules : List Rule) (c : ℕ) (β : Bindings) (G : Terms) (σ : Subst) : Type 0 where
  pub φ : Subst
  pub refutation : Refutation rules c (res β G) φ
  pub δ : Subst
  pub covers : (x : ℕ) → x < c → σ x ≡ sub δ (sub φ (full β x))

-- The theorem (Lloyd, 8.6): a computed answer, of which the instance is an instance.
pub record MoreGeneral (rules : List Rule) (G : Terms) (σ : Subst) : Type 0 where
  pub θ : Subst
  pub computed : ComputedAnswer rules G θ
  pub δ : Subst
  pub instance : sub σ G ≡ sub δ (sub θ G)

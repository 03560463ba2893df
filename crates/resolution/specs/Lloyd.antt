-- SLD resolution as in Lloyd, Foundations of Logic Programming, chapters 1 to 3, with the leftmost atom selected: variants, resolvents, SLD
-- derivations, refutations, computed answers and finite failure. The number c is above all variables used so far, so that a variant whose variables
-- are c or above is standardised apart.
use Rattle.std.specs.Prelude.{ℕ, zero, suc, ◌≤◌, ◌<◌, ◌≡◌, cond, List, ◌⊎◌}
use Rattle.std.proofs.Math.Option.{some}
use Rattle.terms.specs.Term.{var, nil, cons, Term, Terms, append, Subst, sub, compose, mem, Below, From}
use Rattle.terms.specs.Bindings.{start}
use Rattle.terms.specs.Unification.{MostGeneral}
use Rattle.resolution.specs.Rules.{Rule, rule_at_lem}

-- A variant of a rule: each is an instance of the other. Its variables are c or above, and below c'.
pub record Variant (R : Rule) (c c' : ℕ) (h : Term) (bs : Terms) : Type 0 where
  pub to : Subst
  pub back : Subst
  pub head : sub to R.conclusion ≡ h
  pub body : sub to R.premises ≡ bs
  pub head_back : sub back h ≡ R.conclusion
  pub body_back : sub back bs ≡ R.premises
  pub apart : From c h × From c bs
  pub below : Below c' h × Below c' bs
  pub later : c ≤ c'

-- The goal G follows from the atom A and the atoms As behind it by a variant of rule r and a most general unifier θ of A and its head.
pub record Resolvent (rules : List Rule) (c : ℕ) (A : Term) (As : Terms) (r c' : ℕ) (θ : Subst) (G : Terms) : Type 0 where
  pub rule : Rule
  pub found : rule_at_lem rules r ≡ some rule
  pub head : Term
  pub body : Terms
  pub variant : Variant rule c c' head body
  pub mgu : MostGeneral start A head θ
  pub range : (x : ℕ) → x < c' → Below c' (θ x)
  pub derived : G ≡ sub θ (append body As)

-- A finite SLD derivation, from a goal to a goal, with the composition of its most general unifiers.
pub data SLD (rules : List Rule) : ℕ → Terms → Subst → ℕ → Terms → Type 0 where
  here : {c : ℕ} {G : Terms} → SLD rules c G var c G
  resolve : {c r c' d : ℕ} {A : Term} {As G H : Terms} {θ φ : Subst} → Resolvent rules c A As r c' θ G → SLD rules c' G φ d H → SLD rules c (cons A As) (compose θ φ) d H

-- A refutation is an SLD derivation that ends with the empty goal.
abbrev pub Refutation : List Rule → ℕ → Terms → Subst → Type 0
Refutation rules c G φ = (d : ℕ) × SLD rules c G φ d nil

-- A substitution restricted to the variables of a goal.
abbrev pub restrict : Terms → Subst → Subst
restrict G φ x = cond (mem x G) (φ x) (var x)

-- A computed answer is the composition of a refutation's most general unifiers, restricted to the variables of the goal.
pub record ComputedAnswer (rules : List Rule) (G : Terms) (θ : Subst) : Type 0 where
  pub c : ℕ
  pub below : Below c G
  pub φ : Subst
  pub refutation : Refutation rules c G φ
  pub restricted : (x : ℕ) → θ x ≡ restrict G φ x

-- A branch of an SLD tree ends in failure where no substitution makes the atom and a variant's head equal.
pub record Clash (R : Rule) (c : ℕ) (A : Term) : Type 0 where
  pub c' : ℕ
  pub head : Term
  pub body : Terms
  pub variant : Variant R c c' head body
  pub clash : (σ : Subst) → sub σ A ≡ sub σ head → ⊥

-- The goal has a finitely failed SLD tree of height at most n: each rule's branch ends in failure, or its resolvent has one of smaller height.
abbrev pub FailsBy : List Rule → ℕ → ℕ → Terms → Type 0
FailsBy rules zero c G = ⊥
FailsBy rules (suc n) c nil = ⊥
FailsBy rules (suc n) c (cons A As) = (r : ℕ) (R : Rule) → rule_at_lem rules r ≡ some R
    → Clash R c A ⊎ ((c' : ℕ) × (θ : Subst) × (G : Terms) × Resolvent rules c A As r c' θ G × FailsBy rules n c' G)

-- A goal is finitely failed if it has a finitely failed SLD tree.
pub record FinitelyFailed (rules : List Rule) (G : Terms) : Type 0 where
  pub c : ℕ
  pub below : Below c G
  pub height : ℕ
  pub fails : FailsBy rules height c G

-- What a verdict says: of derivation trees, and in Lloyd's terms.
-- Here are the definitions; the theorems about them are in proofs/Verdicts.
use Rattle.std.specs.Prelude.{ℕ, ◌≤◌, ◌≡◌, List}
use Rattle.terms.specs.Term.{one, many, Term, nil, cons, Subst, sub}
use Rattle.terms.specs.Bindings.{Bindings, res, Acyclic, Solves, BelowB, Extends}
use Rattle.resolution.specs.Rules.{Rule, Tree, leaf, ◌◂◌, root, put_in, Derivation, Derivable}
use Rattle.resolution.specs.Search.{goal, Verdict, refusal, proved, nothing, undecided}
use Rattle.resolution.specs.Lloyd.{FinitelyFailed}
use Rattle.resolution.specs.Answers.{Refuted}

-- "Proved" from the bindings β, n₀ variables having been made: one tree with the goal at its root, a derivation under every substitution that agrees
-- with the final bindings; and the bindings only add.
pub record Proved (rules : List Rule) (n₀ : ℕ) (β : Bindings) (g : Term) (β' : Bindings) (st : Tree many) (c' : ℕ) : Type 0 where
  pub tree : Tree one
  pub only : st ≡ tree ◂ leaf
  pub goal : root tree ≡ g
  pub derives : (σ : Subst) → Solves σ β' → Derivation rules (put_in σ tree)
  pub extends : Extends β β'
  pub acyclic : Acyclic β'
  pub below : BelowB c' β'
  pub later : n₀ ≤ c'

-- "None": no derivation has as its root the goal with the bindings put in and any terms for the variables left.
abbrev pub Excluded : List Rule → Bindings → Term → Type 0
Excluded rules β g = (τ : Subst) → Derivable rules (sub τ (res β g)) → ⊥

-- What each verdict says.
abbrev pub Says : List Rule → ℕ → Bindings → Term → Verdict → Type 0
Says rules n₀ β g (refusal n) = n ≡ 37
Says rules n₀ β g (proved β' st u c m) = Proved rules n₀ β g β' st c
Says rules n₀ β g (nothing u c) = (n₀ ≤ c) × Excluded rules β g
Says rules n₀ β g (undecided u c) = n₀ ≤ c

-- The same in Lloyd's terms: "proved" is a refutation whose answer, after the starting bindings, is the final bindings; "none" is a finitely failed goal.
abbrev pub SaysSLD : List Rule → ℕ → Bindings → Term → Verdict → Type 0
SaysSLD rules n₀ β g (refusal n) = Unit {0}
SaysSLD rules n₀ β g (proved β' st u c m) = Refuted rules n₀ β (cons g nil) β'
SaysSLD rules n₀ β g (nothing u c) = FinitelyFailed rules (cons (res β g) nil)
SaysSLD rules n₀ β g (undecided u c) = Unit {0}

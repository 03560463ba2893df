-- The search's answers in Lloyd's terms: success is a refutation whose computed answer, put in after the starting bindings, is the final bindings;
-- "none" is a finitely failed goal, so that nothing is derivable; and SLD resolution is complete.
-- Here are the definitions; the theorems about them are in proofs/Answers.
use Rattle.std.specs.Prelude.{ℕ, ◌<◌, ◌≡◌, List, [], ◌∷◌}
use Rattle.std.proofs.Math.Option.{Option, none, some}
use Rattle.terms.specs.Term.{var, nil, cons, Term, Terms, Subst, sub}
use Rattle.terms.specs.Bindings.{Bindings, lookup, full, res}
use Rattle.resolution.specs.Rules.{Rule}
use Rattle.resolution.specs.Search.{Work, goal, build, Result, refused, found, failed}
use Rattle.resolution.specs.Lloyd.{Refutation}

-- From bindings to newer ones, as one substitution: what is bound already stays out of it.
abbrev pub choose : Option Term → Term → Term → Term
choose none t u = t
choose (some v) t u = u

-- What takes the bindings β on to β'.
abbrev pub advance : Bindings → Bindings → Subst
advance β β' x = choose (lookup β x) (full β' x) (var x)

-- The goals that work has still to prove.
abbrev pub atoms : List Work → Terms
atoms [] = nil
atoms (goal g d ∷ w) = cons g (atoms w)
atoms (build r g k ∷ w) = atoms w

-- Success is a refutation
-- A refutation of the goal with the bindings put in, whose answer takes them to β'.
pub record Refuted (rules : List Rule) (c : ℕ) (β : Bindings) (G : Terms) (β' : Bindings) : Type 0 where
  pub φ : Subst
  pub refutation : Refutation rules c (res β G) φ
  pub answer : (x : ℕ) → x < c → sub φ (full β x) ≡ full β' x

-- What a result says: success is such a refutation.
abbrev pub Reaches : List Rule → ℕ → Bindings → Terms → Result → Type 0
Reaches rules c β G refused = Unit {0}
Reaches rules c β G (found β' st b c' m) = Refuted rules c β G β'
Reaches rules c β G (failed b cut c') = Unit {0}

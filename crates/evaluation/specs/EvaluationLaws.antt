-- Evaluation answers with derivations (document 01, "Evaluated terms"): every tree that comes back is one, and the last tree of a forward call is that of its
-- own function, with the value as the last argument of the root.
-- Here are the definitions; the theorems about them are in proofs/EvaluationLaws.
use Rattle.std.specs.Prelude.{ℕ, ◌≡◌}
use mathlib.Core.List.{List}
use Rattle.terms.specs.Term.{Term, Terms}
use Rattle.terms.specs.Term.Kind.{one as single, many as several}
use Rattle.term_parser.specs.Source.{Arity, one}
use Rattle.resolution.specs.Rules.{Rule, Tree, leaf, ◌◂◌, root, joined, Derivation}
use Rattle.evaluation.specs.Expressions.{Evaluated, failed, evaluated}
use Rattle.evaluation.specs.Derivations.{judgment}

-- All trees are derivations.
abbrev pub Derived : {n : Arity} → List Rule → Evaluated n → Type 0
Derived rules (failed e) = Unit {0}
Derived rules (evaluated v ps c) = Derivation rules ps

-- The last tree is that of a call whose value is v.
pub record Ends (ps : Tree several) (v : Term) : Type 0 where
  pub others : Tree several
  pub own : Tree single
  pub function : ℕ
  pub arguments : Terms
  pub last : ps ≡ joined others (own ◂ leaf)
  pub root_is : root own ≡ judgment function arguments v

abbrev pub Answered : Evaluated one → Type 0
Answered (failed e) = Unit {0}
Answered (evaluated v ps c) = Ends ps v

-- Horn rules and their derivations (document 01, "Search"; the Rust's `Rule` and `Proof`): a derivation is a finite tree of terms; each node names a
-- rule, and one choice of terms for the rule's variables turns its conclusion into the node and its premises into the children, in order.
use Rattle.std.specs.Prelude.{ℕ, zero, suc, ◌≡◌, List, [], ◌∷◌}
use Rattle.std.proofs.Math.Option.{Option, none, some}
use Rattle.terms.specs.Term.{Kind, one, many, nil, cons, Term, Terms, Subst, sub}

-- A rule: its name as bytes, the sorts of its variables, its premises and its conclusion.
pub record Rule : Type 0 where
  pub name : List ℕ
  pub sorts : List ℕ
  pub premises : Terms
  pub conclusion : Term

-- The rule with number i, in source order.
abbrev pub rule_at_lem : List Rule → ℕ → Option Rule
rule_at_lem [] i = none
rule_at_lem (R ∷ Rs) zero = some R
rule_at_lem (R ∷ Rs) (suc i) = rule_at_lem Rs i

-- Trees, and lists of trees: a node has a rule's number, a term and its children.
pub data Tree : Kind → Type 0 where
  node : ℕ → Term → Tree many → Tree one
  leaf : Tree many
  ◌◂◌ : Tree one → Tree many → Tree many

infixr 40 ◌◂◌
-- A tree's root.
abbrev pub root : Tree one → Term
root (node r g ps) = g

-- The roots of a list of trees.
abbrev pub roots : Tree many → Terms
roots leaf = nil
roots (p ◂ ps) = cons (root p) (roots ps)

-- One list of trees in front of another.
abbrev pub joined : Tree many → Tree many → Tree many
joined leaf qs = qs
joined (p ◂ ps) qs = p ◂ joined ps qs

-- A substitution put in throughout a tree.
abbrev pub put_in : {s : Kind} → Subst → Tree s → Tree s
put_in σ (node r g ps) = node r (sub σ g) (put_in σ ps)
put_in σ leaf = leaf
put_in σ (p ◂ ps) = put_in σ p ◂ put_in σ ps

-- One choice of terms θ turns the conclusion of rule r into g and its premises into gs.
pub record Instance (rules : List Rule) (r : ℕ) (g : Term) (gs : Terms) : Type 0 where
  pub rule : Rule
  pub found : rule_at_lem rules r ≡ some rule
  pub θ : Subst
  pub head : sub θ rule.conclusion ≡ g
  pub body : sub θ rule.premises ≡ gs

-- Every node is an instance of its rule.
abbrev pub Derivation : {s : Kind} → List Rule → Tree s → Type 0
Derivation rules (node r g ps) = Instance rules r g (roots ps) × Derivation rules ps
Derivation rules leaf = Unit {0}
Derivation rules (p ◂ ps) = Derivation rules p × Derivation rules ps

-- A term is derivable if it is the root of a derivation, of any height.
pub record Derivable (rules : List Rule) (t : Term) : Type 0 where
  pub tree : Tree one
  pub proves : root tree ≡ t
  pub derivation : Derivation rules tree

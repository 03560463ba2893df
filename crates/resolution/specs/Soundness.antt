-- Soundness: what a successful search has built is a derivation once the final bindings are put in throughout, under any limits, and the bindings
-- only add. It is a derivation under every substitution that agrees with the final bindings, so later bindings leave it one.
-- Here are the definitions; the theorems about them are in proofs/Soundness.
use Rattle.std.specs.Prelude.{ℕ, ◌+◌, ◌≤◌, ◌≡◌, List, [], ◌∷◌}
use Rattle.terms.specs.Term.{one, many, Subst, Below}
use Rattle.terms.specs.Bindings.{Bindings, Acyclic, Solves, BelowB, Extends}
use Rattle.resolution.specs.Rules.{Rule, rule_at_lem, Tree, ◌◂◌, root, put_in, Derivation}
use Rattle.resolution.specs.Search.{Work, goal, build, built, Result, refused, found, failed, Search}

-- All variables of the goals are below c.
abbrev pub BelowW : ℕ → List Work → Type 0
BelowW c [] = Unit {0}
BelowW c (goal g d ∷ w) = Below c g × BelowW c w
BelowW c (build r g k ∷ w) = BelowW c w

-- Done under σ, the work turns the proofs st into st': a goal adds a derivation of it, and a build takes the last proofs together.
abbrev pub Performed : List Rule → Subst → List Work → Tree many → Tree many → Type 0
Performed rules σ [] st st' = st ≡ st'
Performed rules σ (goal g d ∷ w) st st' = (p : Tree one) × (root p ≡ g) × Derivation rules (put_in σ p) × Performed rules σ w (p ◂ st) st'
Performed rules σ (build r g k ∷ w) st st' = Performed rules σ w (built r g k st) st'

-- What success says.
pub record Found (rules : List Rule) (c : ℕ) (β : Bindings) (w : List Work) (st : Tree many) (β' : Bindings) (st' : Tree many) (c' : ℕ) : Type 0 where
  pub later : c ≤ c'
  pub acyclic : Acyclic β'
  pub below : BelowB c' β'
  pub extends : Extends β β'
  pub performed : (σ : Subst) → Solves σ β' → Performed rules σ w st st'

-- What a result says.
abbrev pub Sound : List Rule → ℕ → Bindings → List Work → Tree many → Result → Type 0
Sound rules c β w st refused = Unit {0}
Sound rules c β w st (found β' st' b c' m) = Found rules c β w st β' st' c'
Sound rules c β w st (failed b cut c') = c ≤ c'

-- Of all that a search comes to.
abbrev pub SoundSearch : List Rule → Search → Type 0
SoundSearch rules rec = (b c m : ℕ) (β : Bindings) (w : List Work) (st : Tree many) → Acyclic β → BelowB c β → BelowW c w → Sound rules c β w st (rec b c m β w st)

-- Rs are the rules from number r on.
abbrev pub Suffix : List Rule → ℕ → List Rule → Type 0
Suffix rules r Rs = (i : ℕ) → rule_at_lem rules (r + i) ≡ rule_at_lem Rs i

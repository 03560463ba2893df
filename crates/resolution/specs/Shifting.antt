-- The unlimited search does not depend on how variables are numbered: it commutes with an injective renaming that shifts the numbers from n₀ on by k.
-- So it does not matter where fresh numbers start.
-- Here are the definitions; the theorems about them are in proofs/Shifting.
use Prim.Native.Nat.{ℕ, ◌+◌}
use Rattle.std.specs.Prelude.{cond, List, [], ◌∷◌}
use Rattle.terms.specs.Numbers.{less}
use Rattle.terms.specs.Term.{Kind}
use Rattle.terms.specs.Renaming.{ren, ren_b}
use Rattle.resolution.specs.Rules.{Tree, node, leaf, ◌◂◌}
use Rattle.resolution.specs.Search.{Attempt, exceeded, missed, entered, Work, goal, build, Result, refused, found, failed}

-- The renaming of trees, work, attempts and results.
abbrev pub ren_t : {s : Kind} → (ℕ → ℕ) → Tree s → Tree s
ren_t ρ (node r g ps) = node r (ren ρ g) (ren_t ρ ps)
ren_t ρ leaf = leaf
ren_t ρ (p ◂ ps) = ren_t ρ p ◂ ren_t ρ ps

abbrev pub ren_w : (ℕ → ℕ) → List Work → List Work
ren_w ρ [] = []
ren_w ρ (goal g d ∷ w) = goal (ren ρ g) d ∷ ren_w ρ w
ren_w ρ (build r g k ∷ w) = build r (ren ρ g) k ∷ ren_w ρ w

abbrev pub ren_a : (ℕ → ℕ) → ℕ → Attempt → Attempt
ren_a ρ k exceeded = exceeded
ren_a ρ k (missed c) = missed (c + k)
ren_a ρ k (entered β c m) = entered (ren_b ρ β) (c + k) m

abbrev pub ren_r : (ℕ → ℕ) → ℕ → Result → Result
ren_r ρ k refused = refused
ren_r ρ k (found β st b c m) = found (ren_b ρ β) (ren_t ρ st) b (c + k) m
ren_r ρ k (failed b cut c) = failed b cut (c + k)

-- The shift of the variables from n₀ on by k.
abbrev pub shift : ℕ → ℕ → ℕ → ℕ
shift n₀ k x = cond (less x n₀) x (x + k)

-- What `starts_with` and `up_to` find is no longer than the list.
use Rattle.std.specs.Prelude.{ℕ, ◌≤◌, ◌≡◌, Bool, true, List, [], ◌∷◌, eqb, length}
use Rattle.std.proofs.Common.{arith}
use Rattle.source_text.specs.Bytes.{starts_with, up_to}
use Rattle.source_text.specs.ByteLaws.{by_bool, and_right}

pub starts_short : (w s : List ℕ) → starts_with w s ≡ true → length w ≤ length s
unfolding starts_with
starts_short [] s e = omega arith
starts_short (a ∷ w) [] e = absurd (let z : ◌≡◌ {A = ℕ} 0 1 = cc in omega arith)
starts_short (a ∷ w) (c ∷ s) e = let h = starts_short w s (and_right (eqb c a) (starts_with w s) e) in omega arith

pub upto_short : (p : List ℕ → Bool) (s : List ℕ) → length (up_to p s) ≤ length s
unfolding up_to
upto_short p [] = omega arith
upto_short p (c ∷ s) = by_bool (p (c ∷ s)) (λ e. rw e (omega arith)) (λ e. rw e (let h = upto_short p s in omega arith))

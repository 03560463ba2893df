-- The depth bounds 4, 8, 16, … up to the largest depth (the Rust's `while depth <= self.max_depth`), as a relation for loops, and as a list that grows
-- with the largest depth.
use Rattle.std.specs.Prelude.{ℕ, zero, suc, ◌+◌, ◌≤◌, ◌<◌, ◌≡◌, refl, List, [], ◌∷◌, ◌++◌}
use Rattle.std.proofs.Common.{ap, arith}
use Rattle.terms.specs.Numbers.{by_less}
use Rattle.resolution.specs.Search.{bounds_from, bounds}

-- ds are the bounds d, 2d, 4d, … up to the largest.
pub data Bounds (largest : ℕ) : ℕ → List ℕ → Type 0 where
  past : {d : ℕ} → largest < d → Bounds largest d []
  next : {d : ℕ} {ds : List ℕ} → d ≤ largest → Bounds largest (d + d) ds → Bounds largest d (d ∷ ds)

bounds_from_lem : (n d largest : ℕ) → 0 < d → largest < d + n → Bounds largest d (bounds_from n d largest)
bounds_from_lem zero d largest h l = past {d = d} (omega arith)
bounds_from_lem (suc n) d largest h l = by_less largest d
    (λ p q. rw q (past p))
    (λ p q. rw q (next p (bounds_from_lem n (d + d) largest (omega arith) (omega arith))))

pub bounds_ok : (largest : ℕ) → Bounds largest 4 (bounds largest)
bounds_ok largest = bounds_from_lem largest 4 largest (omega arith) (omega arith)

-- There is only one such list, and a larger depth only adds bounds.
pub bounds_only : {largest d : ℕ} {ds es : List ℕ} → Bounds largest d ds → Bounds largest d es → ds ≡ es
bounds_only (past p) (past q) = refl
bounds_only (past p) (next q b) = absurd (omega arith)
bounds_only (next p a) (past q) = absurd (omega arith)
bounds_only (next {d} p a) (next q b) = ap (λ l. d ∷ l) (bounds_only a b)

bounds_more : {largest larger d : ℕ} {ds es : List ℕ} → largest ≤ larger → Bounds largest d ds → Bounds larger d es → (more : List ℕ) × (es ≡ ds ++ more)
bounds_more {es = es} h (past p) b = (es, refl)
bounds_more h (next p a) (past q) = absurd (omega arith)
bounds_more h (next {d} p a) (next q b) = let r = bounds_more h a b in (r.0, ap (λ l. d ∷ l) r.1)

pub bounds_grow : (largest larger : ℕ) → largest ≤ larger → (more : List ℕ) × (bounds larger ≡ bounds largest ++ more)
bounds_grow largest larger h = bounds_more h (bounds_ok largest) (bounds_ok larger)

-- A tower while it is built.
use Prim.Native.Nat.{ℕ, zero, suc, ◌+◌, ◌*◌, ◌≤◌, ◌<◌}
use native.Mathlib.Omega.{arith}
use mathlib.Core.Path.{◌≡◌}
use Rattle.std.proofs.lemmas.Nat.{mul-le}
use Rattle.samples.specs.Building.{Level, raised, raised_by}

-- After so many nodes: as many are left as lead to the whole tower, and to its end.
pub record Rising (room arity height counter end : ℕ) (l whole : Level) : Type 0 where
  pub left : ℕ
  pub is : left + counter ≡ height
  pub raises : raised_by left room arity l ≡ whole
  pub ahead : l.next + left * (1 + arity) ≡ end

-- The greatest end.
pub least_end : (at height arity : ℕ) → at ≤ 262144 → height ≤ 262144 → arity ≤ 16 → at + height * (1 + arity) ≤ 4718592
least_end at height arity a h n = let m = mul-le height (1 + arity) 262144 17 h (omega arith) in omega (arith, m)

module _ {room arity height counter end : ℕ} {l whole : Level} (h : Rising room arity height counter end l whole) where
  -- One node more,
  pub risen : counter < height → Rising room arity height (counter + 1) end (raised room arity l) whole
  risen below = go h.left h.is h.raises h.ahead
    where
      go : (n : ℕ) → n + counter ≡ height → raised_by n room arity l ≡ whole → l.next + n * (1 + arity) ≡ end
          → Rising room arity height (counter + 1) end (raised room arity l) whole
      go zero i r a = absurd (omega arith)
      go (suc n) i r a = record { left = n; is = omega arith; raises = r; ahead = omega arith }

  -- for which there is room;
  pub here : counter < height → l.next + (1 + arity) ≤ end
  here below = go h.left h.is h.ahead
    where
      go : (n : ℕ) → n + counter ≡ height → l.next + n * (1 + arity) ≡ end → l.next + (1 + arity) ≤ end
      go zero i a = absurd (omega arith)
      go (suc n) i a = omega arith

  -- at the end it is the whole.
  pub whole_is : height ≤ counter → counter ≤ height → l ≡ whole
  whole_is above below = go h.left h.is h.raises
    where
      go : (n : ℕ) → n + counter ≡ height → raised_by n room arity l ≡ whole → l ≡ whole
      go zero i r = r
      go (suc n) i r = absurd (omega arith)

-- The address behind so many nodes more.
pub next_behind : (n room arity : ℕ) (l : Level) → (raised_by n room arity l).next ≡ l.next + n * (1 + arity)
next_behind zero room arity l = omega arith
next_behind (suc n) room arity l = let h = next_behind n room arity (raised room arity l) in omega (arith, h)

-- Laws of the checks of a symbol.
use mathlib.Core.Path.{◌≡◌, refl, sym}
use mathlib.Core.Bool.{Bool, true, false, cond, ◌&&◌}
use mathlib.Core.List.{List}
use Prim.Native.Nat.{ℕ, ◌≤◌, ◌<◌}
use native.Mathlib.Omega.{arith}
use lib.ListN.{length}
use lib.Dec.{eqb, ltb}
use borrow.Author.Tests.{eq-eqb, ne_eqb, lt-ltb, le-ltb, eqb-true}
use Rattle.names.specs.Symbols.{column, columns, symbol_of}
use Rattle.names.specs.SearchLaws.{columns_length}
use Rattle.patterns.specs.Patterns.{misfit}

-- the checks of a symbol
pub no_fun : (f s : ℕ) → (f ≡ 1 → ⊥) → ◌&&◌ (eqb f 1) (ltb 0 s) ≡ false
no_fun f s h = simp (ne_eqb f 1 h)

pub no_term : (f s : ℕ) → s ≤ 0 → ◌&&◌ (eqb f 1) (ltb 0 s) ≡ false
no_term f s h = simp (le-ltb 0 s h) (go (eqb f 1))
  where
    go : (t : Bool) → ◌&&◌ t false ≡ false
    go true = refl
    go false = refl

module _ (text r : List ℕ) (s k : ℕ) where
  pub misfit_22 : column r 3 ≡ 1 → 0 < s → 22 ≡ misfit (symbol_of text r) s k
  unfolding symbol_of
  misfit_22 f l = simp (eq-eqb _ _ f, lt-ltb 0 s l)

  module _ (f : ◌&&◌ (eqb (column r 3) 1) (ltb 0 s) ≡ false) where
    pub misfit_23 : (column r 2 ≡ s → ⊥) → 23 ≡ misfit (symbol_of text r) s k
    unfolding symbol_of
    misfit_23 o = simp (f, ne_eqb _ _ o)

    module _ (o : column r 2 ≡ s) where
      pub misfit_21 : (column r 6 ≡ k → ⊥) → 21 ≡ misfit (symbol_of text r) s k
      unfolding symbol_of
      misfit_21 h = simp (f, eq-eqb _ _ o, columns_length, ne_eqb (column r 6) k h)

      pub misfit_0 : column r 6 ≡ k → 0 ≡ misfit (symbol_of text r) s k
      unfolding symbol_of
      misfit_0 h = simp (f, eq-eqb _ _ o, columns_length, eq-eqb _ _ h)

pub misfit_args : (text r : List ℕ) (s k : ℕ) → 0 ≡ misfit (symbol_of text r) s k → k ≡ column r 6
unfolding symbol_of
misfit_args text r s k e = sym (eqb-true (column r 6) k (rw columns_length at (go (◌&&◌ (eqb (column r 3) 1) (ltb 0 s)) (eqb (column r 2) s) (eqb (length (columns r 8 (column r 6))) k) e)))
  where
    go : (a b c : Bool) → ◌≡◌ {A = ℕ} 0 (cond a 22 (cond b (cond c 0 21) 23)) → c ≡ true
    go true b c e = absurd (omega arith)
    go false false c e = absurd (omega arith)
    go false true false e = absurd (omega arith)
    go false true true e = refl

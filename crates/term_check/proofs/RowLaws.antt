-- The ways out of the functions that test one row.
use Prim.Native.Nat.{ℕ, ◌<◌, min}
use Rattle.terms.specs.Numbers.{by_bool}
use Rattle.std.specs.Option.{option_eq}
use Rattle.term_parser.specs.Grammar.{held_of}
use native.Mathlib.Omega.{arith}
use mathlib.Core.Path.{◌≡◌, refl, sym, ◌∙◌}
use mathlib.Core.Bool.{Bool, true, false, cond, not}
use mathlib.Core.Logic.{◌⊎◌, inl, inr}
use mathlib.Core.List.{List}
use native.Mathlib.Decide.{dec_lt}
use lib.Dec.{eqb}
use borrow.Author.Tests.{eq-eqb, ne_eqb, eqb-true}
use Rattle.source_text.specs.Numerals.{numeral_of}
use Rattle.std.specs.Prelude.{Option, Some, None}
use Rattle.std.specs.Bool.{then_some}
use Rattle.names.specs.NamePlaces.{is_word_place}
use Rattle.names.specs.Symbols.{column}
use Rattle.term_check.specs.Walk.{is_held, word_in, top_of}

-- A row holds the value that is read at its place.
eqb_swap : (a b : ℕ) → eqb a b ≡ eqb b a
eqb_swap a b =
    by_bool (eqb a b)
    (λ e. e ∙ sym (eq-eqb b a (sym (eqb-true a b e))))
    (λ e. e ∙ sym (ne_eqb b a (λ f. absurd (let g : eqb a b ≡ true = eq-eqb a b (sym f) in let z : ◌≡◌ {A = ℕ} 0 1 = cc in omega arith))))

pub held_is : (v : Option ℕ) (k : ℕ) → option_eq eqb (held_of v) (Some k) ≡ is_held v k
held_is (Some v) k = eqb_swap (min v 4294967295) k
held_is None k = refl

-- A row
module _ (text row : List ℕ) where
  pub top_nowhere : is_word_place text (column row 1) (column row 2) ≡ false → None ≡ top_of text row
  unfolding top_of
  top_nowhere w = simp w

  module _ (w : is_word_place text (column row 1) (column row 2) ≡ true) where
    pub top_numeral : column row 0 ≡ 14 → (held : Bool) → held ≡ is_held (numeral_of (word_in text row)) (column row 3) → then_some {T = ℕ} held 0 ≡ top_of text row
    unfolding top_of
    top_numeral a held h = simp (w, eq-eqb (column row 0) 14 a, ← h) (go held)
      where
        go : (b : Bool) → then_some {T = ℕ} b 0 ≡ cond b (Some 0) None
        go true = refl
        go false = refl

    pub top_application : column row 0 ≡ 24 → then_some (not (eqb (column row 3) 0)) (column row 3) ≡ top_of text row
    unfolding top_of
    top_application b = simp (w, b) (go (eqb (column row 3) 0))
      where
        go : (z : Bool) → then_some (not z) (column row 3) ≡ cond z None (Some (column row 3))
        go true = refl
        go false = refl

    either_word : (column row 0 ≡ 13) ⊎ (column row 0 ≡ 12) → then_some {T = ℕ} (eqb (column row 3) 0) 0 ≡ top_of text row
    unfolding top_of
    either_word (inl e) = simp (w, e) (go (eqb (column row 3) 0))
      where
        go : (b : Bool) → then_some {T = ℕ} b 0 ≡ cond b (Some 0) None
        go true = refl
        go false = refl
    either_word (inr e) = simp (w, e) (go (eqb (column row 3) 0))
      where
        go : (b : Bool) → then_some {T = ℕ} b 0 ≡ cond b (Some 0) None
        go true = refl
        go false = refl

    pub top_word : 11 < column row 0 → column row 0 < 14 → then_some {T = ℕ} (eqb (column row 3) 0) 0 ≡ top_of text row
    top_word a b = either_word (go (dec_lt (column row 0) 13))
      where
        go : Dec (column row 0 < 13) → (column row 0 ≡ 13) ⊎ (column row 0 ≡ 12)
        go (yes c) = inr (omega arith)
        go (no c) = inl (omega arith)

    pub top_other : (column row 0 ≡ 14 → ⊥) → (column row 0 ≡ 24 → ⊥) → (column row 0 ≡ 13 → ⊥) → (column row 0 ≡ 12 → ⊥) → None ≡ top_of text row
    unfolding top_of
    top_other a b m n = simp (w, ne_eqb _ _ a, ne_eqb _ _ b, ne_eqb _ _ m, ne_eqb _ _ n) (go (eqb (column row 3) 0))
      where
        go : (b : Bool) → ◌≡◌ {A = Option ℕ} None (cond b None None)
        go true = refl
        go false = refl

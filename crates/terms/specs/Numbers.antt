-- Tests on numbers that compute to a Bool, and reasoning by their cases.
use Rattle.std.specs.Prelude.{ℕ, ◌≤◌, ◌<◌, ◌≡◌, refl, Bool, true, false, ◌≢◌, T, ltb, eqb}
use Rattle.std.proofs.Common.{sym, ◌∙◌, subst, arith, lt-ltb, le-ltb, ltb-true, ltb-false, eqb→eq}
use Rattle.std.proofs.Math.Option.{Option, none, some}
use Rattle.std.proofs.Math.Dec.{eqb_refl}
-- The library's laws of a choice between two tests.
pub use Rattle.std.proofs.lemmas.Bool.{or_parts as or_false, or_left, or_right}
pub use Rattle.std.proofs.Math.Bool.{or_assoc, or-true as or_true, or-false as or_no}

-- Are two numbers the same?
unfoldable pub same : ℕ → ℕ → Bool
same x y = eqb x y

-- Is the first number less than the second?
unfoldable pub less : ℕ → ℕ → Bool
less x y = ltb x y

-- Laws

pub by_bool {ℓ} : {P : Type ℓ} (b : Bool) → (b ≡ true → P) → (b ≡ false → P) → P
by_bool true f g = f refl
by_bool false f g = g refl

pub true_false {ℓ} : {P : Type ℓ} {b : Bool} → b ≡ true → b ≡ false → P
true_false p q = absurd (subst T (sym p ∙ q) tt)

pub some_none {ℓ κ} : {A : Type ℓ} {P : Type κ} {a : A} {o : Option A} → o ≡ some a → o ≡ none → P
some_none p q = absurd (let w : ◌≡◌ {A = ℕ} 0 1 = cc in omega arith)

pub none_some {ℓ κ} : {A : Type ℓ} {P : Type κ} {a : A} → none ≡ some a → P
none_some e = some_none e refl

pub same_refl : (x : ℕ) → same x x ≡ true
unfolding same
same_refl x = go (eqb x x) (eqb_refl x)
  where
    go : (b : Bool) → T b → b ≡ true
    go true h = refl
    go false h = absurd h

pub same_true : {x y : ℕ} → same x y ≡ true → x ≡ y
unfolding same
same_true {x} {y} e = eqb→eq x y (subst T (sym e) tt)

pub same_ne : {x y : ℕ} → x ≢ y → same x y ≡ false
same_ne {x} {y} h = by_bool (same x y) (λ e. absurd (h (same_true e))) (λ e. e)

pub same_false : {x y : ℕ} → same x y ≡ false → x ≢ y
same_false {x} {y} e p = true_false (subst (λ z. same x z ≡ true) p (same_refl x)) e

pub by_same {ℓ} : {P : Type ℓ} (x y : ℕ) → (x ≡ y → same x y ≡ true → P) → (x ≢ y → same x y ≡ false → P) → P
by_same x y f g = by_bool (same x y) (λ e. f (same_true e) e) (λ e. g (same_false e) e)

pub same_sym : (x y : ℕ) → same x y ≡ same y x
same_sym x y = by_same x y (λ p e. e ∙ sym (subst (λ z. same y z ≡ true) (sym p) (same_refl y))) (λ n e. e ∙ sym (same_ne (λ p. n (sym p))))

pub less_yes : {x y : ℕ} → x < y → less x y ≡ true
unfolding less
less_yes {x} {y} h = lt-ltb x y h

pub less_no : {x y : ℕ} → y ≤ x → less x y ≡ false
unfolding less
less_no {x} {y} h = le-ltb x y h

pub by_less {ℓ} : {P : Type ℓ} (x y : ℕ) → (x < y → less x y ≡ true → P) → (y ≤ x → less x y ≡ false → P) → P
unfolding less
by_less x y f g = by_bool (ltb x y) (λ e. f (ltb-true x y e) e) (λ e. g (ltb-false x y e) e)

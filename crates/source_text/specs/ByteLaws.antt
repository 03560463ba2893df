-- Reasoning by a test's two answers, and the parts of a test that is true. Lists of bytes that are the same byte by byte are equal.
use Rattle.std.specs.Prelude.{◌≡◌, refl, Bool, true, false, ◌&&◌, List, [], ◌∷◌, ℕ, eqb}
use Rattle.std.proofs.Common.{arith, eqb-true, eq-eqb}
use Rattle.source_text.specs.Bytes.{same_bytes}

pub by_bool {ℓ} : {P : Type ℓ} (b : Bool) → (b ≡ true → P) → (b ≡ false → P) → P
by_bool true f g = f refl
by_bool false f g = g refl

pub and_left : (x y : Bool) → (x && y) ≡ true → x ≡ true
and_left true y h = refl
and_left false y h = h

pub and_right : (x y : Bool) → (x && y) ≡ true → y ≡ true
and_right true y h = h
and_right false y h = absurd (let z : ◌≡◌ {A = ℕ} 0 1 = cc in omega arith)

pub same_is : (v w : List ℕ) → same_bytes v w ≡ true → v ≡ w
unfolding same_bytes
same_is [] [] e = refl
same_is [] (b ∷ w) e = absurd (let z : ◌≡◌ {A = ℕ} 0 1 = cc in omega arith)
same_is (a ∷ v) [] e = absurd (let z : ◌≡◌ {A = ℕ} 0 1 = cc in omega arith)
same_is (a ∷ v) (b ∷ w) e =
    let p : a ≡ b = eqb-true a b (and_left (eqb a b) (same_bytes v w) e) in
    let q : v ≡ w = same_is v w (and_right (eqb a b) (same_bytes v w) e) in
    cc

pub same_itself : (v : List ℕ) → same_bytes v v ≡ true
unfolding same_bytes
same_itself [] = refl
same_itself (a ∷ v) = rw (eq-eqb a a refl) (same_itself v)

-- Reasoning by the order of two numbers, and the pigeonhole: k different numbers below n are at most n.
use Rattle.std.specs.Prelude.{ℕ, zero, suc, ◌-◌, ◌≤◌, ◌<◌, ◌≡◌, refl, cond, ◌⊎◌, ◌≢◌}
use Rattle.std.proofs.Common.{zero-le, arith, sym, ◌∙◌, inl, inr, ⊎_elim}
pub use Rattle.std.proofs.lemmas.Bool.{cases_lt as low_or_high}
use Rattle.terms.specs.Numbers.{same, same_refl, same_ne, by_same, by_less}

pub by_order {ℓ} : {P : Type ℓ} (x y : ℕ) → (x < y → P) → (y ≤ x → P) → P
by_order x y f g = by_less x y (λ l e. f l) (λ l e. g l)

pub same_or_not : (a b : ℕ) → (a ≡ b) ⊎ (a ≢ b)
same_or_not a b = by_same a b (λ p e. inl p) (λ p e. inr p)

pub not_zero : (x : ℕ) → x ≢ 0 → x ≡ suc (x - 1)
not_zero zero n = absurd (n refl)
not_zero (suc x) n = omega arith

-- A function with another value at one place.
abbrev pub put : (ℕ → ℕ) → ℕ → ℕ → ℕ → ℕ
put f i v j = cond (same j i) v (f j)

pub put_at : (f : ℕ → ℕ) (i v : ℕ) → put f i v i ≡ v
put_at f i v = rw (same_refl i)

pub put_off : (f : ℕ → ℕ) (i v j : ℕ) → j ≢ i → put f i v j ≡ f j
put_off f i v j n = rw (same_ne n)

-- f, with the value n replaced by f k
swap : (ℕ → ℕ) → ℕ → ℕ → ℕ → ℕ
swap f n k i = cond (same (f i) n) (f k) (f i)

swap_at : (f : ℕ → ℕ) (n k i : ℕ) → f i ≡ n → swap f n k i ≡ f k
unfolding swap
swap_at f n k i e = rw (e, same_refl n)

swap_off : (f : ℕ → ℕ) (n k i : ℕ) → f i ≢ n → swap f n k i ≡ f i
unfolding swap
swap_off f n k i e = rw (same_ne e)

pub pigeonhole : (n k : ℕ) (f : ℕ → ℕ) → ((i : ℕ) → i < k → f i < n) → ((i j : ℕ) → i < k → j < k → f i ≡ f j → i ≡ j) → k ≤ n
pigeonhole n zero f b inj = zero-le
pigeonhole zero (suc k) f b inj = let h = b 0 (omega arith) in omega arith
pigeonhole (suc n) (suc k) f b inj =
    let ih : k ≤ n = pigeonhole n k (swap f n k)
    (λ i p. ⊎_elim
    (λ e. let x = b k (omega arith) in let s = swap_at f n k i e in
    let ne : f k ≡ n → ⊥ = (λ q. let z = inj i k (omega arith) (omega arith) (e ∙ sym q) in omega arith) in omega arith)
    (λ e. let x = b i (omega arith) in let s = swap_off f n k i e in omega arith)
    (same_or_not (f i) n))
    (λ i j p q s. ⊎_elim
    (λ e. ⊎_elim
    (λ d. inj i j (omega arith) (omega arith) (e ∙ sym d))
    (λ d. let z = inj k j (omega arith) (omega arith) (sym (swap_at f n k i e) ∙ s ∙ swap_off f n k j d) in omega arith)
    (same_or_not (f j) n))
    (λ e. ⊎_elim
    (λ d. let z = inj i k (omega arith) (omega arith) (sym (swap_off f n k i e) ∙ s ∙ swap_at f n k j d) in omega arith)
    (λ d. inj i j (omega arith) (omega arith) (sym (swap_off f n k i e) ∙ s ∙ swap_off f n k j d))
    (same_or_not (f j) n))
    (same_or_not (f i) n)) in
    omega arith

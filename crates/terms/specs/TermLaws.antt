-- Laws of terms and substitutions: composition, agreement, occurrence, size, and bounds on variables.
use Rattle.std.specs.Prelude.{ℕ, suc, ◌≤◌, ◌<◌, ◌≡◌, refl, true, false}
use Rattle.std.proofs.Common.{ap, ap₂, ◌∙◌, subst, arith, le_refl}
use Rattle.terms.specs.Numbers.{same_refl, same_true, same_ne, by_bool, true_false, or_left, or_right}
use Rattle.terms.specs.Term.{Kind, Syn, var, app, nil, cons, Term, Terms, count, append, Subst, sub, compose, upd, mem, size, Below, From}

-- Constructors

pub app_inj : (f g : ℕ) (ts us : Terms) → app f ts ≡ app g us → (f ≡ g) × (ts ≡ us)
app_inj f g ts us e = (cc, cc)

pub cons_inj : (t u : Term) (ts us : Terms) → cons t ts ≡ cons u us → (t ≡ u) × (ts ≡ us)
cons_inj t u ts us e = (cc, cc)

pub var_inj : {x y : ℕ} {t : Term} → t ≡ var x → t ≡ var y → x ≡ y
var_inj p q = cc

pub var_app {ℓ} : {P : Type ℓ} {x f : ℕ} {ts : Terms} {t : Term} → t ≡ var x → t ≡ app f ts → P
var_app p q = absurd (let w : ◌≡◌ {A = ℕ} 0 1 = cc in omega arith)

pub nil_cons {ℓ} : {P : Type ℓ} {t : Term} {ts us : Terms} → us ≡ nil → us ≡ cons t ts → P
nil_cons p q = absurd (let w : ◌≡◌ {A = ℕ} 0 1 = cc in omega arith)

-- Substitutions

pub sub_var : {s : Kind} (t : Syn s) → sub var t ≡ t
sub_var (var x) = refl
sub_var (app f ts) = ap (app f) (sub_var ts)
sub_var nil = refl
sub_var (cons t ts) = ap₂ cons (sub_var t) (sub_var ts)

pub sub_sub : {s : Kind} (σ τ : Subst) (t : Syn s) → sub τ (sub σ t) ≡ sub (compose σ τ) t
sub_sub σ τ (var x) = refl
sub_sub σ τ (app f ts) = ap (app f) (sub_sub σ τ ts)
sub_sub σ τ nil = refl
sub_sub σ τ (cons t ts) = ap₂ cons (sub_sub σ τ t) (sub_sub σ τ ts)

-- Agreeing on the variables that occur is enough.
pub sub_mem : {s : Kind} (σ τ : Subst) (t : Syn s) → ((x : ℕ) → mem x t ≡ true → σ x ≡ τ x) → sub σ t ≡ sub τ t
unfolding mem
sub_mem σ τ (var x) h = h x (same_refl x)
sub_mem σ τ (app f ts) h = ap (app f) (sub_mem σ τ ts h)
sub_mem σ τ nil h = refl
sub_mem σ τ (cons t ts) h = ap₂ cons
    (sub_mem σ τ t (λ x e. h x (or_left (mem x t) (mem x ts) e)))
    (sub_mem σ τ ts (λ x e. h x (or_right (mem x t) (mem x ts) e)))

pub sub_ext : {s : Kind} (σ τ : Subst) → ((x : ℕ) → σ x ≡ τ x) → (t : Syn s) → sub σ t ≡ sub τ t
sub_ext σ τ h t = sub_mem σ τ t (λ x e. h x)

-- A term put for a variable that does not occur changes nothing.
pub sub_upd : {s : Kind} (x : ℕ) (u : Term) (σ : Subst) (t : Syn s) → mem x t ≡ false → sub (upd x u σ) t ≡ sub σ t
sub_upd x u σ t e = sub_mem (upd x u σ) σ t (λ y h. rw (same_ne {x = y} {y = x} (λ p. true_false h (rw p e))))

pub sub_single : {s : Kind} (x : ℕ) (u : Term) (t : Syn s) → mem x t ≡ false → sub (upd x u var) t ≡ t
sub_single x u t e = sub_upd x u var t e ∙ sub_var t

-- Lists of terms

pub sub_append : (σ : Subst) (ts us : Terms) → sub σ (append ts us) ≡ append (sub σ ts) (sub σ us)
sub_append σ nil us = refl
sub_append σ (cons t ts) us = ap (cons (sub σ t)) (sub_append σ ts us)

pub count_sub : (σ : Subst) (ts : Terms) → count (sub σ ts) ≡ count ts
count_sub σ nil = refl
count_sub σ (cons t ts) = ap suc (count_sub σ ts)

-- Occurrence after a substitution: x occurs in what is put for some y that occurs.
pub record Through {s : Kind} (x : ℕ) (σ : Subst) (t : Syn s) : Type 0 where
  pub y : ℕ
  pub here : mem y t ≡ true
  pub there : mem x (σ y) ≡ true

pub mem_through : {s : Kind} (x : ℕ) (σ : Subst) (t : Syn s) → mem x (sub σ t) ≡ true → Through x σ t
unfolding mem
mem_through x σ (var y) e = record { y = y; here = same_refl y; there = e }
mem_through x σ (app f ts) e = let r = mem_through x σ ts e in record { y = r.y; here = r.here; there = r.there }
mem_through x σ nil e = true_false e refl
mem_through x σ (cons t ts) e = by_bool (mem x (sub σ t))
    (λ p. let r = mem_through x σ t p in record { y = r.y; here = or_left (mem r.y t) (mem r.y ts) r.here; there = r.there })
    (λ p. let r = mem_through x σ ts (rw p at e) in record { y = r.y; here = or_right (mem r.y t) (mem r.y ts) r.here; there = r.there })

pub through_mem : {s : Kind} (x y : ℕ) (σ : Subst) (t : Syn s) → mem y t ≡ true → mem x (σ y) ≡ true → mem x (sub σ t) ≡ true
unfolding mem
through_mem x y σ (var z) e h = subst (λ v. mem x (σ v) ≡ true) (same_true e) h
through_mem x y σ (app f ts) e h = through_mem x y σ ts e h
through_mem x y σ nil e h = true_false e refl
through_mem x y σ (cons t ts) e h = by_bool (mem y t)
    (λ p. or_left (mem x (sub σ t)) (mem x (sub σ ts)) (through_mem x y σ t p h))
    (λ p. or_right (mem x (sub σ t)) (mem x (sub σ ts)) (through_mem x y σ ts (rw p at e) h))

pub mem_var : {x y : ℕ} → mem x (var y) ≡ true → x ≡ y
unfolding mem
mem_var e = same_true e

-- Sizes

pub size_pos : {s : Kind} (t : Syn s) → 0 < size t
size_pos (var x) = omega arith
size_pos (app f ts) = omega arith
size_pos nil = omega arith
size_pos (cons t ts) = omega arith

-- Where x occurs, what is put for it is inside.
pub size_mem : {s : Kind} (x : ℕ) (σ : Subst) (t : Syn s) → mem x t ≡ true → size (σ x) ≤ size (sub σ t)
unfolding mem
size_mem x σ (var y) e = rw (same_true e) (le_refl _)
size_mem x σ (app f ts) e = let h = size_mem x σ ts e in omega arith
size_mem x σ nil e = true_false e refl
size_mem x σ (cons t ts) e = by_bool (mem x t)
    (λ p. let h = size_mem x σ t p in omega arith)
    (λ p. let h = size_mem x σ ts (rw p at e) in omega arith)

-- Bounds on variables

pub below_sub : {s : Kind} (c d : ℕ) (σ : Subst) → ((x : ℕ) → x < c → Below d (σ x)) → (t : Syn s) → Below c t → Below d (sub σ t)
below_sub c d σ h (var x) b = h x b
below_sub c d σ h (app f ts) b = below_sub c d σ h ts b
below_sub c d σ h nil b = tt
below_sub c d σ h (cons t ts) b = (below_sub c d σ h t b.0, below_sub c d σ h ts b.1)

pub below_le : {s : Kind} {c d : ℕ} → c ≤ d → (t : Syn s) → Below c t → Below d t
below_le h (var x) b = omega arith
below_le h (app f ts) b = below_le h ts b
below_le h nil b = tt
below_le h (cons t ts) b = (below_le h t b.0, below_le h ts b.1)

pub below_append : (c : ℕ) (ts us : Terms) → Below c ts → Below c us → Below c (append ts us)
below_append c nil us b h = h
below_append c (cons t ts) us b h = (b.0, below_append c ts us b.1 h)

pub below_mem : {s : Kind} (c : ℕ) (t : Syn s) → Below c t → (x : ℕ) → mem x t ≡ true → x < c
unfolding mem
below_mem c (var y) b x e = rw (same_true e) b
below_mem c (app f ts) b x e = below_mem c ts b x e
below_mem c nil b x e = true_false e refl
below_mem c (cons t ts) b x e = by_bool (mem x t) (λ p. below_mem c t b.0 x p) (λ p. below_mem c ts b.1 x (rw p at e))

pub from_mem : {s : Kind} (c : ℕ) (t : Syn s) → From c t → (x : ℕ) → mem x t ≡ true → c ≤ x
unfolding mem
from_mem c (var y) b x e = rw (same_true e) b
from_mem c (app f ts) b x e = from_mem c ts b x e
from_mem c nil b x e = true_false e refl
from_mem c (cons t ts) b x e = by_bool (mem x t) (λ p. from_mem c t b.0 x p) (λ p. from_mem c ts b.1 x (rw p at e))

pub sub_agree : {s : Kind} (c : ℕ) (σ τ : Subst) → ((x : ℕ) → x < c → σ x ≡ τ x) → (t : Syn s) → Below c t → sub σ t ≡ sub τ t
sub_agree c σ τ h t b = sub_mem σ τ t (λ x e. h x (below_mem c t b x e))

pub sub_from : {s : Kind} (c : ℕ) (σ τ : Subst) → ((x : ℕ) → c ≤ x → σ x ≡ τ x) → (t : Syn s) → From c t → sub σ t ≡ sub τ t
sub_from c σ τ h t b = sub_mem σ τ t (λ x e. h x (from_mem c t b x e))

-- Laws of fresh instances: numbers given once stay, lie in the range from the counter on, and can be given any terms, whatever older variables stand for.
-- The definitions that it speaks of are in specs/FreshLaws.
use Rattle.std.specs.Prelude.{ℕ, suc, ◌+◌, ◌-◌, ◌≤◌, ◌<◌, ◌≡◌, refl, true, List, [], ◌∷◌, ◌++◌, length, get_or}
use Rattle.std.proofs.Common.{ap, ap₂, sym, ◌∙◌, append_assoc, append-nil, arith, length-append}
use Rattle.terms.specs.Numbers.{same, same_refl, same_true, by_bool, true_false, less_yes, less_no}
use Rattle.terms.specs.Term.{Kind, Syn, var, app, nil, cons, Terms, Subst, sub, Below, From}
use Rattle.resolution.specs.Rules.{Rule}
use Rattle.resolution.specs.Fresh.{elem, met, met_back, place, fresh, head_vars, all_vars, head, body}
use Rattle.resolution.specs.FreshLaws.{Covers, Grows, lift}

pub grows_refl : (e : List ℕ) → Grows e e
grows_refl e = ([], sym (append-nil e))

pub grows_trans : (a b c : List ℕ) → Grows a b → Grows b c → Grows a c
grows_trans a b c g h = (g.0 ++ h.0, h.1 ∙ ap (λ l. l ++ h.0) g.1 ∙ append_assoc a g.0 h.0)

pub met_grows : {s : Kind} (t : Syn s) (e : List ℕ) → Grows e (met t e)
met_grows (var x) e = by_bool (elem x e) (λ p. rw p (grows_refl e)) (λ p. rw p (x ∷ [], refl))
met_grows (app f ts) e = met_grows ts e
met_grows nil e = grows_refl e
met_grows (cons t ts) e = grows_trans e (met t e) (met ts (met t e)) (met_grows t e) (met_grows ts (met t e))

pub met_back_grows : (ts : Terms) (e : List ℕ) → Grows e (met_back ts e)
met_back_grows nil e = grows_refl e
met_back_grows (cons t ts) e = grows_trans e (met_back ts e) (met t (met_back ts e)) (met_back_grows ts e) (met_grows t (met_back ts e))

elem_append : (x : ℕ) (e s : List ℕ) → elem x e ≡ true → elem x (e ++ s) ≡ true
elem_append x [] s h = true_false h refl
elem_append x (y ∷ e) s h = by_bool (same x y) (λ p. rw p) (λ p. rw p (elem_append x e s (rw p at h)))

pub elem_last : (x : ℕ) (e : List ℕ) → elem x (e ++ (x ∷ [])) ≡ true
elem_last x [] = rw same_refl
elem_last x (y ∷ e) = by_bool (same x y) (λ p. rw p) (λ p. rw p (elem_last x e))

pub covers_grows : {s : Kind} (t : Syn s) (e e' : List ℕ) → Grows e e' → Covers e t → Covers e' t
covers_grows (var x) e e' g h = rw g.1 (elem_append x e g.0 h)
covers_grows (app f ts) e e' g h = covers_grows ts e e' g h
covers_grows nil e e' g h = tt
covers_grows (cons t ts) e e' g h = (covers_grows t e e' g h.0, covers_grows ts e e' g h.1)

pub met_covers : {s : Kind} (t : Syn s) (e : List ℕ) → Covers (met t e) t
met_covers (var x) e = by_bool (elem x e) (λ p. rw p p) (λ p. rw p (elem_last x e))
met_covers (app f ts) e = met_covers ts e
met_covers nil e = tt
met_covers (cons t ts) e = (covers_grows t (met t e) (met ts (met t e)) (met_grows ts (met t e)) (met_covers t e), met_covers ts (met t e))

pub met_back_covers : (ts : Terms) (e : List ℕ) → Covers (met_back ts e) ts
met_back_covers nil e = tt
met_back_covers (cons t ts) e = (met_covers t (met_back ts e), covers_grows ts (met_back ts e) (met t (met_back ts e)) (met_grows t (met_back ts e)) (met_back_covers ts e))

pub place_append : (x : ℕ) (e s : List ℕ) → elem x e ≡ true → place (e ++ s) x ≡ place e x
place_append x [] s h = true_false h refl
place_append x (y ∷ e) s h = by_bool (same x y) (λ p. rw p) (λ p. rw p (ap suc (place_append x e s (rw p at h))))

pub place_lt : (x : ℕ) (e : List ℕ) → elem x e ≡ true → place e x < length e
place_lt x [] h = true_false h refl
place_lt x (y ∷ e) h = by_bool (same x y) (λ p. rw p (omega arith)) (λ p. rw p (let i = place_lt x e (rw p at h) in omega arith))

pub at_place : (x : ℕ) (e : List ℕ) → elem x e ≡ true → get_or e (place e x) 0 ≡ x
at_place x [] h = true_false h refl
at_place x (y ∷ e) h = by_bool (same x y) (λ p. rw p (sym (same_true p))) (λ p. rw p (at_place x e (rw p at h)))

-- Numbers given once stay.
pub fresh_grows : {s : Kind} (c : ℕ) (t : Syn s) (e e' : List ℕ) → Grows e e' → Covers e t → sub (fresh c e') t ≡ sub (fresh c e) t
fresh_grows c (var x) e e' g h = ap (λ n. var (c + n)) (ap (λ l. place l x) g.1 ∙ place_append x e g.0 h)
fresh_grows c (app f ts) e e' g h = ap (app f) (fresh_grows c ts e e' g h)
fresh_grows c nil e e' g h = refl
fresh_grows c (cons t ts) e e' g h = ap₂ cons (fresh_grows c t e e' g h.0) (fresh_grows c ts e e' g h.1)

pub fresh_below : {s : Kind} (c : ℕ) (t : Syn s) (e : List ℕ) → Covers e t → Below (c + length e) (sub (fresh c e) t)
fresh_below c (var x) e h = omega (arith, place_lt x e h)
fresh_below c (app f ts) e h = fresh_below c ts e h
fresh_below c nil e h = tt
fresh_below c (cons t ts) e h = (fresh_below c t e h.0, fresh_below c ts e h.1)

pub fresh_from : {s : Kind} (c : ℕ) (t : Syn s) (e : List ℕ) → From c (sub (fresh c e) t)
fresh_from c (var x) e = omega arith
fresh_from c (app f ts) e = fresh_from c ts e
fresh_from c nil e = tt
fresh_from c (cons t ts) e = (fresh_from c t e, fresh_from c ts e)

pub lift_old : (c : ℕ) (e : List ℕ) (σ θ : Subst) (y : ℕ) → y < c → lift c e σ θ y ≡ σ y
lift_old c e σ θ y h = rw (less_yes h)

pub lift_new : {s : Kind} (c : ℕ) (e : List ℕ) (σ θ : Subst) (t : Syn s) → Covers e t → sub (lift c e σ θ) (sub (fresh c e) t) ≡ sub θ t
lift_new c e σ θ (var x) h = rw (less_no {x = c + place e x} {y = c} (omega arith))
    (let q : c + place e x - c ≡ place e x = omega arith in rw q (ap θ (at_place x e h)))
lift_new c e σ θ (app f ts) h = ap (app f) (lift_new c e σ θ ts h)
lift_new c e σ θ nil h = refl
lift_new c e σ θ (cons t ts) h = ap₂ cons (lift_new c e σ θ t h.0) (lift_new c e σ θ ts h.1)

-- A rule's fresh instance.
pub head_below : (c : ℕ) (R : Rule) → Below (c + length (head_vars R)) (head c R)
head_below c R = fresh_below c R.conclusion (head_vars R) (met_covers R.conclusion [])

pub body_below : (c : ℕ) (R : Rule) → Below (c + length (all_vars R)) (body c R)
body_below c R = fresh_below c R.premises (all_vars R) (met_back_covers R.premises (head_vars R))

pub vars_le : (c : ℕ) (R : Rule) → c + length (head_vars R) ≤ c + length (all_vars R)
vars_le c R = let (s, e) = met_back_grows R.premises (head_vars R) in omega (arith, ap length e, length-append (head_vars R) s)

pub head_all : (c : ℕ) (R : Rule) → sub (fresh c (all_vars R)) R.conclusion ≡ head c R
head_all c R = fresh_grows c R.conclusion (head_vars R) (all_vars R) (met_back_grows R.premises (head_vars R)) (met_covers R.conclusion [])

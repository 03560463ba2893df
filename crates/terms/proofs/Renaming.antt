-- Unification does not depend on how variables are numbered: it commutes with every injective renaming.
-- The definitions that it speaks of are in specs/Renaming.
use Rattle.std.specs.Prelude.{ℕ, zero, suc, ◌+◌, ◌≤◌, ◌≡◌, Bool, true, false, cond, List, [], ◌∷◌}
use Rattle.std.proofs.Math.Path.{refl, ap₂}
use Rattle.std.proofs.Common.{ap, sym, ◌∙◌, subst}
use Rattle.std.proofs.Math.Bool.{◌||◌}
use Rattle.terms.specs.Numbers.{same, by_bool}
use Rattle.terms.specs.Term.{Kind, Syn, var, app, nil, cons, Term, Subst, sub, upd, mem, size, Below}
use Rattle.terms.specs.Bindings.{Bindings, start, bind, into, walk, full, res, occurs, Acyclic, BelowB}
use Rattle.terms.specs.Unification.{Eqn, eqn, eqns, Step, stop, keep, join, step, meet, Outcome, unfinished, fails, unified, sizes, proceed, work, unifies, unify}
use Rattle.terms.specs.BindingLaws.{unbound_le}
use Rattle.terms.specs.UnificationLaws.{Over}
use Rattle.terms.proofs.UnificationLaws.{unifies_over}
use Rattle.terms.proofs.Loops.{unifies_same}
use Rattle.terms.specs.Renaming.{ren, ren_b, ren_e, ren_eq, ren_o, ren_s}

module _ (ρ : ℕ → ℕ) (inj : (x y : ℕ) → same (ρ x) (ρ y) ≡ same x y) where
  pub mem_ren : {s : Kind} (x : ℕ) (t : Syn s) → mem (ρ x) (ren ρ t) ≡ mem x t
  unfolding mem
  mem_ren x (var y) = inj x y
  mem_ren x (app f ts) = mem_ren x ts
  mem_ren x nil = refl
  mem_ren x (cons t ts) = ap₂ ◌||◌ (mem_ren x t) (mem_ren x ts)

  pub size_ren : {s : Kind} (t : Syn s) → size (ren ρ t) ≡ size t
  size_ren (var y) = refl
  size_ren (app f ts) = ap suc (size_ren ts)
  size_ren nil = refl
  size_ren (cons t ts) = ap suc (ap₂ ◌+◌ (size_ren t) (size_ren ts))

  sub_ren : {s : Kind} (σ τ : Subst) → ((y : ℕ) → τ (ρ y) ≡ ren ρ (σ y)) → (t : Syn s) → sub τ (ren ρ t) ≡ ren ρ (sub σ t)
  sub_ren σ τ h (var y) = h y
  sub_ren σ τ h (app f ts) = ap (app f) (sub_ren σ τ h ts)
  sub_ren σ τ h nil = refl
  sub_ren σ τ h (cons t ts) = ap₂ cons (sub_ren σ τ h t) (sub_ren σ τ h ts)

  upd_ren : (x : ℕ) (u : Term) (y : ℕ) → upd (ρ x) (ren ρ u) var (ρ y) ≡ ren ρ (upd x u var y)
  upd_ren x u y = rw (inj y x) (by_bool (same y x) (λ e. rw e) (λ e. rw e))

  full_ren : (β : Bindings) (y : ℕ) → full (ren_b ρ β) (ρ y) ≡ ren ρ (full β y)
  full_ren start y = refl
  full_ren (bind x t β) y =
      let ih = full_ren β in
      ap (λ u. sub (upd (ρ x) u var) (full (ren_b ρ β) (ρ y))) (sub_ren (full β) (full (ren_b ρ β)) ih t)
      ∙ ap (sub (upd (ρ x) (ren ρ (res β t)) var)) (ih y)
      ∙ sub_ren (upd x (res β t) var) (upd (ρ x) (ren ρ (res β t)) var) (upd_ren x (res β t)) (full β y)

  pub res_ren : {s : Kind} (β : Bindings) (t : Syn s) → res (ren_b ρ β) (ren ρ t) ≡ ren ρ (res β t)
  res_ren β t = sub_ren (full β) (full (ren_b ρ β)) (full_ren β) t

  into_ren : (x : ℕ) (u w : Term) → into (ρ x) (ren ρ u) (ren ρ w) ≡ ren ρ (into x u w)
  into_ren x u (var y) = rw (inj y x) (by_bool (same y x) (λ e. rw e) (λ e. rw e))
  into_ren x u (app f ts) = refl

  pub walk_ren : (β : Bindings) (t : Term) → walk (ren_b ρ β) (ren ρ t) ≡ ren ρ (walk β t)
  walk_ren start t = refl
  walk_ren (bind x u β) t = ap₂ (into (ρ x)) (walk_ren β u) (walk_ren β t) ∙ into_ren x (walk β u) (walk β t)

  ren_s_cond : (b : Bool) (p q : Step) → cond b (ren_s ρ p) (ren_s ρ q) ≡ ren_s ρ (cond b p q)
  ren_s_cond true p q = refl
  ren_s_cond false p q = refl

  meet_ren : (β : Bindings) (a b : Term) (es : List Eqn) → meet (ren_b ρ β) (ren ρ a) (ren ρ b) (ren_e ρ es) ≡ ren_s ρ (meet β a b es)
  meet_ren β (var x) (var y) es = rw (inj x y) (ren_s_cond (same x y) (keep es) (join x (var y) es))
  meet_ren β (var x) (app g us) es = rw (res_ren β us, mem_ren x (app g (res β us))) (ren_s_cond (occurs β x (app g us)) stop (join x (app g us) es))
  meet_ren β (app f ts) (var y) es = rw (res_ren β ts, mem_ren y (app f (res β ts))) (ren_s_cond (occurs β y (app f ts)) stop (join y (app f ts) es))
  meet_ren β (app f ts) (app g us) es = ren_s_cond (same f g) (keep (eqns ts us ∷ es)) stop

  sizes_ren : (β : Bindings) (es : List Eqn) → sizes (ren_b ρ β) (ren_e ρ es) ≡ sizes β es
  sizes_ren β [] = refl
  sizes_ren β (eqn a b ∷ es) = ap suc (ap₂ ◌+◌ (ap₂ ◌+◌ (ap size (res_ren β a) ∙ size_ren (res β a)) (ap size (res_ren β b) ∙ size_ren (res β b))) (sizes_ren β es))
  sizes_ren β (eqns a b ∷ es) = ap suc (ap₂ ◌+◌ (ap₂ ◌+◌ (ap size (res_ren β a) ∙ size_ren (res β a)) (ap size (res_ren β b) ∙ size_ren (res β b))) (sizes_ren β es))

  step_ren : (β : Bindings) (e : Eqn) (es : List Eqn) → step (ren_b ρ β) (ren_eq ρ e) (ren_e ρ es) ≡ ren_s ρ (step β e es)
  step_ren β (eqn a b) es = ap₂ (λ u v. meet (ren_b ρ β) u v (ren_e ρ es)) (walk_ren β a) (walk_ren β b) ∙ meet_ren β (walk β a) (walk β b) es
  step_ren β (eqns nil nil) es = refl
  step_ren β (eqns nil (cons u us)) es = refl
  step_ren β (eqns (cons t ts) nil) es = refl
  step_ren β (eqns (cons t ts) (cons u us)) es = refl

  work_ren : (again again' : Bindings → List Eqn → Outcome) → ((β : Bindings) (es : List Eqn) → again' (ren_b ρ β) (ren_e ρ es) ≡ ren_o ρ (again β es))
      → (n : ℕ) (β : Bindings) (es : List Eqn) → work again' n (ren_b ρ β) (ren_e ρ es) ≡ ren_o ρ (work again n β es)
  work_ren again again' h zero β [] = refl
  work_ren again again' h zero β (e ∷ es) = refl
  work_ren again again' h (suc n) β [] = refl
  work_ren again again' h (suc n) β (e ∷ es) =
      ap (λ (s : Step). proceed s (work again' n (ren_b ρ β)) (λ x t es'. again' (bind x t (ren_b ρ β)) es')) (step_ren β e es) ∙ go (step β e es) (work_ren again again' h n β)
    where
      go : (s : Step) → ((es : List Eqn) → work again' n (ren_b ρ β) (ren_e ρ es) ≡ ren_o ρ (work again n β es))
          → proceed (ren_s ρ s) (work again' n (ren_b ρ β)) (λ x t es'. again' (bind x t (ren_b ρ β)) es')
          ≡ ren_o ρ (proceed s (work again n β) (λ x t es'. again (bind x t β) es'))
      go stop ih = refl
      go (keep es') ih = ih es'
      go (join x t es') ih = h (bind x t β) es'

  unifies_ren : (k : ℕ) (β : Bindings) (es : List Eqn) → unifies k (ren_b ρ β) (ren_e ρ es) ≡ ren_o ρ (unifies k β es)
  unifies_ren zero β es = ap (λ n. work (λ _ _. unfinished) n (ren_b ρ β) (ren_e ρ es)) (sizes_ren β es) ∙ work_ren (λ _ _. unfinished) (λ _ _. unfinished) (λ β es. refl) (sizes β es) β es
  unifies_ren (suc k) β es = ap (λ n. work (unifies k) n (ren_b ρ β) (ren_e ρ es)) (sizes_ren β es) ∙ work_ren (unifies k) (unifies k) (unifies_ren k) (sizes β es) β es

pub ren_sub : {s : Kind} (ρ : ℕ → ℕ) (σ : Subst) (t : Syn s) → ren ρ (sub σ t) ≡ sub (λ x. ren ρ (σ x)) t
ren_sub ρ σ (var y) = refl
ren_sub ρ σ (app f ts) = ap (app f) (ren_sub ρ σ ts)
ren_sub ρ σ nil = refl
ren_sub ρ σ (cons t ts) = ap₂ cons (ren_sub ρ σ t) (ren_sub ρ σ ts)

over_ren : (ρ : ℕ → ℕ) (o : Outcome) → Over o → Over (ren_o ρ o)
over_ren ρ unfinished v = v
over_ren ρ fails v = v
over_ren ρ (unified β) v = v

-- The theorem; more variables may have been made.
pub unify_ren : (ρ : ℕ → ℕ) → ((x y : ℕ) → same (ρ x) (ρ y) ≡ same x y) → (c c' : ℕ) (β : Bindings) (a b : Term) → c ≤ c' → Acyclic β → BelowB c β → Below c a → Below c b
    → unify c' (ren_b ρ β) (ren ρ a) (ren ρ b) ≡ ren_o ρ (unify c β a b)
unify_ren ρ inj c c' β a b l ac bb ba b' =
    let e = unifies_ren ρ inj c β (eqn a b ∷ []) in
    unifies_same c c' l (ren_b ρ β) (ren_e ρ (eqn a b ∷ [])) (subst Over (sym e) (over_ren ρ (unifies c β (eqn a b ∷ [])) (unifies_over c c β (eqn a b ∷ []) ac bb (ba, b', tt) (unbound_le c β)))) ∙ e

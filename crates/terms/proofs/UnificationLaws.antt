-- What one step of unification does to the solutions of the equations, and why the steps come to an end.
-- The definitions that it speaks of are in specs/UnificationLaws.
use Rattle.std.specs.Prelude.{ℕ, zero, suc, ◌≤◌, ◌<◌, ◌≡◌, refl, true, List, [], ◌∷◌}
use Rattle.std.proofs.Common.{ap, ap₂, sym, ◌∙◌, arith}
use Rattle.terms.specs.Numbers.{by_same, by_bool}
use Rattle.terms.specs.Term.{var, app, nil, cons, Term, Terms, Subst, sub, mem, size, Below}
use Rattle.terms.specs.Bindings.{Bindings, bind, walk, res, occurs, Acyclic, Solves, BelowB, unchanged, added}
use Rattle.terms.specs.Unification.{Eqn, eqn, eqns, Step, stop, keep, join, meet, step, Outcome, unfinished, fails, unified, sizes, proceed, work, unifies, BelowE}
use Rattle.terms.specs.TermLaws.{app_inj, cons_inj, nil_cons, size_mem}
use Rattle.terms.specs.BindingLaws.{full_unbound, solves_res, solves_walk, res_walk, walk_ends, below_walk, extends_trans, unbound, unbound_bind}
use Rattle.terms.specs.UnificationLaws.{Answers, Good, Joined, Kept, Mgu, Over, Stepped}

-- With no equations left the bindings are the answer.
pub unifies_done : (c : ℕ) (β : Bindings) → unifies c β [] ≡ unified β
unifies_done zero β = refl
unifies_done (suc c) β = refl

-- No substitution makes a variable equal to a larger term in which it occurs.
no_occurs : (σ : Subst) (β : Bindings) → Solves σ β → (x f : ℕ) (ts : Terms) → occurs β x (app f ts) ≡ true → σ x ≡ sub σ (app f ts) → ⊥
unfolding mem
no_occurs σ β h x f ts m e =
    let a = size_mem x σ (res β ts) m in
    let b = ap size (e ∙ sym (solves_res σ β h (app f ts))) in
    omega arith

pub step_ok : (c : ℕ) (β : Bindings) → Acyclic β → BelowB c β → (e : Eqn) (es : List Eqn) → BelowE c (e ∷ es) → Stepped c β (e ∷ es) (step β e es)
unfolding mem
step_ok c β ac bb (eqn a b) es be = go (walk β a) (walk β b) refl refl
  where
    va : (σ : Subst) → Solves σ β → sub σ (walk β a) ≡ sub σ a
    va σ s = solves_walk σ β ac s a

    vb : (σ : Subst) → Solves σ β → sub σ (walk β b) ≡ sub σ b
    vb σ s = solves_walk σ β ac s b

    ba : Below c (walk β a)
    ba = below_walk c β bb a be.0

    bb' : Below c (walk β b)
    bb' = below_walk c β bb b be.1

    eab : (σ : Subst) (v w : Term) → walk β a ≡ v → walk β b ≡ w → Solves σ β → sub σ a ≡ sub σ b → sub σ v ≡ sub σ w
    eab σ v w p q s e = rw (← p, ← q) (va σ s ∙ e ∙ sym (vb σ s))

    abe : (σ : Subst) (v w : Term) → walk β a ≡ v → walk β b ≡ w → Solves σ β → sub σ v ≡ sub σ w → sub σ a ≡ sub σ b
    abe σ v w p q s e = sym (va σ s) ∙ ap (sub σ) p ∙ e ∙ ap (sub σ) (sym q) ∙ vb σ s

    go : (v w : Term) → walk β a ≡ v → walk β b ≡ w → Stepped c β (eqn a b ∷ es) (meet β v w es)
    go (var x) (var y) p q = by_same x y
        (λ i j. rw j record { below = be.2; less = omega arith; into = λ σ s h. h.1; back = λ σ s h. (abe σ (var x) (var y) p q s (ap σ i), h) })
        (λ i j. rw j record {
          acyclic = (walk_ends β ac a x p, rw (full_unbound β y (walk_ends β ac b y q)) j, ac);
          below = (rw q at bb', rw p at ba, be.2);
          into = λ σ s h. (eab σ (var x) (var y) p q s h.0, h.1);
          back = λ σ s h. (abe σ (var x) (var y) p q s.1 s.0, h);
        })
    go (var x) (app g us) p q = by_bool (occurs β x (app g us))
        (λ j. rw j λ σ s h. no_occurs σ β s x g us j (eab σ (var x) (app g us) p q s h.0))
        (λ j. rw j record {
          acyclic = (walk_ends β ac a x p, j, ac);
          below = (rw q at bb', rw p at ba, be.2);
          into = λ σ s h. (eab σ (var x) (app g us) p q s h.0, h.1);
          back = λ σ s h. (abe σ (var x) (app g us) p q s.1 s.0, h);
        })
    go (app f ts) (var y) p q = by_bool (occurs β y (app f ts))
        (λ j. rw j λ σ s h. no_occurs σ β s y f ts j (sym (eab σ (app f ts) (var y) p q s h.0)))
        (λ j. rw j record {
          acyclic = (walk_ends β ac b y q, j, ac);
          below = (rw p at ba, rw q at bb', be.2);
          into = λ σ s h. (sym (eab σ (app f ts) (var y) p q s h.0), h.1);
          back = λ σ s h. (abe σ (app f ts) (var y) p q s.1 (sym s.0), h);
        })
    go (app f ts) (app g us) p q = by_same f g
        (λ i j. rw j record {
          below = (rw p at ba, rw q at bb', be.2);
          less = omega (arith, ap size (sym (res_walk β ac a) ∙ ap (res β) p), ap size (sym (res_walk β ac b) ∙ ap (res β) q));
          into = λ σ s h. ((app_inj f g (sub σ ts) (sub σ us) (eab σ (app f ts) (app g us) p q s h.0)).1, h.1);
          back = λ σ s h. (abe σ (app f ts) (app g us) p q s (ap₂ app i h.0), h.1);
        })
        (λ i j. rw j λ σ s h. i (app_inj f g (sub σ ts) (sub σ us) (eab σ (app f ts) (app g us) p q s h.0)).0)
step_ok c β ac bb (eqns nil nil) es be = record { below = be.2; less = omega arith; into = λ σ s h. h.1; back = λ σ s h. (refl, h) }
step_ok c β ac bb (eqns nil (cons u us)) es be = λ σ s h. nil_cons (sym h.0) refl
step_ok c β ac bb (eqns (cons t ts) nil) es be = λ σ s h. nil_cons h.0 refl
step_ok c β ac bb (eqns (cons t ts) (cons u us)) es be = record {
  below = (be.0.0, be.1.0, (be.0.1, be.1.1, be.2));
  less = omega arith;
  into = λ σ s h. let i = cons_inj _ _ _ _ h.0 in (i.0, (i.1, h.1));
  back = λ σ s h. (ap₂ cons h.0 h.1.0, h.1.1);
}

kept_ok : (c : ℕ) (β : Bindings) (es es' : List Eqn) (o : Outcome) → Kept c β es es' → Answers c β es' o → Answers c β es o
kept_ok c β es es' unfinished k a = tt
kept_ok c β es es' fails k a = λ σ s h. a σ s (k.into σ s h)
kept_ok c β es es' (unified β') k a = record {
  acyclic = a.acyclic;
  below = a.below;
  extends = a.extends;
  general = λ σ s h. a.general σ s (k.into σ s h);
  sound = λ σ s. let (s', h) = a.sound σ s in (s', k.back σ s' h);
}

joined_ok : (c : ℕ) (β : Bindings) (es es' : List Eqn) (x : ℕ) (t : Term) (o : Outcome) → Joined c β es x t es' → Answers c (bind x t β) es' o → Answers c β es o
joined_ok c β es es' x t unfinished k a = tt
joined_ok c β es es' x t fails k a = λ σ s h. let (e, h') = k.into σ s h in a σ (e, s) h'
joined_ok c β es es' x t (unified β') k a = record {
  acyclic = a.acyclic;
  below = a.below;
  extends = extends_trans (added unchanged) a.extends;
  general = λ σ s h. let (e, h') = k.into σ s h in a.general σ (e, s) h';
  sound = λ σ s. let (s', h) = a.sound σ s in (s'.1, k.back σ s' h);
}

done_ok : (c : ℕ) (β : Bindings) → Acyclic β → BelowB c β → Mgu c β [] β
done_ok c β ac bb = record { acyclic = ac; below = bb; extends = unchanged; general = λ σ s h. s; sound = λ σ s. (s, tt) }

work_ok : (c : ℕ) (again : Bindings → List Eqn → Outcome) → Good c again → (n : ℕ) → Good c (work again n)
work_ok c again g zero β [] ac bb be = done_ok c β ac bb
work_ok c again g zero β (e ∷ es) ac bb be = tt
work_ok c again g (suc n) β [] ac bb be = done_ok c β ac bb
work_ok c again g (suc n) β (e ∷ es) ac bb be = go (step β e es) (step_ok c β ac bb e es be) (work_ok c again g n)
  where
    go : (r : Step) → Stepped c β (e ∷ es) r → Good c (work again n)
        → Answers c β (e ∷ es) (proceed r (work again n β) (λ x t es'. again (bind x t β) es'))
    go stop k ih = k
    go (keep es') k ih = kept_ok c β (e ∷ es) es' (work again n β es') k (ih β es' ac bb k.below)
    go (join x t es') k ih = joined_ok c β (e ∷ es) es' x t (again (bind x t β) es') k (g (bind x t β) es' k.acyclic (k.below.1, k.below.0, bb) k.below.2)

pub unifies_ok : (c k : ℕ) → Good c (unifies k)
unifies_ok c zero β es ac bb be = work_ok c (λ _ _. unfinished) (λ β es ac bb be. tt) (sizes β es) β es ac bb be
unifies_ok c (suc k) β es ac bb be = work_ok c (unifies k) (unifies_ok c k) (sizes β es) β es ac bb be

-- A run comes to an end wherever fewer variables are unbound.
abbrev Fewer : ℕ → Bindings → (Bindings → List Eqn → Outcome) → Type 0
Fewer c β again = (β' : Bindings) (es : List Eqn) → Acyclic β' → BelowB c β' → BelowE c es → unbound c β' < unbound c β → Over (again β' es)

pub sizes_pos : (β : Bindings) (e : Eqn) (es : List Eqn) → 0 < sizes β (e ∷ es)
sizes_pos β (eqn a b) es = omega arith
sizes_pos β (eqns a b) es = omega arith

pub work_over : (c : ℕ) (again : Bindings → List Eqn → Outcome) (n : ℕ) (β : Bindings) (es : List Eqn) → Acyclic β → BelowB c β → BelowE c es → sizes β es ≤ n → Fewer c β again → Over (work again n β es)
work_over c again zero β [] ac bb be h f = tt
work_over c again zero β (e ∷ es) ac bb be h f = omega (arith, sizes_pos β e es)
work_over c again (suc n) β [] ac bb be h f = tt
work_over c again (suc n) β (e ∷ es) ac bb be h f = go (step β e es) (step_ok c β ac bb e es be) (work_over c again n β)
  where
    go : (r : Step) → Stepped c β (e ∷ es) r → ((es : List Eqn) → Acyclic β → BelowB c β → BelowE c es → sizes β es ≤ n → Fewer c β again → Over (work again n β es))
        → Over (proceed r (work again n β) (λ x t es'. again (bind x t β) es'))
    go stop k ih = tt
    go (keep es') k ih = ih es' ac bb k.below (omega arith) f
    go (join x t es') k ih = f (bind x t β) es' k.acyclic (k.below.1, k.below.0, bb) k.below.2
        (omega (arith, unbound_bind c x t β k.below.1 k.acyclic.0))

pub unifies_over : (c k : ℕ) (β : Bindings) (es : List Eqn) → Acyclic β → BelowB c β → BelowE c es → unbound c β ≤ k → Over (unifies k β es)
unifies_over c zero β es ac bb be h = work_over c (λ _ _. unfinished) (sizes β es) β es ac bb be (omega arith) (λ β' es ac bb be l. omega arith)
unifies_over c (suc k) β es ac bb be h = work_over c (unifies k) (sizes β es) β es ac bb be (omega arith) (λ β' es' ac' bb' be' l. unifies_over c k β' es' ac' bb' be' (omega arith))

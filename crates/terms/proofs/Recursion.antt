-- `unify` by the Rust's own recursion: two walked terms, and arguments from left to right, each with the bindings that the last one left.
-- The definitions that it speaks of are in specs/Recursion.
use Rattle.std.specs.Prelude.{ℕ, zero, suc, ◌≤◌, ◌<◌, ◌≡◌, refl, Bool, true, false, cond, List, [], ◌∷◌, ◌++◌}
use Rattle.std.proofs.Common.{ap, sym, ◌∙◌, subst, arith, le_refl}
use Rattle.terms.specs.Numbers.{same, by_bool}
use Rattle.terms.specs.Term.{var, app, nil, cons, Term, Terms, Below}
use Rattle.terms.specs.Bindings.{Bindings, bind, walk, occurs, Acyclic, BelowB}
use Rattle.terms.specs.Unification.{Eqn, eqn, eqns, Step, stop, keep, join, meet, step, Outcome, fails, unified, sizes, unifies, unify, BelowE}
use Rattle.terms.specs.BindingLaws.{unbound, unbound_bind}
use Rattle.terms.specs.UnificationLaws.{Stepped}
use Rattle.terms.proofs.UnificationLaws.{unifies_done, step_ok, sizes_pos}
use Rattle.terms.specs.Loops.{Next}
use Rattle.terms.proofs.Loops.{unify_next}
use Rattle.terms.specs.Recursion.{and_then, unify_args, unify_walked}

-- Further equations behind a step are passed on.
abbrev behind : Step → List Eqn → Step
behind stop fs = stop
behind (keep es) fs = keep (es ++ fs)
behind (join x t es) fs = join x t (es ++ fs)

behind_cond : (b : Bool) (p q : Step) (fs : List Eqn) → behind (cond b p q) fs ≡ cond b (behind p fs) (behind q fs)
behind_cond true p q fs = refl
behind_cond false p q fs = refl

meet_behind : (β : Bindings) (a b : Term) (es fs : List Eqn) → meet β a b (es ++ fs) ≡ behind (meet β a b es) fs
meet_behind β (var x) (var y) es fs = sym (behind_cond (same x y) (keep es) (join x (var y) es) fs)
meet_behind β (var x) (app g us) es fs = sym (behind_cond (occurs β x (app g us)) stop (join x (app g us) es) fs)
meet_behind β (app f ts) (var y) es fs = sym (behind_cond (occurs β y (app f ts)) stop (join y (app f ts) es) fs)
meet_behind β (app f ts) (app g us) es fs = sym (behind_cond (same f g) (keep (eqns ts us ∷ es)) stop fs)

step_behind : (β : Bindings) (e : Eqn) (es fs : List Eqn) → step β e (es ++ fs) ≡ behind (step β e es) fs
step_behind β (eqn a b) es fs = meet_behind β (walk β a) (walk β b) es fs
step_behind β (eqns nil nil) es fs = refl
step_behind β (eqns nil (cons u us)) es fs = refl
step_behind β (eqns (cons t ts) nil) es fs = refl
step_behind β (eqns (cons t ts) (cons u us)) es fs = refl

below_e_append : (c : ℕ) (es fs : List Eqn) → BelowE c es → BelowE c fs → BelowE c (es ++ fs)
below_e_append c [] fs b h = h
below_e_append c (eqn x y ∷ es) fs b h = (b.0, b.1, below_e_append c es fs b.2 h)
below_e_append c (eqns x y ∷ es) fs b h = (b.0, b.1, below_e_append c es fs b.2 h)

-- Equations in front of others are worked off first.
module _ (c : ℕ) (fs : List Eqn) (bf : BelowE c fs) where
  -- The equations es, and then fs from their bindings.
  abbrev InOrder : Bindings → List Eqn → Type 0
  InOrder β es = unifies c β (es ++ fs) ≡ and_then (unifies c β es) (λ β'. unifies c β' fs)

  -- With fewer than k variables unbound.
  abbrev Fewer : ℕ → Type 0
  Fewer k = (β : Bindings) (es : List Eqn) → Acyclic β → BelowB c β → BelowE c es → unbound c β < k → InOrder β es

  below_e_behind : (e : Eqn) (es : List Eqn) → BelowE c (e ∷ es) → BelowE c (e ∷ (es ++ fs))
  below_e_behind (eqn x y) es b = (b.0, b.1, below_e_append c es fs b.2 bf)
  below_e_behind (eqns x y) es b = (b.0, b.1, below_e_append c es fs b.2 bf)

  turns : (k : ℕ) → Fewer k → (n : ℕ) (β : Bindings) (es : List Eqn) → Acyclic β → BelowB c β → BelowE c es → unbound c β ≤ k → sizes β es ≤ n → InOrder β es
  turns k fewer zero β [] ac bb be hk hn = sym (ap (λ o. and_then o (λ β'. unifies c β' fs)) (unifies_done c β))
  turns k fewer zero β (e ∷ es) ac bb be hk hn = absurd (omega (arith, sizes_pos β e es))
  turns k fewer (suc n) β [] ac bb be hk hn = sym (ap (λ o. and_then o (λ β'. unifies c β' fs)) (unifies_done c β))
  turns k fewer (suc n) β (e ∷ es) ac bb be hk hn =
      go (step β e es) (step_ok c β ac bb e es be) (unify_next c β e es ac bb be)
      (subst (λ s. Next c β s (unifies c β (e ∷ (es ++ fs)))) (step_behind β e es fs) (unify_next c β e (es ++ fs) ac bb (below_e_behind e es be)))
      (λ es' b h. turns k fewer n β es' ac bb b hk h)
    where
      through : {o : Outcome} → unifies c β (e ∷ es) ≡ o → and_then o (λ β'. unifies c β' fs) ≡ and_then (unifies c β (e ∷ es)) (λ β'. unifies c β' fs)
      through p = sym (ap (λ o. and_then o (λ β'. unifies c β' fs)) p)

      go : (s : Step) → Stepped c β (e ∷ es) s → Next c β s (unifies c β (e ∷ es)) → Next c β (behind s fs) (unifies c β (e ∷ (es ++ fs)))
          → ((es' : List Eqn) → BelowE c es' → sizes β es' ≤ n → InOrder β es') → InOrder β (e ∷ es)
      go stop v p q ih = q ∙ through p
      go (keep es') v p q ih = q ∙ ih es' v.below (omega (arith, v.less)) ∙ through p
      go (join x t es') v p q ih =
          q ∙ fewer (bind x t β) es' v.acyclic (v.below.1, v.below.0, bb) v.below.2 (omega (arith, unbound_bind c x t β v.below.1 v.acyclic.0)) ∙ through p

  in_order : (k : ℕ) (β : Bindings) (es : List Eqn) → Acyclic β → BelowB c β → BelowE c es → unbound c β ≤ k → InOrder β es
  in_order zero β es ac bb be h = turns zero (λ β es ac bb be l. absurd (omega arith)) (sizes β es) β es ac bb be h (le_refl (sizes β es))
  in_order (suc k) β es ac bb be h = turns (suc k) (λ β es ac bb be l. in_order k β es ac bb be (omega arith)) (sizes β es) β es ac bb be h (le_refl (sizes β es))

  pub unifies_order : (β : Bindings) (es : List Eqn) → Acyclic β → BelowB c β → BelowE c es → InOrder β es
  unifies_order β es ac bb be = in_order (unbound c β) β es ac bb be (le_refl (unbound c β))

module _ (c : ℕ) (β : Bindings) (ac : Acyclic β) (bb : BelowB c β) where
  pub unify_walked_lem : (a b : Term) → Below c a → Below c b → unify c β a b ≡ unify_walked c β (walk β a) (walk β b)
  unify_walked_lem a b ba b' = go (walk β a) (walk β b) (unify_next c β (eqn a b) [] ac bb (ba, b', tt))
    where
      go : (v w : Term) → Next c β (meet β v w []) (unify c β a b) → unify c β a b ≡ unify_walked c β v w
      go (var x) (var y) = by_bool (same x y) (λ e. rw e (λ h. h ∙ unifies_done c β)) (λ e. rw e (λ h. h ∙ unifies_done c (bind x (var y) β)))
      go (var x) (app g us) = by_bool (occurs β x (app g us)) (λ e. rw e (λ h. h)) (λ e. rw e (λ h. h ∙ unifies_done c (bind x (app g us) β)))
      go (app f ts) (var y) = by_bool (occurs β y (app f ts)) (λ e. rw e (λ h. h)) (λ e. rw e (λ h. h ∙ unifies_done c (bind y (app f ts) β)))
      go (app f ts) (app g us) = by_bool (same f g) (λ e. rw e (λ h. h)) (λ e. rw e (λ h. h))

  pub unify_args_nil : unify_args c β nil nil ≡ unified β
  unify_args_nil = unify_next c β (eqns nil nil) [] ac bb (tt, tt, tt) ∙ unifies_done c β

  pub unify_args_more : (u : Term) (us : Terms) → Below c u → Below c us → unify_args c β nil (cons u us) ≡ fails
  unify_args_more u us b bs = unify_next c β (eqns nil (cons u us)) [] ac bb (tt, (b, bs), tt)

  pub unify_args_fewer : (t : Term) (ts : Terms) → Below c t → Below c ts → unify_args c β (cons t ts) nil ≡ fails
  unify_args_fewer t ts b bs = unify_next c β (eqns (cons t ts) nil) [] ac bb ((b, bs), tt, tt)

  pub unify_args_cons : (t u : Term) (ts us : Terms) → Below c t → Below c u → Below c ts → Below c us
      → unify_args c β (cons t ts) (cons u us) ≡ and_then (unify c β t u) (λ β'. unify_args c β' ts us)
  unify_args_cons t u ts us bt bu bts bus =
      unify_next c β (eqns (cons t ts) (cons u us)) [] ac bb ((bt, bts), (bu, bus), tt)
      ∙ unifies_order c (eqns ts us ∷ []) (bts, bus, tt) β (eqn t u ∷ []) ac bb (bt, bu, tt)

-- What loops over stored terms need of `walk`, `occurs` and `unify`: the Rust's recursion equations, with no bound on steps, and numbers that fall.
-- The definitions that it speaks of are in specs/Loops.
use Rattle.std.specs.Prelude.{ℕ, zero, suc, ◌≤◌, ◌<◌, ◌≡◌, refl, false, ◌||◌, List, [], ◌∷◌, ◌≢◌}
use Rattle.std.proofs.Common.{ap, sym, ◌∙◌, subst, arith}
use Rattle.std.proofs.Math.Option.{none, some}
use Rattle.terms.specs.Numbers.{same, by_same, some_none, none_some}
use Rattle.terms.specs.Term.{var, app, nil, cons, Term, Terms, mem, size}
use Rattle.terms.specs.Bindings.{Bindings, start, bind, lookup, walk, res, occurs, Acyclic, BelowB}
use Rattle.terms.specs.Unification.{Eqn, Step, stop, keep, join, step, Outcome, unfinished, sizes, proceed, work, unifies, BelowE}
use Rattle.terms.specs.BindingLaws.{full_unbound, res_walk, walk_unbound, walk_bound, walk_ends, walk_not_back, unbound, unbound_le, unbound_bind}
use Rattle.terms.specs.UnificationLaws.{Stepped, Over}
use Rattle.terms.proofs.UnificationLaws.{step_ok, unifies_over, sizes_pos}
use Rattle.terms.specs.Loops.{Next, StepFalls, length_if, walk_length}

-- The occurs check by its equations: at a variable, and at arguments, whose size is smaller.
pub occurs_var : (β : Bindings) → Acyclic β → (v : ℕ) (t : Term) (w : ℕ) → walk β t ≡ var w → occurs β v t ≡ same v w
unfolding mem
occurs_var β ac v t w e = ap (mem v) (sym (res_walk β ac t) ∙ ap (res β) e ∙ full_unbound β w (walk_ends β ac t w e))

pub occurs_app : (β : Bindings) → Acyclic β → (v : ℕ) (t : Term) (f : ℕ) (ts : Terms) → walk β t ≡ app f ts → (occurs β v t ≡ occurs β v ts) × (size (res β ts) < size (res β t))
unfolding mem
occurs_app β ac v t f ts e = (ap (mem v) (sym (res_walk β ac t) ∙ ap (res β) e), omega (arith, ap size (sym (res_walk β ac t) ∙ ap (res β) e)))

pub occurs_nil : (β : Bindings) (v : ℕ) → occurs β v nil ≡ false
unfolding mem
occurs_nil β v = refl

pub occurs_cons : (β : Bindings) (v : ℕ) (t : Term) (ts : Terms) → occurs β v (cons t ts) ≡ (occurs β v t || occurs β v ts)
unfolding mem
occurs_cons β v t ts = refl

walk_length_unbound : (β : Bindings) (y : ℕ) → lookup β y ≡ none → walk_length β (var y) ≡ 0
walk_length_unbound start y e = refl
walk_length_unbound (bind x u β) y e = by_same y x (λ p q. some_none refl (rw q at e))
    (λ p q. rw (walk_unbound β y (rw q at e), q, walk_length_unbound β y (rw q at e)))

length_if_no : (x n : ℕ) (w : Term) → w ≢ var x → length_if x w n ≡ 0
length_if_no x n (var y) h = by_same y x (λ p q. absurd (h (ap var p))) (λ p q. rw q)
length_if_no x n (app f ts) h = refl

pub walk_length_bound : (β : Bindings) → Acyclic β → (y : ℕ) (t : Term) → lookup β y ≡ some t → walk_length β (var y) ≡ suc (walk_length β t)
walk_length_bound start h y t e = none_some e
walk_length_bound (bind x u β) h y t e = by_same y x
    (λ p q. let e' : some u ≡ some t = rw q at e in
    let ut : u ≡ t = cc in
    let n : lookup β y ≡ none = rw p h.0 in
    rw (walk_unbound β y n, q, walk_length_unbound β y n, ← ut, length_if_no x (suc (walk_length β u)) (walk β u) (walk_not_back β x u h)) (omega arith))
    (λ p q. rw (walk_bound β h.2 y t (rw q at e), walk_length_bound β h.2 y t (rw q at e)) (omega arith))

-- Unification without its bounds
-- More bindings allowed do not change an outcome.
pub work_same : (again again' : Bindings → List Eqn → Outcome) → ((β : Bindings) (es : List Eqn) → Over (again β es) → again' β es ≡ again β es)
    → (n : ℕ) (β : Bindings) (es : List Eqn) → Over (work again n β es) → work again' n β es ≡ work again n β es
work_same again again' h zero β [] o = refl
work_same again again' h zero β (e ∷ es) o = absurd o
work_same again again' h (suc n) β [] o = refl
work_same again again' h (suc n) β (e ∷ es) o = go (step β e es) (work_same again again' h n β) o
  where
    go : (s : Step) → ((es : List Eqn) → Over (work again n β es) → work again' n β es ≡ work again n β es)
        → Over (proceed s (work again n β) (λ x t es'. again (bind x t β) es'))
        → proceed s (work again' n β) (λ x t es'. again' (bind x t β) es')
        ≡ proceed s (work again n β) (λ x t es'. again (bind x t β) es')
    go stop ih o = refl
    go (keep es') ih o = ih es' o
    go (join x t es') ih o = h (bind x t β) es' o

pub unifies_same : (k k' : ℕ) → k ≤ k' → (β : Bindings) (es : List Eqn) → Over (unifies k β es) → unifies k' β es ≡ unifies k β es
unifies_same zero zero h β es o = refl
unifies_same zero (suc k') h β es o = work_same (λ _ _. unfinished) (unifies k') (λ β es o. absurd o) (sizes β es) β es o
unifies_same (suc k) zero h β es o = absurd (omega arith)
unifies_same (suc k) (suc k') h β es o = work_same (unifies k) (unifies k') (unifies_same k k' (omega arith)) (sizes β es) β es o

work_more : (again : Bindings → List Eqn → Outcome) (n n' : ℕ) (β : Bindings) (es : List Eqn) → n ≤ n' → Over (work again n β es) → work again n' β es ≡ work again n β es
work_more again zero zero β [] l o = refl
work_more again zero (suc n') β [] l o = refl
work_more again zero zero β (e ∷ es) l o = absurd o
work_more again zero (suc n') β (e ∷ es) l o = absurd o
work_more again (suc n) zero β es l o = absurd (omega arith)
work_more again (suc n) (suc n') β [] l o = refl
work_more again (suc n) (suc n') β (e ∷ es) l o = go (step β e es) (work_more again n n' β) o
  where
    go : (s : Step) → ((es : List Eqn) → n ≤ n' → Over (work again n β es) → work again n' β es ≡ work again n β es)
        → Over (proceed s (work again n β) (λ x t es'. again (bind x t β) es'))
        → proceed s (work again n' β) (λ x t es'. again (bind x t β) es')
        ≡ proceed s (work again n β) (λ x t es'. again (bind x t β) es')
    go stop ih o = refl
    go (keep es') ih o = ih es' (omega arith) o
    go (join x t es') ih o = refl

-- What goes on after a binding.
abbrev again : ℕ → Bindings → List Eqn → Outcome
again zero β es = unfinished
again (suc k) β es = unifies k β es

unifies_again : (k : ℕ) (β : Bindings) (es : List Eqn) → unifies k β es ≡ work (again k) (sizes β es) β es
unifies_again zero β es = refl
unifies_again (suc k) β es = refl

again_same : (c k : ℕ) (β : Bindings) (es : List Eqn) → Acyclic β → BelowB c β → BelowE c es → unbound c β < k → again k β es ≡ unifies k β es
again_same c zero β es ac bb be l = absurd (omega arith)
again_same c (suc k) β es ac bb be l = sym (unifies_same k (suc k) (omega arith) β es (unifies_over c k β es ac bb be (omega arith)))

pub unify_next : (c : ℕ) (β : Bindings) (e : Eqn) (es : List Eqn) → Acyclic β → BelowB c β → BelowE c (e ∷ es) → Next c β (step β e es) (unifies c β (e ∷ es))
unify_next c β e es ac bb be = start_at (sizes β (e ∷ es)) refl (step β e es) refl (step_ok c β ac bb e es be)
  where
    run : ℕ → Step → Outcome
    run m s = proceed s (work (again c) m β) (λ x t es'. again c (bind x t β) es')

    begun : (m : ℕ) → sizes β (e ∷ es) ≡ suc m → unifies c β (e ∷ es) ≡ run m (step β e es)
    begun m q = unifies_again c β (e ∷ es) ∙ ap (λ n. work (again c) n β (e ∷ es)) q

    go : (m : ℕ) → sizes β (e ∷ es) ≡ suc m → (s : Step) → Stepped c β (e ∷ es) s → unifies c β (e ∷ es) ≡ run m s → Next c β s (unifies c β (e ∷ es))
    go m q stop k h = h
    go m q (keep es') k h = h ∙ work_more (again c) (sizes β es') m β es' (omega (arith, k.less))
        (subst Over (unifies_again c β es') (unifies_over c c β es' ac bb k.below (unbound_le c β))) ∙ sym (unifies_again c β es')
    go m q (join x t es') k h = h ∙ again_same c c (bind x t β) es' k.acyclic (k.below.1, k.below.0, bb) k.below.2 (omega (arith, unbound_bind c x t β k.below.1 k.acyclic.0, unbound_le c β))

    start_at : (n : ℕ) → sizes β (e ∷ es) ≡ n → (s : Step) → step β e es ≡ s → Stepped c β (e ∷ es) (step β e es) → Next c β (step β e es) (unifies c β (e ∷ es))
    start_at zero q s p k = absurd (omega (arith, sizes_pos β e es))
    start_at (suc m) q s p k = go m q (step β e es) k (begun m q)

pub step_falls : (c : ℕ) (β : Bindings) (e : Eqn) (es : List Eqn) → Acyclic β → BelowB c β → BelowE c (e ∷ es) → StepFalls c β (e ∷ es) (step β e es)
step_falls c β e es ac bb be = go (step β e es) (step_ok c β ac bb e es be)
  where
    go : (s : Step) → Stepped c β (e ∷ es) s → StepFalls c β (e ∷ es) s
    go stop k = tt
    go (keep es') k = k.less
    go (join x t es') k = omega (arith, unbound_bind c x t β k.below.1 k.acyclic.0)

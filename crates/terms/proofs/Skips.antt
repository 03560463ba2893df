-- Unifying terms that are equal under the bindings binds nothing, so a machine that skips such pairs makes the very same bindings.
-- The definitions that it speaks of are in specs/Skips.
use Rattle.std.specs.Prelude.{ℕ, zero, suc, ◌≤◌, ◌≡◌, refl, true, List, [], ◌∷◌}
use Rattle.std.proofs.Common.{ap, sym, ◌∙◌, subst, arith, le_refl}
use Rattle.terms.specs.Numbers.{same, same_refl}
use Rattle.terms.specs.Term.{var, app, nil, cons, Term, Terms, size, Below}
use Rattle.terms.specs.Bindings.{Bindings, Acyclic, BelowB, full, res, walk}
use Rattle.terms.specs.Unification.{Eqn, eqn, eqns, meet, unified, unifies, unify, BelowE}
use Rattle.terms.specs.TermLaws.{var_app, var_inj, nil_cons, app_inj, cons_inj, size_pos}
use Rattle.terms.specs.BindingLaws.{full_unbound, res_walk, walk_ends}
use Rattle.terms.specs.UnificationLaws.{Stepped, Kept}
use Rattle.terms.proofs.UnificationLaws.{step_ok}
use Rattle.terms.specs.Loops.{Next}
use Rattle.terms.proofs.Loops.{unify_next}
use Rattle.terms.specs.Skips.{Same}

-- The size of the left side.
abbrev measure : Bindings → Eqn → ℕ
measure β (eqn a b) = size (res β a)
measure β (eqns a b) = size (res β a)

module _ (c : ℕ) (β : Bindings) (ac : Acyclic β) (bb : BelowB c β) where
  ends_var : (a : Term) (x : ℕ) → walk β a ≡ var x → full β x ≡ var x
  ends_var a x e = full_unbound β x (walk_ends β ac a x e)

  -- Such an equation in front changes nothing.
  pub skips : (n : ℕ) (e : Eqn) → Same β e → measure β e ≤ n → (es : List Eqn) → BelowE c (e ∷ es) → unifies c β (e ∷ es) ≡ unifies c β es
  skips zero (eqn a b) s l es be = absurd (omega (arith, size_pos (res β a)))
  skips zero (eqns a b) s l es be = absurd (omega (arith, size_pos (res β a)))
  skips (suc n) (eqns nil nil) s l es be = unify_next c β (eqns nil nil) es ac bb be
  skips (suc n) (eqns nil (cons u us)) s l es be = nil_cons refl s
  skips (suc n) (eqns (cons t ts) nil) s l es be = nil_cons refl (sym s)
  skips (suc n) (eqns (cons t ts) (cons u us)) s l es be =
      let k = step_ok c β ac bb (eqns (cons t ts) (cons u us)) es be in
      unify_next c β (eqns (cons t ts) (cons u us)) es ac bb be
      ∙ skips n (eqn t u) (cons_inj (res β t) (res β u) (res β ts) (res β us) s).0 (omega arith) (eqns ts us ∷ es) k.below
      ∙ skips n (eqns ts us) (cons_inj (res β t) (res β u) (res β ts) (res β us) s).1 (omega arith) es k.below.2
  skips (suc n) (eqn a b) s l es be =
      go (walk β a) refl (walk β b) refl (unify_next c β (eqn a b) es ac bb be) (step_ok c β ac bb (eqn a b) es be) (λ ts us q m d. skips n (eqns ts us) q m es d)
    where
      go : (wa : Term) → walk β a ≡ wa → (wb : Term) → walk β b ≡ wb → Next c β (meet β wa wb es) (unifies c β (eqn a b ∷ es)) → Stepped c β (eqn a b ∷ es) (meet β wa wb es)
          → ((ts us : Terms) → res β ts ≡ res β us → size (res β ts) ≤ n → BelowE c (eqns ts us ∷ es) → unifies c β (eqns ts us ∷ es) ≡ unifies c β es)
          → unifies c β (eqn a b ∷ es) ≡ unifies c β es
      go wa ea wb eb nx sp ih = at wa wb ea eb (ap (res β) (sym ea) ∙ res_walk β ac a ∙ s ∙ sym (res_walk β ac b) ∙ ap (res β) eb) (ap (λ t. size t) (ap (res β) (sym ea) ∙ res_walk β ac a)) nx sp ih
        where
          at : (wa wb : Term) → walk β a ≡ wa → walk β b ≡ wb → res β wa ≡ res β wb → size (res β wa) ≡ size (res β a) → Next c β (meet β wa wb es) (unifies c β (eqn a b ∷ es)) → Stepped c β (eqn a b ∷ es) (meet β wa wb es)
              → ((ts us : Terms) → res β ts ≡ res β us → size (res β ts) ≤ n → BelowE c (eqns ts us ∷ es) → unifies c β (eqns ts us ∷ es) ≡ unifies c β es)
              → unifies c β (eqn a b ∷ es) ≡ unifies c β es
          at (var x) (var y) ea eb q z nx sp ih =
              let xy : x ≡ y = var_inj (ends_var a x ea) (q ∙ ends_var b y eb) in
              let t : same x y ≡ true = subst (λ v. same x v ≡ true) xy (same_refl x) in
              rw t at nx
          at (var x) (app g us) ea eb q z nx sp ih = var_app (ends_var a x ea) q
          at (app f ts) (var y) ea eb q z nx sp ih = var_app (ends_var b y eb) (sym q)
          at (app f ts) (app g us) ea eb q z nx sp ih =
              let fg : f ≡ g = (app_inj f g (res β ts) (res β us) q).0 in
              let t : same f g ≡ true = subst (λ v. same f v ≡ true) fg (same_refl f) in
              let k : Kept c β (eqn a b ∷ es) (eqns ts us ∷ es) = rw t at sp in
              let nx' : unifies c β (eqn a b ∷ es) ≡ unifies c β (eqns ts us ∷ es) = rw t at nx in
              nx' ∙ ih ts us (app_inj f g (res β ts) (res β us) q).1 (omega arith) k.below

-- Two terms that are equal under the bindings: the same bindings again.
pub unify_equal : (c : ℕ) (β : Bindings) (a b : Term) → Acyclic β → BelowB c β → Below c a → Below c b → res β a ≡ res β b → unify c β a b ≡ unified β
unify_equal c β a b ac bb ba b' e = skips c β ac bb (size (res β a)) (eqn a b) e (le_refl (size (res β a))) [] (ba, b', tt) ∙ done c
  where
    done : (k : ℕ) → unifies k β [] ≡ unified β
    done zero = refl
    done (suc k) = refl

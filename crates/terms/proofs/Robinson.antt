-- Robinson's theorem for `unify`: success gives acyclic bindings that only add and that are a most general unifier over the starting bindings;
-- failure means that no substitution that agrees with the starting bindings unifies the terms.
-- The definitions that it speaks of are in specs/Robinson.
use Rattle.std.specs.Prelude.{ℕ, ◌≡◌, [], ◌∷◌, ◌⊎◌}
use Rattle.std.proofs.Common.{sym, inl, inr}
use Rattle.terms.specs.Term.{Term, Subst, Below, sub}
use Rattle.terms.specs.Bindings.{Bindings, start, full, Acyclic, BelowB}
use Rattle.terms.specs.Unification.{MostGeneral, eqn, Outcome, unfinished, fails, unified, unify}
use Rattle.terms.specs.BindingLaws.{full_solves, solves_full, unbound_le}
use Rattle.terms.specs.UnificationLaws.{Mgu, Answers, Over}
use Rattle.terms.proofs.UnificationLaws.{unifies_ok, unifies_over}
use Rattle.terms.specs.Robinson.{Unified}

-- The theorem, c being above all variables.
pub unify_ok : (c : ℕ) (β : Bindings) (a b : Term) → Acyclic β → BelowB c β → Below c a → Below c b → Unified c β a b (unify c β a b)
unify_ok c β a b ac bb ba b' = go (unify c β a b)
    (unifies_ok c c β (eqn a b ∷ []) ac bb (ba, b', tt)) (unifies_over c c β (eqn a b ∷ []) ac bb (ba, b', tt) (unbound_le c β))
  where
    go : (o : Outcome) → Answers c β (eqn a b ∷ []) o → Over o → Unified c β a b o
    go unfinished k v = v
    go fails k v = λ σ u. k σ u.0 (u.1, tt)
    go (unified β') k v = k

-- The new bindings put in throughout are a most general unifier in Robinson's sense.
pub mgu_most_general : (c : ℕ) (β : Bindings) (a b : Term) (β' : Bindings) → Mgu c β (eqn a b ∷ []) β' → MostGeneral β a b (full β')
mgu_most_general c β a b β' m =
    let s = m.sound (full β') (full_solves β' m.acyclic) in
    record {
      unifier = (s.0, s.1.0);
      general = λ τ u. (τ, λ x. sym (solves_full τ β' (m.general τ u.0 (u.1, tt)) x));
    }

-- Robinson's own theorem, with no bindings: two terms have a most general unifier, or none at all.
pub robinson : (c : ℕ) (a b : Term) → Below c a → Below c b → ((σ : Subst) × MostGeneral start a b σ) ⊎ ((σ : Subst) → sub σ a ≡ sub σ b → ⊥)
robinson c a b ba b' = go (unify c start a b) (unify_ok c start a b tt tt ba b')
  where
    go : (o : Outcome) → Unified c start a b o → ((σ : Subst) × MostGeneral start a b σ) ⊎ ((σ : Subst) → sub σ a ≡ sub σ b → ⊥)
    go unfinished u = absurd u
    go fails u = inr (λ σ e. u σ (tt, e))
    go (unified β) u = inl (full β, mgu_most_general c start a b β u)

-- What a verdict says: of derivation trees, and in Lloyd's terms.
-- The definitions that it speaks of are in specs/Verdicts.
use Rattle.std.specs.Prelude.{ℕ, zero, suc, ◌-◌, ◌≤◌, ◌≡◌, refl, true, false, List, [], ◌∷◌}
use Rattle.std.proofs.Common.{sym, ◌∙◌, subst, arith}
use Rattle.terms.specs.Term.{one, many, Term, nil, cons, Subst, Below}
use Rattle.terms.specs.Bindings.{Bindings, full, Acyclic, BelowB}
use Rattle.terms.specs.TermLaws.{below_le}
use Rattle.terms.specs.BindingLaws.{below_b_le, full_solves}
use Rattle.resolution.specs.Rules.{Rule, Tree, leaf, ◌◂◌, root, put_in, Derivation}
use Rattle.resolution.specs.Search.{Limits, goal, Result, refused, found, failed, bounded, settle, deepen}
use Rattle.resolution.specs.Soundness.{Found, Sound}
use Rattle.resolution.proofs.Soundness.{soundness}
use Rattle.resolution.specs.Answers.{Reaches}
use Rattle.resolution.proofs.Answers.{success_refutes}
use Rattle.resolution.proofs.Failure.{none_fails, completeness}
use Rattle.resolution.specs.Verdicts.{Proved, Says, SaysSLD}

pub found_proved : (rules : List Rule) (n₀ c : ℕ) (β : Bindings) (g : Term) (d : ℕ) (β' : Bindings) (st : Tree many) (c' : ℕ) → n₀ ≤ c → Found rules c β (goal g d ∷ []) leaf β' st c' → Proved rules n₀ β g β' st c'
found_proved rules n₀ c β g d β' st c' l f = record {
  tree = x.0;
  only = sym x.3;
  goal = x.1;
  extends = f.extends;
  acyclic = f.acyclic;
  below = f.below;
  later = omega (arith, f.later);
  derives = λ σ s. go σ (f.performed σ s);
}
  where
    x : (p : Tree one) × (root p ≡ g) × Derivation rules (put_in (full β') p) × (p ◂ leaf ≡ st)
    x = f.performed (full β') (full_solves β' f.acyclic)

    go : (σ : Subst) → ((p : Tree one) × (root p ≡ g) × Derivation rules (put_in σ p) × (p ◂ leaf ≡ st)) → Derivation rules (put_in σ x.0)
    go σ y = let e : y.0 ◂ leaf ≡ x.0 ◂ leaf = y.3 ∙ sym x.3 in
        let q : y.0 ≡ x.0 = cc in
        subst (λ p. Derivation rules (put_in σ p)) q y.2

-- The theorem: what the verdict of the search says, from any later counter.
pub deepen_says : (l : Limits) (rules : List Rule) (s m n₀ : ℕ) (β : Bindings) (g : Term) → Acyclic β → BelowB n₀ β → Below n₀ g
    → (ds : List ℕ) (u c : ℕ) → n₀ ≤ c → Says rules n₀ β g (deepen l rules s m β g ds u c)
deepen_says l rules s m n₀ β g ac bb bg [] u c h = h
deepen_says l rules s m n₀ β g ac bb bg (d ∷ ds) u c h =
    go (bounded l rules s m β g d c) refl (soundness l rules s m β g d c ac (below_b_le h β bb) (below_le h g bg)) (deepen_says l rules s m n₀ β g ac bb bg ds)
  where
    Next : Type 0
    Next = (u c : ℕ) → n₀ ≤ c → Says rules n₀ β g (deepen l rules s m β g ds u c)

    go : (o : Result) → bounded l rules s m β g d c ≡ o → Sound rules c β (goal g d ∷ []) leaf (bounded l rules s m β g d c) → Next
        → Says rules n₀ β g (settle s o (λ u' c'. deepen l rules s m β g ds u' c'))
    go refused e snd n = refl
    go (found β' st b c' m') e snd n = found_proved rules n₀ c β g d β' st c' h (subst (Sound rules c β (goal g d ∷ []) leaf) e snd)
    go (failed zero cut c') e snd n = let f : c ≤ c' = subst (Sound rules c β (goal g d ∷ []) leaf) e snd in n s c' (omega arith)
    go (failed (suc b) true c') e snd n = let f : c ≤ c' = subst (Sound rules c β (goal g d ∷ []) leaf) e snd in n (s - suc b) c' (omega arith)
    go (failed (suc b) false c') e snd n = let f : c ≤ c' = subst (Sound rules c β (goal g d ∷ []) leaf) e snd in
        (omega arith, completeness l rules s m β g d c b c' ac (below_b_le h β bb) (below_le h g bg) e)

pub deepen_sld : (l : Limits) (rules : List Rule) (s m n₀ : ℕ) (β : Bindings) (g : Term) → Acyclic β → BelowB n₀ β → Below n₀ g
    → (ds : List ℕ) (u c : ℕ) → n₀ ≤ c → SaysSLD rules n₀ β g (deepen l rules s m β g ds u c)
deepen_sld l rules s m n₀ β g ac bb bg [] u c h = tt
deepen_sld l rules s m n₀ β g ac bb bg (d ∷ ds) u c h =
    go (bounded l rules s m β g d c) refl (soundness l rules s m β g d c ac (below_b_le h β bb) (below_le h g bg)) (success_refutes l rules s m β g d n₀ c h ac (below_b_le h β bb) (below_le h g bg))
    (deepen_sld l rules s m n₀ β g ac bb bg ds)
  where
    Next : Type 0
    Next = (u c : ℕ) → n₀ ≤ c → SaysSLD rules n₀ β g (deepen l rules s m β g ds u c)

    go : (o : Result) → bounded l rules s m β g d c ≡ o → Sound rules c β (goal g d ∷ []) leaf (bounded l rules s m β g d c) → Reaches rules n₀ β (cons g nil) (bounded l rules s m β g d c) → Next
        → SaysSLD rules n₀ β g (settle s o (λ u' c'. deepen l rules s m β g ds u' c'))
    go refused e snd rch n = tt
    go (found β' st b c' m') e snd rch n = subst (Reaches rules n₀ β (cons g nil)) e rch
    go (failed zero cut c') e snd rch n = let f : c ≤ c' = subst (Sound rules c β (goal g d ∷ []) leaf) e snd in n s c' (omega arith)
    go (failed (suc b) true c') e snd rch n = let f : c ≤ c' = subst (Sound rules c β (goal g d ∷ []) leaf) e snd in n (s - suc b) c' (omega arith)
    go (failed (suc b) false c') e snd rch n = none_fails l rules s m β g d c b c' ac (below_b_le h β bb) (below_le h g bg) e

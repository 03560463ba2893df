-- Completeness of SLD resolution (Lloyd, section 8): every derivable instance of a goal is an instance of the goal under the answer of a refutation.
-- The definitions that it speaks of are in specs/Completeness.
use Rattle.std.specs.Prelude.{ℕ, zero, suc, ◌+◌, ◌≤◌, ◌≡◌, refl, List, length}
use Rattle.std.proofs.Common.{ap, ap₂, sym, ◌∙◌, subst, arith, le_refl}
use Rattle.terms.specs.Term.{Kind, many, Syn, var, nil, cons, Terms, append, Subst, sub, compose, Below}
use Rattle.terms.specs.Bindings.{Bindings, start, full, Acyclic, Solves, BelowB}
use Rattle.terms.specs.Unification.{Unifier, Outcome, unfinished, fails, unified, unify}
use Rattle.terms.specs.TermLaws.{sub_var, sub_sub, sub_agree, sub_append, below_le, below_append, cons_inj, nil_cons}
use Rattle.terms.specs.BindingLaws.{solves_full, solves_agree}
use Rattle.terms.specs.Robinson.{Unified}
use Rattle.resolution.specs.Rules.{Rule, Tree, node, leaf, ◌◂◌, roots, joined, Instance, Derivation}
use Rattle.resolution.specs.Fresh.{head_vars, all_vars, head, body}
use Rattle.resolution.specs.FreshLaws.{lift}
use Rattle.resolution.proofs.FreshLaws.{lift_old, lift_new, head_all}
use Rattle.resolution.specs.Attempts.{Entered}
use Rattle.resolution.proofs.Attempts.{entered_of, unify_rule}
use Rattle.resolution.specs.Lloyd.{here, resolve, Refutation, restrict}
use Rattle.resolution.specs.Refutations.{restrict_same, refutation_answer, roots_joined, derivation_joined, nodes, nodes_joined}
use Rattle.resolution.specs.Answers.{advance}
use Rattle.resolution.proofs.Answers.{covers_head, covers_body, advance_res, entered_resolvent}
use Rattle.resolution.specs.Completeness.{Covered, MoreGeneral}

covered_empty : (rules : List Rule) (c : ℕ) (β : Bindings) (σ : Subst) → Solves σ β → Covered rules c β nil σ
covered_empty rules c β σ s = record { φ = var; refutation = (c, here); δ = σ; covers = λ x i. sym (ap (sub σ) (sub_var (full β x)) ∙ solves_full σ β s x) }

covered : (rules : List Rule) (n c : ℕ) (β : Bindings) (G : Terms) (σ : Subst) (ps : Tree many) → nodes ps ≤ n → Acyclic β → BelowB c β → Below c G → Solves σ β
    → roots ps ≡ sub σ G → Derivation rules ps → Covered rules c β G σ
covered rules zero c β nil σ ps h ac bb bg s e d = covered_empty rules c β σ s
covered rules zero c β (cons g As) σ leaf h ac bb bg s e d = nil_cons refl e
covered rules zero c β (cons g As) σ (node r t qs ◂ ps) h ac bb bg s e d = absurd (omega arith)
covered rules (suc n) c β nil σ ps h ac bb bg s e d = covered_empty rules c β σ s
covered rules (suc n) c β (cons g As) σ leaf h ac bb bg s e d = nil_cons refl e
covered rules (suc n) c β (cons g As) σ (node r t qs ◂ ps) h ac bb bg s e d = go (unify (c + length (head_vars R)) β g (head c R)) (unify_rule c β g R ac bb bg.0) (covered rules n)
  where
    i : Instance rules r t (roots qs)
    i = d.0.0

    R : Rule
    R = i.rule

    e_a : t ≡ sub σ g
    e_a = (cons_inj t (sub σ g) (roots ps) (sub σ As) e).0

    e_as : roots ps ≡ sub σ As
    e_as = (cons_inj t (sub σ g) (roots ps) (sub σ As) e).1

    σ⁺ : Subst
    σ⁺ = lift c (all_vars R) σ i.θ

    old : {k : Kind} (u : Syn k) → Below c u → sub σ⁺ u ≡ sub σ u
    old u b = sub_agree c σ⁺ σ (lift_old c (all_vars R) σ i.θ) u b

    unifier : Unifier β g (head c R) σ⁺
    unifier = (
      solves_agree c σ σ⁺ (λ x l. sym (lift_old c (all_vars R) σ i.θ x l)) β bb s,
      old g bg.0 ∙ sym e_a ∙ sym i.head ∙ sym (lift_new c (all_vars R) σ i.θ R.conclusion (covers_head R)) ∙ ap (sub σ⁺) (head_all c R),
    )

    under : roots (joined qs ps) ≡ sub σ⁺ (append (body c R) As)
    under = roots_joined qs ps
        ∙ ap₂ append (sym i.body ∙ sym (lift_new c (all_vars R) σ i.θ R.premises (covers_body R))) (e_as ∙ sym (old As bg.1))
        ∙ sym (sub_append σ⁺ (body c R) As)

    Next : Type 0
    Next = (c : ℕ) (β : Bindings) (G : Terms) (σ : Subst) (ps : Tree many) → nodes ps ≤ n → Acyclic β → BelowB c β → Below c G → Solves σ β → roots ps ≡ sub σ G → Derivation rules ps → Covered rules c β G σ

    step : (β' : Bindings) (c' : ℕ) → Entered c β g R β' c' → Covered rules c' β' (append (body c R) As) σ⁺ → Covered rules c β (cons g As) σ
    step β' c' en f = record {
      φ = compose (advance β β') f.φ;
      refutation = (f.refutation.0, resolve (entered_resolvent c β g R β' c' ac bb en rules c r As (le_refl c) i.found) f.refutation.1);
      δ = f.δ;
      covers = λ x l. sym (lift_old c (all_vars R) σ i.θ x l) ∙ f.covers x (omega (arith, en.later)) ∙ ap (sub f.δ) (after x);
    }
      where
        after : (x : ℕ) → sub f.φ (full β' x) ≡ sub (compose (advance β β') f.φ) (full β x)
        after x = ap (sub f.φ) (sym (advance_res c β g R β' c' ac bb en (var x))) ∙ sub_sub (advance β β') f.φ (full β x)

    go : (o : Outcome) → Unified (c + length (head_vars R)) β g (head c R) o → Next → Covered rules c β (cons g As) σ
    go unfinished u ih = absurd u
    go fails u ih = absurd (u σ⁺ unifier)
    go (unified β') u ih =
        let c' : ℕ = c + length (all_vars R) in
        let en : Entered c β g R β' c' = entered_of c β g R β' u in
        step β' c' en (ih c' β' (append (body c R) As) σ⁺ (joined qs ps) (omega (arith, nodes_joined qs ps)) en.acyclic en.below
        (below_append c' (body c R) As en.premises (below_le en.later As bg.1)) (en.general σ⁺ unifier) under (derivation_joined rules qs ps d.0.1 d.1))

pub sld_complete : (rules : List Rule) (c : ℕ) (G : Terms) (σ : Subst) (ps : Tree many) → Below c G → roots ps ≡ sub σ G → Derivation rules ps → MoreGeneral rules G σ
sld_complete rules c G σ ps b e d =
    let f = covered rules (nodes ps) c start G σ ps (le_refl (nodes ps)) tt tt b tt e d in
    record {
      θ = restrict G f.φ;
      computed = refutation_answer rules c G f.φ b (subst (λ H. Refutation rules c H f.φ) (sub_var G) f.refutation);
      δ = f.δ;
      instance = sub_agree c σ (compose f.φ f.δ) f.covers G b ∙ sym (sub_sub f.φ f.δ G) ∙ ap (sub f.δ) (sym (restrict_same G f.φ));
    }

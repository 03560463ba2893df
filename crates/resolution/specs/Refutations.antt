-- SLD resolution and derivation trees: a refutation gives derivations of its goal under the computed answer; every derivable instance of a goal is an
-- instance of a computed answer; a finitely failed goal has no derivable instance. The last is the completeness of "none".
use Rattle.std.specs.Prelude.{ℕ, zero, suc, ◌+◌, ◌≡◌, refl, cond, List, ◌⊎◌}
use Rattle.std.proofs.Common.{ap, ap₂, sym, ◌∙◌, subst, inl, inr, arith}
use Rattle.std.proofs.Math.Option.{some}
use Rattle.terms.specs.Numbers.{less, less_yes, less_no}
use Rattle.terms.specs.Term.{Kind, many, Syn, var, nil, cons, Term, Terms, append, Subst, sub, compose, Below, From}
use Rattle.terms.specs.TermLaws.{sub_sub, sub_ext, sub_mem, sub_agree, sub_from, sub_append, below_sub, below_le, below_append, cons_inj, nil_cons}
use Rattle.resolution.specs.Rules.{Rule, Tree, node, leaf, ◌◂◌, root, roots, joined, Instance, Derivation, Derivable}
use Rattle.resolution.specs.Fresh.{head, body}
use Rattle.resolution.specs.Lloyd.{Variant, Resolvent, SLD, here, resolve, Refutation, restrict, ComputedAnswer, Clash, FailsBy, FinitelyFailed}

-- Lists of trees

pub roots_joined : (ps qs : Tree many) → roots (joined ps qs) ≡ append (roots ps) (roots qs)
roots_joined leaf qs = refl
roots_joined (p ◂ ps) qs = ap (cons (root p)) (roots_joined ps qs)

pub joined_joined : (ps qs rs : Tree many) → joined ps (joined qs rs) ≡ joined (joined ps qs) rs
joined_joined leaf qs rs = refl
joined_joined (p ◂ ps) qs rs = ap (λ (x : Tree many). p ◂ x) (joined_joined ps qs rs)

pub derivation_joined : (rules : List Rule) (ps qs : Tree many) → Derivation rules ps → Derivation rules qs → Derivation rules (joined ps qs)
derivation_joined rules leaf qs a b = b
derivation_joined rules (p ◂ ps) qs a b = (a.0, derivation_joined rules ps qs a.1 b)

-- The trees of a list of terms in front of another, taken apart.
pub record Split (rules : List Rule) (ts us : Terms) : Type 0 where
  pub first : Tree many
  pub second : Tree many
  pub roots_first : roots first ≡ ts
  pub roots_second : roots second ≡ us
  pub derives_first : Derivation rules first
  pub derives_second : Derivation rules second

split : (rules : List Rule) (ts us : Terms) (ps : Tree many) → roots ps ≡ append ts us → Derivation rules ps → Split rules ts us
split rules nil us ps e d = record { first = leaf; second = ps; roots_first = refl; roots_second = e; derives_first = tt; derives_second = d }
split rules (cons t ts) us leaf e d = nil_cons (sym e) refl
split rules (cons t ts) us (p ◂ ps) e d =
    let i = cons_inj (root p) t (roots ps) (append ts us) e in
    let r = split rules ts us ps i.1 d.1 in
    record {
      first = p ◂ r.first;
      second = r.second;
      roots_first = ap₂ cons i.0 r.roots_first;
      roots_second = r.roots_second;
      derives_first = (d.0, r.derives_first);
      derives_second = r.derives_second;
    }

-- How many nodes.
abbrev pub nodes : {s : Kind} → Tree s → ℕ
nodes (node r g ps) = suc (nodes ps)
nodes leaf = 0
nodes (p ◂ ps) = nodes p + nodes ps

pub nodes_joined : (ps qs : Tree many) → nodes (joined ps qs) ≡ nodes ps + nodes qs
nodes_joined leaf qs = omega arith
nodes_joined (p ◂ ps) qs = omega (arith, nodes_joined ps qs)

-- Soundness of SLD resolution: derivations of the last goal under τ give derivations of the first under the composition.
pub record Derived (rules : List Rule) (ts : Terms) : Type 0 where
  pub trees : Tree many
  pub proves : roots trees ≡ ts
  pub derivation : Derivation rules trees

pub sld_sound : {rules : List Rule} {c d : ℕ} {G H : Terms} {φ : Subst} → SLD rules c G φ d H → (τ : Subst) → Derived rules (sub τ H) → Derived rules (sub (compose φ τ) G)
sld_sound here τ p = p
sld_sound {rules} (resolve {r = r} {A = A} {As = As} {θ = θ} {φ = φ} v s) τ p =
    let q = sld_sound s τ p in
    let ψ : Subst = compose φ τ in
    let χ : Subst = compose (compose θ φ) τ in
    let assoc : (x : ℕ) → sub ψ (θ x) ≡ χ x = λ x. sym (sub_sub φ τ (θ x)) in
    let e : (ts : Terms) → sub ψ (sub θ ts) ≡ sub χ ts = λ ts. sub_sub θ ψ ts ∙ sub_ext (compose θ ψ) χ assoc ts in
    let e₁ : (t : Term) → sub ψ (sub θ t) ≡ sub χ t = λ t. sub_sub θ ψ t ∙ sub_ext (compose θ ψ) χ assoc t in
    let z = split rules (sub χ v.body) (sub χ As) q.trees
    (q.proves ∙ ap (sub ψ) v.derived ∙ e (append v.body As) ∙ sub_append χ v.body As) q.derivation in
    let u : sub χ v.head ≡ sub χ A = sym (e₁ v.head) ∙ ap (sub ψ) (sym v.mgu.unifier.1) ∙ e₁ A in
    record {
      trees = node r (sub χ A) z.first ◂ z.second;
      proves = ap (cons (sub χ A)) z.roots_second;
      derivation = (
        (
          record {
            rule = v.rule;
            found = v.found;
            θ = compose v.variant.to χ;
            head = sym (sub_sub v.variant.to χ v.rule.conclusion) ∙ ap (sub χ) v.variant.head ∙ u;
            body = sym (sub_sub v.variant.to χ v.rule.premises) ∙ ap (sub χ) v.variant.body ∙ sym z.roots_first;
          },
          z.derives_first,
        ),
        z.derives_second,
      );
    }

pub refutation_sound : (rules : List Rule) (c : ℕ) (G : Terms) (φ : Subst) → Refutation rules c G φ → (τ : Subst) → Derived rules (sub (compose φ τ) G)
refutation_sound rules c G φ r τ = sld_sound r.1 τ (record { trees = leaf; proves = refl; derivation = tt })

pub restrict_same : (G : Terms) (φ : Subst) → sub (restrict G φ) G ≡ sub φ G
restrict_same G φ = sub_mem (restrict G φ) φ G (λ x e. rw e)

pub refutation_answer : (rules : List Rule) (c : ℕ) (G : Terms) (φ : Subst) → Below c G → Refutation rules c G φ → ComputedAnswer rules G (restrict G φ)
refutation_answer rules c G φ b r = record { c = c; below = b; φ = φ; refutation = r; restricted = λ x. refl }

-- Every instance of a goal under a computed answer is derivable (Lloyd, theorem 7.1).
pub answer_sound : (rules : List Rule) (G : Terms) (θ : Subst) → ComputedAnswer rules G θ → (τ : Subst) → Derived rules (sub τ (sub θ G))
answer_sound rules G θ a τ =
    subst (Derived rules) (sym (sub_sub a.φ τ G) ∙ ap (sub τ) (sym (restrict_same G a.φ) ∙ sym (sub_ext θ (restrict G a.φ) a.restricted G)))
    (refutation_sound rules a.c G a.φ a.refutation τ)

-- A substitution below c, and another from c on.
abbrev beside : ℕ → Subst → Subst → Subst
beside c σ τ x = cond (less x c) (σ x) (τ x)

beside_low : {s : Kind} (c : ℕ) (σ τ : Subst) (t : Syn s) → Below c t → sub (beside c σ τ) t ≡ sub σ t
beside_low c σ τ t b = sub_agree c (beside c σ τ) σ (λ x h. rw (less_yes h)) t b

beside_high : {s : Kind} (c : ℕ) (σ τ : Subst) (t : Syn s) → From c t → sub (beside c σ τ) t ≡ sub τ t
beside_high c σ τ t b = sub_from c (beside c σ τ) τ (λ x h. rw (less_no h)) t b

-- A finitely failed goal has no derivable instance.
pub fails_none : (rules : List Rule) (n c : ℕ) (G : Terms) → FailsBy rules n c G → Below c G → (σ : Subst) (ps : Tree many) → roots ps ≡ sub σ G → Derivation rules ps → ⊥
fails_none rules zero c G f b σ ps e d = f
fails_none rules (suc n) c nil f b σ ps e d = f
fails_none rules (suc n) c (cons A As) f b σ leaf e d = nil_cons refl e
fails_none rules (suc n) c (cons A As) f b σ (node r t qs ◂ ps) e d = go (f r R i.found) (fails_none rules n)
  where
    i : Instance rules r t (roots qs)
    i = d.0.0

    R : Rule
    R = i.rule

    e_a : t ≡ sub σ A
    e_a = (cons_inj t (sub σ A) (roots ps) (sub σ As) e).0

    e_as : roots ps ≡ sub σ As
    e_as = (cons_inj t (sub σ A) (roots ps) (sub σ As) e).1

    wide : Subst → Subst
    wide back = beside c σ (compose back i.θ)

    meets : (h : Term) (back : Subst) → sub back h ≡ R.conclusion → From c h → sub (wide back) A ≡ sub (wide back) h
    meets h back k a = beside_low c σ (compose back i.θ) A b.0 ∙ sym e_a ∙ sym i.head ∙ ap (sub i.θ) (sym k) ∙ sub_sub back i.θ h ∙ sym (beside_high c σ (compose back i.θ) h a)

    resolved : (c' : ℕ) (θ : Subst) (G : Terms) → Resolvent rules c A As r c' θ G
        → ((σ : Subst) (ps : Tree many) → Below c' G → roots ps ≡ sub σ G → Derivation rules ps → ⊥) → ⊥
    resolved c' θ G v ih = ih δ (joined qs ps)
        (subst (Below c') (sym v.derived) (below_sub c' c' θ v.range (append v.body As) (below_append c' v.body As w.below.1 (below_le w.later As b.1))))
        (roots_joined qs ps ∙ sym under) (derivation_joined rules qs ps d.0.1 d.1)
      where
        same : v.rule ≡ R
        same = let z : some v.rule ≡ some R = sym v.found ∙ i.found in cc

        w : Variant v.rule c c' v.head v.body
        w = v.variant

        σ⁺ : Subst
        σ⁺ = wide w.back

        factor : (δ : Subst) × ((x : ℕ) → σ⁺ x ≡ sub δ (θ x))
        factor = v.mgu.general σ⁺ (tt, meets v.head w.back (w.head_back ∙ ap (λ (Q : Rule). Q.conclusion) same) w.apart.0)

        δ : Subst
        δ = factor.0

        premises : sub σ⁺ v.body ≡ roots qs
        premises = beside_high c σ (compose w.back i.θ) v.body w.apart.1 ∙ sym (sub_sub w.back i.θ v.body)
            ∙ ap (sub i.θ) (w.body_back ∙ ap (λ (Q : Rule). Q.premises) same) ∙ i.body

        others : sub σ⁺ As ≡ roots ps
        others = beside_low c σ (compose w.back i.θ) As b.1 ∙ sym e_as

        under : sub δ G ≡ append (roots qs) (roots ps)
        under = ap (sub δ) v.derived ∙ sub_sub θ δ (append v.body As) ∙ sub_ext (compose θ δ) σ⁺ (λ x. sym (factor.1 x)) (append v.body As)
            ∙ sub_append σ⁺ v.body As ∙ ap₂ append premises others

    go : Clash R c A ⊎ ((c' : ℕ) × (θ : Subst) × (G : Terms) × Resolvent rules c A As r c' θ G × FailsBy rules n c' G)
        → ((c : ℕ) (G : Terms) → FailsBy rules n c G → Below c G → (σ : Subst) (ps : Tree many) → roots ps ≡ sub σ G → Derivation rules ps → ⊥) → ⊥
    go (inl k) ih = k.clash (wide k.variant.back) (meets k.head k.variant.back k.variant.head_back k.variant.apart.0)
    go (inr k) ih = resolved k.0 k.1 k.2 k.3 (λ σ ps b'. ih k.0 k.2 k.4 b' σ ps)

pub finitely_failed_none : (rules : List Rule) (A : Term) → FinitelyFailed rules (cons A nil) → (τ : Subst) → Derivable rules (sub τ A) → ⊥
finitely_failed_none rules A f τ p = fails_none rules f.height f.c (cons A nil) f.fails f.below τ (p.tree ◂ leaf) (ap (λ t. cons t nil) p.proves) (p.derivation, tt)

-- A finitely failed goal has no refutation.
pub failed_not_refuted : (rules : List Rule) (G : Terms) → FinitelyFailed rules G → (c : ℕ) (φ : Subst) → Refutation rules c G φ → ⊥
failed_not_refuted rules G f c φ r =
    let p = refutation_sound rules c G φ r var in
    fails_none rules f.height f.c G f.fails f.below (compose φ var) p.trees p.proves p.derivation

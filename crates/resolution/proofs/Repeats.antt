-- Repeatability: steps and depth no smaller, from the same bindings and goal, repeat "proved" and "none", whatever the limits and wherever fresh numbers
-- start, unless storage refuses.
-- The definitions that it speaks of are in specs/Repeats.
use Rattle.std.specs.Prelude.{ℕ, zero, suc, ◌+◌, ◌-◌, ◌≤◌, ◌≡◌, refl, true, false, List, [], ◌∷◌, ◌++◌, ◌⊎◌}
use Rattle.std.proofs.Common.{ap, sym, ◌∙◌, subst, inl, inr, arith, le_refl}
use Rattle.terms.specs.Term.{many, Term, Subst, sub, Below}
use Rattle.terms.specs.Bindings.{Bindings, full, res, Acyclic, BelowB}
use Rattle.terms.specs.TermLaws.{below_le}
use Rattle.terms.specs.BindingLaws.{below_b_le, full_solves, solves_res, extends_solves}
use Rattle.resolution.specs.Rules.{Rule, Tree, leaf, put_in, Derivable}
use Rattle.resolution.specs.Search.{Limits, unlimited, goal, Result, refused, found, failed, bounded, Verdict, refusal, proved, nothing, undecided, settle, bounds, deepen, prove}
use Rattle.resolution.specs.Soundness.{Sound}
use Rattle.resolution.proofs.Soundness.{soundness, root_put_in}
use Rattle.resolution.specs.Steps.{StepsLeft, add_steps}
use Rattle.resolution.proofs.Steps.{solve_add_steps}
use Rattle.resolution.specs.Limited.{Matches}
use Rattle.resolution.proofs.Limited.{solve_match}
use Rattle.resolution.proofs.Failure.{completeness}
use Rattle.resolution.specs.Shifting.{ren_r, shift}
use Rattle.resolution.proofs.Shifting.{bounded_shift}
use Rattle.resolution.specs.Bounds.{bounds_grow}
use Rattle.resolution.specs.Verdicts.{Proved, Says}
use Rattle.resolution.proofs.Verdicts.{found_proved, deepen_says}
use Rattle.resolution.specs.Repeats.{Finding, Repeats, barred, excluded, finding, kind, shown, unsettled}

-- The counter that one bound leaves.
abbrev counter : Result → ℕ
counter refused = 0
counter (found β st b c m) = c
counter (failed b cut c) = c

-- The steps that one bound used.
abbrev used : ℕ → Result → ℕ
used s refused = 0
used s (found β st b c m) = s - b
used s (failed zero cut c) = s
used s (failed (suc b) cut c) = s - suc b

-- What one bound leaves unsettled, the later ones settle.
abbrev pick : Finding → Finding → Finding
pick shown v = shown
pick excluded v = excluded
pick unsettled v = v
pick barred v = barred

settle_finding : (s : ℕ) (o : Result) (next : ℕ → ℕ → Verdict) → finding (settle s o next) ≡ pick (kind o) (finding (next (used s o) (counter o)))
settle_finding s refused next = refl
settle_finding s (found β st b c m) next = refl
settle_finding s (failed zero cut c) next = refl
settle_finding s (failed (suc b) true c) next = refl
settle_finding s (failed (suc b) false c) next = refl

shown_excluded {ℓ} : {P : Type ℓ} {v : Finding} → v ≡ shown → v ≡ excluded → P
shown_excluded p q = absurd (let w : ◌≡◌ {A = ℕ} 0 1 = cc in omega arith)

shown_unsettled {ℓ} : {P : Type ℓ} {v : Finding} → v ≡ shown → v ≡ unsettled → P
shown_unsettled p q = absurd (let w : ◌≡◌ {A = ℕ} 0 1 = cc in omega arith)

shown_barred {ℓ} : {P : Type ℓ} {v : Finding} → v ≡ shown → v ≡ barred → P
shown_barred p q = absurd (let w : ◌≡◌ {A = ℕ} 0 1 = cc in omega arith)

excluded_unsettled {ℓ} : {P : Type ℓ} {v : Finding} → v ≡ excluded → v ≡ unsettled → P
excluded_unsettled p q = absurd (let w : ◌≡◌ {A = ℕ} 0 1 = cc in omega arith)

excluded_barred {ℓ} : {P : Type ℓ} {v : Finding} → v ≡ excluded → v ≡ barred → P
excluded_barred p q = absurd (let w : ◌≡◌ {A = ℕ} 0 1 = cc in omega arith)

kind_ren : (ρ : ℕ → ℕ) (k : ℕ) (o : Result) → kind (ren_r ρ k o) ≡ kind o
kind_ren ρ k refused = refl
kind_ren ρ k (found β st b c m) = refl
kind_ren ρ k (failed zero cut c) = refl
kind_ren ρ k (failed (suc b) true c) = refl
kind_ren ρ k (failed (suc b) false c) = refl

kind_add_steps : (k : ℕ) (o : Result) → StepsLeft o → kind (add_steps k o) ≡ kind o
kind_add_steps k refused v = refl
kind_add_steps k (found β st b c m) v = refl
kind_add_steps k (failed zero cut c) v = absurd (omega arith)
kind_add_steps k (failed (suc b) true c) v = let q : suc b + k ≡ suc (b + k) = omega arith in rw q
kind_add_steps k (failed (suc b) false c) v = let q : suc b + k ≡ suc (b + k) = omega arith in rw q

steps_left_shown : (o : Result) → kind o ≡ shown → StepsLeft o
steps_left_shown refused e = shown_barred e refl
steps_left_shown (found β st b c m) e = tt
steps_left_shown (failed zero cut c) e = shown_unsettled e refl
steps_left_shown (failed (suc b) true c) e = shown_unsettled e refl
steps_left_shown (failed (suc b) false c) e = shown_excluded e refl

steps_left_excluded : (o : Result) → kind o ≡ excluded → StepsLeft o
steps_left_excluded refused e = excluded_barred e refl
steps_left_excluded (found β st b c m) e = tt
steps_left_excluded (failed zero cut c) e = excluded_unsettled e refl
steps_left_excluded (failed (suc b) true c) e = omega arith
steps_left_excluded (failed (suc b) false c) e = omega arith

steps_left_ren : (ρ : ℕ → ℕ) (k : ℕ) (o : Result) → StepsLeft (ren_r ρ k o) → StepsLeft o
steps_left_ren ρ k refused v = v
steps_left_ren ρ k (found β st b c m) v = tt
steps_left_ren ρ k (failed b cut c) v = v

module _ (rules : List Rule) (β : Bindings) (g : Term) (n₀ : ℕ) (ac : Acyclic β) (bb : BelowB n₀ β) (bg : Below n₀ g) where
  -- Without limits, more steps from another number on come to the same kind of result.
  unlimited_kind : (s s' m d c c' : ℕ) → s ≤ s' → n₀ ≤ c → n₀ ≤ c' → StepsLeft (bounded unlimited rules s m β g d c) → kind (bounded unlimited rules s' m β g d c') ≡ kind (bounded unlimited rules s m β g d c)
  unlimited_kind s s' m d c c' h l l' v =
      let here = bounded_shift rules s m β g d n₀ c ac bb bg l in
      let there = bounded_shift rules s' m β g d n₀ c' ac bb bg l' in
      let o : Result = bounded unlimited rules s m β g d n₀ in
      let v₀ : StepsLeft o = steps_left_ren (shift n₀ (c - n₀)) (c - n₀) o (subst StepsLeft here v) in
      ap kind there ∙ kind_ren (shift n₀ (c' - n₀)) (c' - n₀) (bounded unlimited rules s' m β g d n₀)
      ∙ ap kind (solve_add_steps unlimited rules (s' - s) s s' h s s' n₀ m β (goal g d ∷ []) leaf (omega arith) v₀)
      ∙ kind_add_steps (s' - s) o v₀
      ∙ sym (ap kind here ∙ kind_ren (shift n₀ (c - n₀)) (c - n₀) o)

  kinds_repeat : (l l' : Limits) (s s' m d c c' : ℕ) → s ≤ s' → n₀ ≤ c → n₀ ≤ c' → Repeats (kind (bounded l rules s m β g d c)) (kind (bounded l' rules s' m β g d c'))
  kinds_repeat l l' s s' m d c c' h i i' = go (bounded l rules s m β g d c) (solve_match l rules s s c m β (goal g d ∷ []) leaf)
    where
      u : Result
      u = bounded unlimited rules s m β g d c

      u' : Result
      u' = bounded unlimited rules s' m β g d c'

      there : (v : Finding) → kind u' ≡ v → (kind (bounded l' rules s' m β g d c') ≡ v) ⊎ (kind (bounded l' rules s' m β g d c') ≡ barred)
      there v e = at (solve_match l' rules s' s' c' m β (goal g d ∷ []) leaf)
        where
          at : Matches (bounded l' rules s' m β g d c') u' → (kind (bounded l' rules s' m β g d c') ≡ v) ⊎ (kind (bounded l' rules s' m β g d c') ≡ barred)
          at (inl q) = inr (ap kind q)
          at (inr q) = inl (ap kind q ∙ e)

      go : (o : Result) → Matches o u → Repeats (kind o) (kind (bounded l' rules s' m β g d c'))
      go o (inl q) = (λ e. shown_barred e (ap kind q), λ e. excluded_barred e (ap kind q))
      go o (inr q) = (
        λ e. let z : kind u ≡ shown = sym (ap kind q) ∙ e in there shown (unlimited_kind s s' m d c c' h i i' (steps_left_shown u z) ∙ z),
        λ e. let z : kind u ≡ excluded = sym (ap kind q) ∙ e in there excluded (unlimited_kind s s' m d c c' h i i' (steps_left_excluded u z) ∙ z),
      )

  -- Some instance of the goal under the bindings is derivable.
  record Answerable : Type 0 where
    pub τ : Subst
    pub derivable : Derivable rules (sub τ (res β g))

  -- What a kind of verdict means.
  abbrev Means : Finding → Type 0
  Means shown = Answerable
  Means excluded = Answerable → ⊥
  Means unsettled = Unit {0}
  Means barred = Unit {0}

  proved_answerable : (β' : Bindings) (st : Tree many) (c' : ℕ) → Proved rules n₀ β g β' st c' → Answerable
  proved_answerable β' st c' p = let s = full_solves β' p.acyclic in record {
    τ = full β';
    derivable = record {
      tree = put_in (full β') p.tree;
      proves = root_put_in (full β') p.tree ∙ ap (sub (full β')) p.goal ∙ sym (solves_res (full β') β (extends_solves p.extends (full β') s) g);
      derivation = p.derives (full β') s;
    };
  }

  means : (v : Verdict) → Says rules n₀ β g v → Means (finding v)
  means (refusal n) h = tt
  means (proved β' st u c m) h = proved_answerable β' st c h
  means (nothing u c) h = λ a. h.1 a.τ a.derivable
  means (undecided u c) h = tt

  bounded_means : (l : Limits) (s m d c : ℕ) → n₀ ≤ c → (kind (bounded l rules s m β g d c) ≡ unsettled → n₀ ≤ counter (bounded l rules s m β g d c)) × Means (kind (bounded l rules s m β g d c))
  bounded_means l s m d c h = go (bounded l rules s m β g d c) refl (soundness l rules s m β g d c ac (below_b_le h β bb) (below_le h g bg))
    where
      go : (o : Result) → bounded l rules s m β g d c ≡ o → Sound rules c β (goal g d ∷ []) leaf (bounded l rules s m β g d c) → (kind o ≡ unsettled → n₀ ≤ counter o) × Means (kind o)
      go refused e snd = (λ q. absurd (let w : ◌≡◌ {A = ℕ} 0 1 = cc in omega arith), tt)
      go (found β' st b c' m') e snd = (λ q. shown_unsettled refl q, proved_answerable β' st c' (found_proved rules n₀ c β g d β' st c' h (subst (Sound rules c β (goal g d ∷ []) leaf) e snd)))
      go (failed zero cut c') e snd = let f : c ≤ c' = subst (Sound rules c β (goal g d ∷ []) leaf) e snd in (λ q. omega arith, tt)
      go (failed (suc b) true c') e snd = let f : c ≤ c' = subst (Sound rules c β (goal g d ∷ []) leaf) e snd in (λ q. omega arith, tt)
      go (failed (suc b) false c') e snd = (λ q. excluded_unsettled refl q, λ a. completeness l rules s m β g d c b c' ac (below_b_le h β bb) (below_le h g bg) e a.τ a.derivable)

  pick_repeats : (k k' v v' : Finding) → Repeats k k' → Means k' → (k ≡ unsettled → Means v) → (k ≡ unsettled → k' ≡ unsettled → Repeats v v') → Repeats (pick k v) (pick k' v')
  pick_repeats shown k' v v' h a b r = (λ e. to (h.0 refl), λ e. shown_excluded refl e)
    where
      to : (k' ≡ shown) ⊎ (k' ≡ barred) → (pick k' v' ≡ shown) ⊎ (pick k' v' ≡ barred)
      to (inl q) = inl (rw q)
      to (inr q) = inr (rw q)
  pick_repeats excluded k' v v' h a b r = (λ e. shown_excluded e refl, λ e. to (h.1 refl))
    where
      to : (k' ≡ excluded) ⊎ (k' ≡ barred) → (pick k' v' ≡ excluded) ⊎ (pick k' v' ≡ barred)
      to (inl q) = inl (rw q)
      to (inr q) = inr (rw q)
  pick_repeats unsettled shown v v' h a b r = (λ e. inl refl, λ e. let n : Answerable → ⊥ = subst Means e (b refl) in absurd (n a))
  pick_repeats unsettled excluded v v' h a b r = (λ e. let y : Answerable = subst Means e (b refl) in absurd (a y), λ e. inl refl)
  pick_repeats unsettled unsettled v v' h a b r = r refl refl
  pick_repeats unsettled barred v v' h a b r = (λ e. inr refl, λ e. inr refl)
  pick_repeats barred k' v v' h a b r = (λ e. shown_barred e refl, λ e. excluded_barred e refl)

  -- The theorem: steps no fewer, and further bounds behind the same ones.
  pub deepen_repeats : (l l' : Limits) (s s' m : ℕ) (ds es : List ℕ) (u u' c c' : ℕ) → s ≤ s' → n₀ ≤ c → n₀ ≤ c'
      → Repeats (finding (deepen l rules s m β g ds u c)) (finding (deepen l' rules s' m β g (ds ++ es) u' c'))
  deepen_repeats l l' s s' m [] es u u' c c' h i i' = (λ e. shown_unsettled e refl, λ e. excluded_unsettled e refl)
  deepen_repeats l l' s s' m (d ∷ ds) es u u' c c' h i i' =
      let o : Result = bounded l rules s m β g d c in
      let o' : Result = bounded l' rules s' m β g d c' in
      let a = bounded_means l s m d c i in
      let a' = bounded_means l' s' m d c' i' in
      let v : Finding = finding (deepen l rules s m β g ds (used s o) (counter o)) in
      let v' : Finding = finding (deepen l' rules s' m β g (ds ++ es) (used s' o') (counter o')) in
      let r : Repeats (pick (kind o) v) (pick (kind o') v') = pick_repeats (kind o) (kind o') v v' (kinds_repeat l l' s s' m d c c' h i i') a'.1
      (λ q. means (deepen l rules s m β g ds (used s o) (counter o)) (deepen_says l rules s m n₀ β g ac bb bg ds (used s o) (counter o) (a.0 q)))
      (λ q q'. deepen_repeats l l' s s' m ds es (used s o) (used s' o') (counter o) (counter o') h (a.0 q) (a'.0 q')) in
      let e = settle_finding s o (λ u' c'. deepen l rules s m β g ds u' c') in
      let e' = settle_finding s' o' (λ u' c'. deepen l' rules s' m β g (ds ++ es) u' c') in
      subst (λ x. Repeats (finding (settle s o (λ u' c'. deepen l rules s m β g ds u' c'))) x) (sym e') (subst (λ x. Repeats x (pick (kind o') v')) (sym e) r)

-- Repeatability of the Rust's `prove`.
pub prove_repeats : (rules : List Rule) (β : Bindings) (g : Term) (n₀ : ℕ) → Acyclic β → BelowB n₀ β → Below n₀ g
    → (l l' : Limits) (s s' largest larger m : ℕ) → s ≤ s' → largest ≤ larger
    → Repeats (finding (prove l rules s largest m β g n₀)) (finding (prove l' rules s' larger m β g n₀))
prove_repeats rules β g n₀ ac bb bg l l' s s' largest larger m hs hd =
    let r = bounds_grow largest larger hd in
    subst (λ es. Repeats (finding (prove l rules s largest m β g n₀)) (finding (deepen l' rules s' m β g es 0 n₀))) (sym r.1)
    (deepen_repeats rules β g n₀ ac bb bg l l' s s' m (bounds largest) r.0 0 0 n₀ n₀ hs (le_refl n₀) (le_refl n₀))

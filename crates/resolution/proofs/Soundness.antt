-- Soundness: what a successful search has built is a derivation once the final bindings are put in throughout, under any limits, and the bindings
-- only add. It is a derivation under every substitution that agrees with the final bindings, so later bindings leave it one.
-- The definitions that it speaks of are in specs/Soundness.
use Rattle.std.specs.Prelude.{ℕ, zero, suc, ◌+◌, ◌≤◌, ◌≡◌, refl, Bool, false, ◌||◌, List, [], ◌∷◌}
use Rattle.std.proofs.Common.{ap, ap₂, sym, ◌∙◌, subst, arith, le_refl}
use Rattle.std.proofs.Math.Option.{some}
use Rattle.terms.specs.Term.{one, many, nil, cons, Term, Terms, count, Subst, sub, compose, Below}
use Rattle.terms.specs.Bindings.{Bindings, Acyclic, BelowB, unchanged}
use Rattle.terms.specs.TermLaws.{sub_sub, below_le, count_sub}
use Rattle.terms.specs.BindingLaws.{below_b_le, extends_trans, extends_solves}
use Rattle.resolution.specs.Rules.{Rule, rule_at_lem, Tree, node, leaf, ◌◂◌, root, roots, joined, put_in, Derivation}
use Rattle.resolution.specs.Fresh.{fresh, all_vars, head, body}
use Rattle.resolution.proofs.FreshLaws.{head_all}
use Rattle.resolution.specs.Search.{Limits, attempt, Work, goal, build, goals, gather, built, Result, refused, found, failed, Search, tries, solve, bounded}
use Rattle.resolution.specs.Attempts.{Missed, Entered, Attempted}
use Rattle.resolution.proofs.Attempts.{attempt_ok, tries_cases}
use Rattle.resolution.specs.Soundness.{BelowW, Found, Performed, Sound, SoundSearch, Suffix}

-- Work
pub below_w_le : {c d : ℕ} → c ≤ d → (w : List Work) → BelowW c w → BelowW d w
below_w_le h [] b = tt
below_w_le h (goal g d ∷ w) b = (below_le h g b.0, below_w_le h w b.1)
below_w_le h (build r g k ∷ w) b = below_w_le h w b

pub below_w_goals : (c : ℕ) (ts : Terms) (d : ℕ) (w : List Work) → Below c ts → BelowW c w → BelowW c (goals ts d w)
below_w_goals c nil d w b h = h
below_w_goals c (cons t ts) d w b h = (b.0, below_w_goals c ts d w b.1 h)

-- Proofs put on a stack one by one, the last on top, are what a build takes off again.
abbrev onto : Tree many → Tree many → Tree many
onto leaf st = st
onto (p ◂ ps) st = onto ps (p ◂ st)

joined_leaf : (ps : Tree many) → joined ps leaf ≡ ps
joined_leaf leaf = refl
joined_leaf (p ◂ ps) = ap (λ qs. p ◂ qs) (joined_leaf ps)

gather_onto : (ps acc st : Tree many) (k n : ℕ) → n ≡ count (roots ps) + k → gather n acc (onto ps st) ≡ gather k (joined ps acc) st
gather_onto leaf acc st k n e = let q : n ≡ k = omega arith in rw q
gather_onto (p ◂ ps) acc st k n e = gather_onto ps acc (p ◂ st) (suc k) n (omega arith)

built_onto : (r : ℕ) (g : Term) (ps st : Tree many) → built r g (count (roots ps)) (onto ps st) ≡ node r g ps ◂ st
built_onto r g ps st =
    let e = gather_onto ps leaf st 0 (count (roots ps)) (omega arith) in
    ap (λ (q : Tree many × Tree many). node r g q.0 ◂ q.1) e ∙ ap (λ qs. node r g qs ◂ st) (joined_leaf ps)

pub root_put_in : (σ : Subst) (p : Tree one) → root (put_in σ p) ≡ sub σ (root p)
root_put_in σ (node r g ps) = refl

pub roots_put_in : (σ : Subst) (ps : Tree many) → roots (put_in σ ps) ≡ sub σ (roots ps)
roots_put_in σ leaf = refl
roots_put_in σ (p ◂ ps) = ap₂ cons (root_put_in σ p) (roots_put_in σ ps)

performed_goals : (rules : List Rule) (σ : Subst) (ts : Terms) (d : ℕ) (w : List Work) (st st' : Tree many) → Performed rules σ (goals ts d w) st st'
    → (ps : Tree many) × (roots ps ≡ ts) × Derivation rules (put_in σ ps) × Performed rules σ w (onto ps st) st'
performed_goals rules σ nil d w st st' x = (leaf, refl, tt, x)
performed_goals rules σ (cons t ts) d w st st' x =
    let (ps, e, ds, y) = performed_goals rules σ ts d w (x.0 ◂ st) st' x.3 in
    (x.0 ◂ ps, ap₂ cons x.1 e, (x.2, ds), y)

-- An application: where the goal and the rule's conclusion are equal, the premises' derivations make one of the goal.
performed_rule : (rules : List Rule) (σ : Subst) (c r : ℕ) (R : Rule) (g : Term) (d e : ℕ) (w : List Work) (st st' : Tree many)
    → rule_at_lem rules r ≡ some R → sub σ g ≡ sub σ (head c R) → Performed rules σ (goals (body c R) d (build r g (count R.premises) ∷ w)) st st'
    → Performed rules σ (goal g e ∷ w) st st'
performed_rule rules σ c r R g d e w st st' at u x =
    let (ps, er, ds, y) = performed_goals rules σ (body c R) d (build r g (count R.premises) ∷ w) st st' x in
    let n : count R.premises ≡ count (roots ps) = sym (count_sub _ R.premises) ∙ ap count (sym er) in
    let y' : Performed rules σ w (node r g ps ◂ st) st' = subst (λ q. Performed rules σ w q st') (ap (λ k. built r g k (onto ps st)) n ∙ built_onto r g ps st) y in (
      node r g ps,
      refl,
      (
        record {
          rule = R;
          found = at;
          θ = compose (fresh c (all_vars R)) σ;
          head = sym (sub_sub (fresh c (all_vars R)) σ R.conclusion) ∙ ap (sub σ) (head_all c R) ∙ sym u;
          body = sym (sub_sub (fresh c (all_vars R)) σ R.premises) ∙ ap (sub σ) (sym er) ∙ sym (roots_put_in σ ps);
        },
        ds,
      ),
      y',
    )

pub suffix_all : (rules : List Rule) → Suffix rules 0 rules
suffix_all rules i = let q : 0 + i ≡ i = omega arith in rw q

pub suffix_here : (rules : List Rule) (r : ℕ) (R : Rule) (Rs : List Rule) → Suffix rules r (R ∷ Rs) → rule_at_lem rules r ≡ some R
suffix_here rules r R Rs h = let q : r ≡ r + 0 = omega arith in ap (rule_at_lem rules) q ∙ h 0

pub suffix_next : (rules : List Rule) (r : ℕ) (R : Rule) (Rs : List Rule) → Suffix rules r (R ∷ Rs) → Suffix rules (suc r) Rs
suffix_next rules r R Rs h i = let q : suc r + i ≡ r + suc i = omega arith in ap (rule_at_lem rules) q ∙ h (suc i)

-- The search
sound_le : (rules : List Rule) (c d : ℕ) (β : Bindings) (w : List Work) (st : Tree many) (o : Result) → c ≤ d → Sound rules d β w st o → Sound rules c β w st o
sound_le rules c d β w st refused h f = tt
sound_le rules c d β w st (found β' st' b c' m) h f = record { later = omega (arith, f.later); acyclic = f.acyclic; below = f.below; extends = f.extends; performed = f.performed }
sound_le rules c d β w st (failed b cut c') h f = omega arith

-- The premises of an entered rule, with the work behind them.
pub entered_below : (c : ℕ) (β : Bindings) (g : Term) (R : Rule) (β' : Bindings) (c' d r : ℕ) (w : List Work) → Entered c β g R β' c' → BelowW c w
    → BelowW c' (goals (body c R) d (build r g (count R.premises) ∷ w))
entered_below c β g R β' c' d r w en bw = below_w_goals c' (body c R) d (build r g (count R.premises) ∷ w) en.premises (below_w_le en.later w bw)

module _ (l : Limits) (rules : List Rule) where
  tries_sound : (rec : Search) → SoundSearch rules rec → (β : Bindings) (g : Term) (d : ℕ) (w : List Work) (st : Tree many) (m r : ℕ) (Rs : List Rule) (b : ℕ) (cut : Bool) (c : ℕ)
      → Suffix rules r Rs → Acyclic β → BelowB c β → Below c g → BelowW c w → Sound rules c β (goal g (suc d) ∷ w) st (tries l rec β g d w st m r Rs b cut c)
  tries_sound rec ok β g d w st m r [] b cut c sf ac bb bg bw = le_refl c
  tries_sound rec ok β g d w st m r (R ∷ Rs) b cut c sf ac bb bg bw =
      let next : (b' : ℕ) (cut' : Bool) (c' : ℕ) → c ≤ c' → Sound rules c β (goal g (suc d) ∷ w) st (tries l rec β g d w st m (suc r) Rs b' cut' c') =
      λ b' cut' c' h. sound_le rules c c' β (goal g (suc d) ∷ w) st (tries l rec β g d w st m (suc r) Rs b' cut' c') h
      (tries_sound rec ok β g d w st m (suc r) Rs b' cut' c' (suffix_next rules r R Rs sf) ac (below_b_le h β bb) (below_le h g bg) (below_w_le h w bw)) in
      tries_cases l rec β g d w st m (Sound rules c β (goal g (suc d) ∷ w) st) r R Rs b cut c
      tt
      (λ c' e. let k : Missed c β g R c' = subst (Attempted c β g R) e aok in next b cut c' k.later)
      (λ β' c' m' e β'' st' b'' c'' m'' q.
      let k : Entered c β g R β' c' = subst (Attempted c β g R) e aok in
      let f : Found rules c' β' (nw) st β'' st' c'' = subst (Sound rules c' β' nw st) q (deeper β' c' m' k) in
      record {
        later = omega (arith, f.later, k.later);
        acyclic = f.acyclic;
        below = f.below;
        extends = extends_trans k.extends f.extends;
        performed = λ σ s. performed_rule rules σ c r R g d (suc d) w st st' (suffix_here rules r R Rs sf) (k.unifies σ (extends_solves f.extends σ s)) (f.performed σ s);
      })
      (λ β' c' m' e b'' cut'' c'' q.
      let k : Entered c β g R β' c' = subst (Attempted c β g R) e aok in
      let f : c' ≤ c'' = subst (Sound rules c' β' nw st) q (deeper β' c' m' k) in
      next b'' (cut || cut'') c'' (omega (arith, k.later)))
    where
      nw : List Work
      nw = goals (body c R) d (build r g (count R.premises) ∷ w)

      aok : Attempted c β g R (attempt l β g m c R)
      aok = attempt_ok l β g m c R ac bb bg

      deeper : (β' : Bindings) (c' m' : ℕ) → Entered c β g R β' c' → Sound rules c' β' nw st (rec b c' m' β' nw st)
      deeper β' c' m' k = ok b c' m' β' nw st k.acyclic k.below (entered_below c β g R β' c' d r w k bw)

  pub solve_sound : (n : ℕ) → SoundSearch rules (solve l rules n)
  solve_sound zero b c m β w st ac bb bw = le_refl c
  solve_sound (suc n) zero c m β w st ac bb bw = le_refl c
  solve_sound (suc n) (suc b) c m β [] st ac bb bw = record { later = le_refl c; acyclic = ac; below = bb; extends = unchanged; performed = λ σ s. refl }
  solve_sound (suc n) (suc b) c m β (build r g k ∷ w) st ac bb bw = go (solve l rules n b c m β w (built r g k st)) (solve_sound n b c m β w (built r g k st) ac bb bw)
    where
      go : (o : Result) → Sound rules c β w (built r g k st) o → Sound rules c β (build r g k ∷ w) st o
      go refused f = tt
      go (found β' st' b' c' m') f = record { later = f.later; acyclic = f.acyclic; below = f.below; extends = f.extends; performed = f.performed }
      go (failed b' cut c') f = f
  solve_sound (suc n) (suc b) c m β (goal g zero ∷ w) st ac bb bw = le_refl c
  solve_sound (suc n) (suc b) c m β (goal g (suc d) ∷ w) st ac bb bw =
      tries_sound (solve l rules n) (solve_sound n) β g d w st m 0 rules b false c (suffix_all rules) ac bb bw.0 bw.1

  -- The theorem, for a goal at one bound.
  pub soundness : (s m : ℕ) (β : Bindings) (g : Term) (d c : ℕ) → Acyclic β → BelowB c β → Below c g → Sound rules c β (goal g d ∷ []) leaf (bounded l rules s m β g d c)
  soundness s m β g d c ac bb bg = solve_sound s s c m β (goal g d ∷ []) leaf ac bb (bg, tt)

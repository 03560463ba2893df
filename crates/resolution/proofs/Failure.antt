-- Completeness of "none": a search that fails with steps left and nothing cut off leaves a finitely failed goal, so that no instance of the goal under
-- the starting bindings has a derivation, of any height.
use Rattle.std.specs.Prelude.{ℕ, zero, suc, ◌+◌, ◌≤◌, ◌<◌, ◌≡◌, refl, Bool, false, ◌||◌, List, [], ◌∷◌, ◌⊎◌}
use Rattle.std.proofs.Common.{subst, inl, inr, arith, le_refl}
use Rattle.std.proofs.Math.Option.{some}
use Rattle.terms.specs.Numbers.{true_false, or_false, some_none}
use Rattle.terms.specs.Term.{many, nil, cons, Term, Terms, count, append, Subst, sub, Below}
use Rattle.terms.specs.Bindings.{Bindings, res, Acyclic, BelowB}
use Rattle.terms.specs.TermLaws.{below_le}
use Rattle.terms.specs.BindingLaws.{below_b_le, below_res}
use Rattle.resolution.specs.Rules.{Rule, rule_at_lem, Tree, leaf, Derivable}
use Rattle.resolution.specs.Fresh.{body}
use Rattle.resolution.specs.Search.{Limits, attempt, Work, goal, build, goals, built, Result, refused, found, failed, Search, tries, solve, bounded}
use Rattle.resolution.specs.Attempts.{Missed, Entered, Attempted}
use Rattle.resolution.proofs.Attempts.{attempt_ok, tries_cases}
use Rattle.resolution.specs.Soundness.{BelowW, Sound, SoundSearch, Suffix}
use Rattle.resolution.proofs.Soundness.{below_w_le, solve_sound, entered_below, suffix_all, suffix_here, suffix_next}
use Rattle.resolution.specs.Steps.{Falls, FallsSearch}
use Rattle.resolution.proofs.Steps.{tries_falls, solve_falls}
use Rattle.resolution.specs.Lloyd.{Resolvent, Clash, FailsBy, FinitelyFailed}
use Rattle.resolution.specs.Refutations.{finitely_failed_none}
use Rattle.resolution.specs.Answers.{advance, atoms}
use Rattle.resolution.proofs.Answers.{entered_resolvent, missed_clash, atoms_goals}

-- A rule's branch fails, within height n.
abbrev Closes : List Rule → ℕ → ℕ → Term → Terms → ℕ → Rule → Type 0
Closes rules n c A As r R = Clash R c A ⊎ ((c' : ℕ) × (θ : Subst) × (G : Terms) × Resolvent rules c A As r c' θ G × FailsBy rules n c' G)

-- A greater height is no harm.
fails_more : (rules : List Rule) (n c : ℕ) (G : Terms) → FailsBy rules n c G → FailsBy rules (suc n) c G
fails_more rules zero c G f = absurd f
fails_more rules (suc n) c nil f = f
fails_more rules (suc n) c (cons A As) f = λ r R at. go r R (f r R at) (fails_more rules n)
  where
    go : (r : ℕ) (R : Rule) → Closes rules n c A As r R → ((c : ℕ) (G : Terms) → FailsBy rules n c G → FailsBy rules (suc n) c G) → Closes rules (suc n) c A As r R
    go r R (inl k) ih = inl k
    go r R (inr k) ih = inr (k.0, k.1, k.2, k.3, ih k.0 k.2 k.4)

-- What a result says: failure with steps left and nothing cut off is finite failure.
abbrev Fails : List Rule → ℕ → ℕ → Bindings → Terms → Result → Type 0
Fails rules n c β G refused = Unit {0}
Fails rules n c β G (found β' st b c' m) = Unit {0}
Fails rules n c β G (failed b cut c') = 0 < b → cut ≡ false → FailsBy rules n c (res β G)

-- Of all that a search comes to.
abbrev FailsSearch : List Rule → ℕ → Search → Type 0
FailsSearch rules n rec = (b c m : ℕ) (β : Bindings) (w : List Work) (st : Tree many) → Acyclic β → BelowB c β → BelowW c w → Fails rules n c β (atoms w) (rec b c m β w st)

-- All rules from number r on close.
abbrev AllClose : List Rule → ℕ → ℕ → Bindings → Term → Terms → ℕ → List Rule → Result → Type 0
AllClose rules n c β g As r Rs refused = Unit {0}
AllClose rules n c β g As r Rs (found β' st b c' m) = Unit {0}
AllClose rules n c β g As r Rs (failed b cut c') = 0 < b → cut ≡ false → (i : ℕ) (R : Rule) → rule_at_lem Rs i ≡ some R → Closes rules n c (res β g) (res β As) (r + i) R

all_close : (rules : List Rule) (n c : ℕ) (β : Bindings) (g : Term) (As : Terms) (r : ℕ) (R : Rule) (Rs : List Rule) (b : ℕ) (cut : Bool) (o : Result)
    → Falls b cut o → (0 < b → cut ≡ false → Closes rules n c (res β g) (res β As) r R) → AllClose rules n c β g As (suc r) Rs o → AllClose rules n c β g As r (R ∷ Rs) o
all_close rules n c β g As r R Rs b cut refused f h k = tt
all_close rules n c β g As r R Rs b cut (found β' st b' c' m) f h k = tt
all_close rules n c β g As r R Rs b cut (failed b' cut' c') f h k = λ z e i. elim i as (λ i. (R' : Rule) → rule_at_lem (R ∷ Rs) i ≡ some R' → Closes rules n c (res β g) (res β As) (r + i) R') [
  | zero ↦ λ R' q. let s : R ≡ R' = cc in
      let x : Closes rules n c (res β g) (res β As) r R' = subst (Closes rules n c (res β g) (res β As) r) s (h (omega arith) (f.1 e)) in
      subst (λ j. Closes rules n c (res β g) (res β As) j R') (let j : r ≡ r + 0 = omega arith in j) x
  | suc j ↦ λ R' q. subst (λ v. Closes rules n c (res β g) (res β As) v R') (let v : suc r + j ≡ r + suc j = omega arith in v) (k z e j R' q)
]

module _ (l : Limits) (rules : List Rule) where
  tries_fail : (n : ℕ) (rec : Search) → SoundSearch rules rec → FallsSearch rec → FailsSearch rules n rec
      → (β : Bindings) (g : Term) (d : ℕ) (w : List Work) (st : Tree many) (m r : ℕ) (Rs : List Rule) (b : ℕ) (cut : Bool) (c₀ c : ℕ)
      → c₀ ≤ c → Suffix rules r Rs → Acyclic β → BelowB c β → Below c g → BelowW c w → AllClose rules n c₀ β g (atoms w) r Rs (tries l rec β g d w st m r Rs b cut c)
  tries_fail n rec so fa ok β g d w st m r [] b cut c₀ c h sf ac bb bg bw = λ z e i R q. some_none q refl
  tries_fail n rec so fa ok β g d w st m r (R ∷ Rs) b cut c₀ c h sf ac bb bg bw =
      let next : (b' : ℕ) (cut' : Bool) (c' : ℕ) → c ≤ c' → (0 < b' → cut' ≡ false → Closes rules n c₀ (res β g) (res β (atoms w)) r R)
      → AllClose rules n c₀ β g (atoms w) r (R ∷ Rs) (tries l rec β g d w st m (suc r) Rs b' cut' c') =
      λ b' cut' c' i k. all_close rules n c₀ β g (atoms w) r R Rs b' cut' (tries l rec β g d w st m (suc r) Rs b' cut' c') (tries_falls l rec fa β g d w st m (suc r) Rs b' cut' c') k
      (tries_fail n rec so fa ok β g d w st m (suc r) Rs b' cut' c₀ c' (omega arith) (suffix_next rules r R Rs sf) ac (below_b_le i β bb) (below_le i g bg) (below_w_le i w bw)) in
      tries_cases l rec β g d w st m (AllClose rules n c₀ β g (atoms w) r (R ∷ Rs)) r R Rs b cut c
      tt
      (λ c' e. let k : Missed c β g R c' = subst (Attempted c β g R) e aok in next b cut c' k.later (λ z q. inl (missed_clash c β g R c' c₀ ac bb k h)))
      (λ β' c' m' e β'' st' b'' c'' m'' q. tt)
      (λ β' c' m' e b'' cut'' c'' q.
      let k : Entered c β g R β' c' = subst (Attempted c β g R) e aok in
      let kb : BelowW c' nw = entered_below c β g R β' c' d r w k bw in
      let f : c' ≤ c'' = subst (Sound rules c' β' nw st) q (so b c' m' β' nw st k.acyclic k.below kb) in
      let x : Fails rules n c' β' (atoms nw) (failed b'' cut'' c'') = subst (Fails rules n c' β' (atoms nw)) q (ok b c' m' β' nw st k.acyclic k.below kb) in
      next b'' (cut || cut'') c'' (omega (arith, k.later)) (λ z y. inr (
        c',
        advance β β',
        res β' (append (body c R) (atoms w)),
        entered_resolvent c β g R β' c' ac bb k rules c₀ r (atoms w) h (suffix_here rules r R Rs sf),
        subst (λ G. FailsBy rules n c' (res β' G)) (atoms_goals (body c R) d (build r g (count R.premises) ∷ w)) (x z (or_false cut cut'' y).1),
      )))
    where
      nw : List Work
      nw = goals (body c R) d (build r g (count R.premises) ∷ w)

      aok : Attempted c β g R (attempt l β g m c R)
      aok = attempt_ok l β g m c R ac bb bg

  solve_fail : (n : ℕ) → FailsSearch rules n (solve l rules n)
  solve_fail zero b c m β w st ac bb bw = λ z. absurd (omega arith)
  solve_fail (suc n) zero c m β w st ac bb bw = λ z. absurd (omega arith)
  solve_fail (suc n) (suc b) c m β [] st ac bb bw = tt
  solve_fail (suc n) (suc b) c m β (build r g k ∷ w) st ac bb bw = go (solve l rules n b c m β w (built r g k st)) (solve_fail n b c m β w (built r g k st) ac bb bw)
    where
      go : (o : Result) → Fails rules n c β (atoms w) o → Fails rules (suc n) c β (atoms w) o
      go refused f = tt
      go (found β' st' b' c' m') f = tt
      go (failed b' cut c') f = λ z e. fails_more rules n c (res β (atoms w)) (f z e)
  solve_fail (suc n) (suc b) c m β (goal g zero ∷ w) st ac bb bw = λ z e. true_false refl e
  solve_fail (suc n) (suc b) c m β (goal g (suc d) ∷ w) st ac bb bw =
      go (tries l (solve l rules n) β g d w st m 0 rules b false c)
      (tries_fail n (solve l rules n) (solve_sound l rules n) (solve_falls l rules n) (solve_fail n) β g d w st m 0 rules b false c c (le_refl c) (suffix_all rules) ac bb bw.0 bw.1)
    where
      go : (o : Result) → AllClose rules n c β g (atoms w) 0 rules o → Fails rules (suc n) c β (cons g (atoms w)) o
      go refused k = tt
      go (found β' st' b' c' m') k = tt
      go (failed b' cut c') k = λ z e r R at. subst (λ j. Closes rules n c (res β g) (res β (atoms w)) j R) (let j : 0 + r ≡ r = omega arith in j) (k z e r R at)

  -- The search's "none" is finite failure.
  pub none_fails : (s m : ℕ) (β : Bindings) (g : Term) (d c b c' : ℕ) → Acyclic β → BelowB c β → Below c g → bounded l rules s m β g d c ≡ failed (suc b) false c' → FinitelyFailed rules (cons (res β g) nil)
  none_fails s m β g d c b c' ac bb bg e =
      let f : Fails rules s c β (cons g nil) (failed (suc b) false c') = subst (Fails rules s c β (cons g nil)) e (solve_fail s s c m β (goal g d ∷ []) leaf ac bb (bg, tt)) in
      record { c = c; below = (below_res c β bb g bg, tt); height = s; fails = f (omega arith) refl }

  -- The theorem: no derivation has as its root the goal with the starting bindings put in and any terms for the variables left.
  pub completeness : (s m : ℕ) (β : Bindings) (g : Term) (d c b c' : ℕ) → Acyclic β → BelowB c β → Below c g → bounded l rules s m β g d c ≡ failed (suc b) false c'
      → (τ : Subst) → Derivable rules (sub τ (res β g)) → ⊥
  completeness s m β g d c b c' ac bb bg e τ p = finitely_failed_none rules (res β g) (none_fails s m β g d c b c' ac bb bg e) τ p

-- The search's answers in Lloyd's terms: success is a refutation whose computed answer, put in after the starting bindings, is the final bindings;
-- "none" is a finitely failed goal, so that nothing is derivable; and SLD resolution is complete.
-- The definitions that it speaks of are in specs/Answers.
use Rattle.std.specs.Prelude.{ℕ, zero, suc, ◌+◌, ◌≤◌, ◌<◌, ◌≡◌, refl, Bool, false, ◌||◌, List, [], ◌∷◌, length}
use Rattle.std.proofs.Common.{ap, ap₂, sym, ◌∙◌, subst, arith, le_refl}
use Rattle.std.proofs.Math.Option.{Option, none, some}
use Rattle.terms.specs.Numbers.{by_bool, some_none}
use Rattle.terms.specs.Term.{Kind, many, Syn, var, app, nil, cons, Term, Terms, count, append, Subst, sub, compose, mem, Below, From}
use Rattle.terms.specs.Bindings.{Bindings, start, lookup, full, res, Acyclic, BelowB}
use Rattle.terms.specs.Unification.{Unifier, MostGeneral}
use Rattle.terms.specs.TermLaws.{sub_var, sub_sub, sub_mem, sub_from, sub_append, below_le, below_mem}
use Rattle.terms.specs.BindingLaws.{full_unbound, full_solves, full_open, res_open, solves_full, solves_res, solves_comp, lookup_above, below_full, below_b_le, extends_lookup, extends_solves}
use Rattle.resolution.specs.Rules.{Rule, rule_at_lem, Tree, leaf}
use Rattle.resolution.specs.Fresh.{fresh, head_vars, all_vars, head, body}
use Rattle.resolution.specs.FreshLaws.{Covers, lift}
use Rattle.resolution.proofs.FreshLaws.{met_covers, met_back_covers, met_back_grows, covers_grows, fresh_from, lift_new, head_below, body_below, vars_le, head_all}
use Rattle.resolution.specs.Search.{Limits, attempt, Work, goal, build, goals, built, found, Search, tries, solve, bounded}
use Rattle.resolution.specs.Attempts.{Missed, Entered, Attempted}
use Rattle.resolution.proofs.Attempts.{attempt_ok, tries_cases}
use Rattle.resolution.specs.Soundness.{BelowW, Sound, SoundSearch, Suffix}
use Rattle.resolution.proofs.Soundness.{below_w_le, solve_sound, entered_below, suffix_all, suffix_here, suffix_next}
use Rattle.resolution.specs.Lloyd.{Variant, Resolvent, SLD, here, resolve, Refutation, restrict, ComputedAnswer, Clash}
use Rattle.resolution.specs.Answers.{Reaches, Refuted, advance, atoms, choose}

-- A fresh instance is a variant
pub covers_head : (R : Rule) → Covers (all_vars R) R.conclusion
covers_head R = covers_grows R.conclusion (head_vars R) (all_vars R) (met_back_grows R.premises (head_vars R)) (met_covers R.conclusion [])

pub covers_body : (R : Rule) → Covers (all_vars R) R.premises
covers_body R = met_back_covers R.premises (head_vars R)

pub fresh_variant : (c c₀ : ℕ) (R : Rule) → c₀ ≤ c → Variant R c₀ (c + length (all_vars R)) (head c R) (body c R)
fresh_variant c c₀ R l = record {
  to = fresh c (all_vars R);
  back = lift c (all_vars R) var var;
  head = head_all c R;
  body = refl;
  head_back = ap (sub (lift c (all_vars R) var var)) (sym (head_all c R)) ∙ lift_new c (all_vars R) var var R.conclusion (covers_head R) ∙ sub_var R.conclusion;
  body_back = lift_new c (all_vars R) var var R.premises (covers_body R) ∙ sub_var R.premises;
  apart = (from_le l (head c R) (fresh_from c R.conclusion (head_vars R)), from_le l (body c R) (fresh_from c R.premises (all_vars R)));
  below = (below_le (vars_le c R) (head c R) (head_below c R), body_below c R);
  later = omega arith;
}
  where
    from_le : {s : Kind} {c d : ℕ} → c ≤ d → (t : Syn s) → From d t → From c t
    from_le h (var x) b = omega arith
    from_le h (app f ts) b = from_le h ts b
    from_le h nil b = tt
    from_le h (cons t ts) b = (from_le h t b.0, from_le h ts b.1)

-- A unifier over the bindings, from one of the terms with the bindings put in.
over_bindings : (c : ℕ) (β : Bindings) (g h : Term) (τ : Subst) → Acyclic β → BelowB c β → From c h → sub τ (res β g) ≡ sub τ h → Unifier β g h (compose (full β) τ)
over_bindings c β g h τ ac bb fh e = (
  solves_comp (full β) τ β (full_solves β ac),
  sym (sub_sub (full β) τ g) ∙ e ∙ sym (sub_from c (compose (full β) τ) τ (λ x l. ap (sub τ) (full_unbound β x (lookup_above c β bb x l))) h fh),
)

module _ (c : ℕ) (β : Bindings) (g : Term) (R : Rule) (β' : Bindings) (c' : ℕ) (ac : Acyclic β) (bb : BelowB c β) (en : Entered c β g R β' c') where
  advance_open : (x : ℕ) → lookup β x ≡ none → advance β β' x ≡ full β' x
  advance_open x e = rw e

  still_open : (y : ℕ) → lookup β' y ≡ none → lookup β y ≡ none
  still_open y e = go (lookup β y) refl
    where
      go : (o : Option Term) → lookup β y ≡ o → o ≡ none
      go none p = refl
      go (some t) p = some_none (extends_lookup en.acyclic en.extends y t p) e

  -- After the older bindings it is the newer ones.
  pub advance_res : {s : Kind} (t : Syn s) → sub (advance β β') (res β t) ≡ res β' t
  advance_res t =
      sub_mem (advance β β') (full β') (res β t) (λ x e. advance_open x (res_open β ac t x e))
      ∙ solves_res (full β') β (extends_solves en.extends (full β') (full_solves β' en.acyclic)) t

  advance_new : {s : Kind} (t : Syn s) → From c t → sub (advance β β') t ≡ res β' t
  advance_new t f = sub_from c (advance β β') (full β') (λ x l. advance_open x (lookup_above c β bb x l)) t f

  advance_mgu : MostGeneral start (res β g) (head c R) (advance β β')
  advance_mgu = record {
    unifier = (tt, advance_res g ∙ en.unifies (full β') (full_solves β' en.acyclic) ∙ sym (advance_new (head c R) (fresh_from c R.conclusion (head_vars R))));
    general = λ τ u. (τ, each τ (solves_full (compose (full β) τ) β' (en.general (compose (full β) τ) (over_bindings c β g (head c R) τ ac bb (fresh_from c R.conclusion (head_vars R)) u.1))));
  }
    where
      each : (τ : Subst) → ((x : ℕ) → sub (compose (full β) τ) (full β' x) ≡ sub τ (full β x)) → (x : ℕ) → τ x ≡ sub τ (advance β β' x)
      each τ h x = go (lookup β x) refl
        where
          go : (o : Option Term) → lookup β x ≡ o → τ x ≡ sub τ (choose o (full β' x) (var x))
          go none e = ap (sub τ) (sym (full_unbound β x e)) ∙ sym (h x)
              ∙ sub_mem (compose (full β) τ) τ (full β' x) (λ y m. ap (sub τ) (full_unbound β y (still_open y (full_open β' en.acyclic x y m))))
          go (some t) e = refl

  advance_range : (x : ℕ) → x < c' → Below c' (advance β β' x)
  advance_range x l = go (lookup β x)
    where
      go : (o : Option Term) → Below c' (choose o (full β' x) (var x))
      go none = below_full c' β' en.below x l
      go (some t) = l

  -- An entered rule is a resolution step.
  pub entered_resolvent : (rules : List Rule) (c₀ r : ℕ) (As : Terms) → c₀ ≤ c → rule_at_lem rules r ≡ some R
      → Resolvent rules c₀ (res β g) (res β As) r c' (advance β β') (res β' (append (body c R) As))
  entered_resolvent rules c₀ r As l at = record {
    rule = R;
    found = at;
    head = head c R;
    body = body c R;
    variant = subst (λ n. Variant R c₀ n (head c R) (body c R)) (sym en.counter) (fresh_variant c c₀ R l);
    mgu = advance_mgu;
    range = advance_range;
    derived = sub_append (full β') (body c R) As
        ∙ ap₂ append (sym (advance_new (body c R) (fresh_from c R.premises (all_vars R)))) (sym (advance_res As))
        ∙ sym (sub_append (advance β β') (body c R) (res β As));
  }

-- A missed rule is a clash.
pub missed_clash : (c : ℕ) (β : Bindings) (g : Term) (R : Rule) (c' c₀ : ℕ) → Acyclic β → BelowB c β → Missed c β g R c' → c₀ ≤ c → Clash R c₀ (res β g)
missed_clash c β g R c' c₀ ac bb k l = record {
  c' = c + length (all_vars R);
  head = head c R;
  body = body c R;
  variant = fresh_variant c c₀ R l;
  clash = λ σ e. k.apart (compose (full β) σ) (over_bindings c β g (head c R) σ ac bb (fresh_from c R.conclusion (head_vars R)) e);
}

pub atoms_goals : (ts : Terms) (d : ℕ) (w : List Work) → atoms (goals ts d w) ≡ append ts (atoms w)
atoms_goals nil d w = refl
atoms_goals (cons t ts) d w = ap (cons t) (atoms_goals ts d w)

-- Of all that a search comes to.
abbrev ReachesSearch : List Rule → Search → Type 0
ReachesSearch rules rec = (b c m : ℕ) (β : Bindings) (w : List Work) (st : Tree many) → Acyclic β → BelowB c β → BelowW c w → Reaches rules c β (atoms w) (rec b c m β w st)

module _ (l : Limits) (rules : List Rule) where
  tries_reach : (rec : Search) → SoundSearch rules rec → ReachesSearch rules rec → (β : Bindings) (g : Term) (d : ℕ) (w : List Work) (st : Tree many) (m r : ℕ) (Rs : List Rule) (b : ℕ) (cut : Bool) (c₀ c : ℕ)
      → c₀ ≤ c → Suffix rules r Rs → Acyclic β → BelowB c β → Below c g → BelowW c w → Reaches rules c₀ β (cons g (atoms w)) (tries l rec β g d w st m r Rs b cut c)
  tries_reach rec so ok β g d w st m r [] b cut c₀ c h sf ac bb bg bw = tt
  tries_reach rec so ok β g d w st m r (R ∷ Rs) b cut c₀ c h sf ac bb bg bw =
      let next : (b' : ℕ) (cut' : Bool) (c' : ℕ) → c ≤ c' → Reaches rules c₀ β (cons g (atoms w)) (tries l rec β g d w st m (suc r) Rs b' cut' c') =
      λ b' cut' c' i. tries_reach rec so ok β g d w st m (suc r) Rs b' cut' c₀ c' (omega arith) (suffix_next rules r R Rs sf) ac (below_b_le i β bb) (below_le i g bg) (below_w_le i w bw) in
      tries_cases l rec β g d w st m (Reaches rules c₀ β (cons g (atoms w))) r R Rs b cut c
      tt
      (λ c' e. let k : Missed c β g R c' = subst (Attempted c β g R) e aok in next b cut c' k.later)
      (λ β' c' m' e β'' st' b'' c'' m'' q.
      let k : Entered c β g R β' c' = subst (Attempted c β g R) e aok in
      step β' c' k β'' (subst (Reaches rules c' β' (atoms nw)) q (ok b c' m' β' nw st k.acyclic k.below (entered_below c β g R β' c' d r w k bw))))
      (λ β' c' m' e b'' cut'' c'' q.
      let k : Entered c β g R β' c' = subst (Attempted c β g R) e aok in
      let f : c' ≤ c'' = subst (Sound rules c' β' nw st) q (so b c' m' β' nw st k.acyclic k.below (entered_below c β g R β' c' d r w k bw)) in
      next b'' (cut || cut'') c'' (omega (arith, k.later)))
    where
      nw : List Work
      nw = goals (body c R) d (build r g (count R.premises) ∷ w)

      aok : Attempted c β g R (attempt l β g m c R)
      aok = attempt_ok l β g m c R ac bb bg

      step : (β' : Bindings) (c' : ℕ) → Entered c β g R β' c' → (β'' : Bindings) → Refuted rules c' β' (atoms nw) β'' → Refuted rules c₀ β (cons g (atoms w)) β''
      step β' c' k β'' f = record {
        φ = compose (advance β β') f.φ;
        refutation = (
          f.refutation.0,
          resolve (entered_resolvent c β g R β' c' ac bb k rules c₀ r (atoms w) h (suffix_here rules r R Rs sf))
              (subst (λ G. SLD rules c' (res β' G) f.φ f.refutation.0 nil) (atoms_goals (body c R) d (build r g (count R.premises) ∷ w)) f.refutation.1),
        );
        answer = λ x i. sym (sub_sub (advance β β') f.φ (full β x)) ∙ ap (sub f.φ) (advance_res c β g R β' c' ac bb k (var x)) ∙ f.answer x (omega (arith, k.later));
      }

  solve_reach : (n : ℕ) → ReachesSearch rules (solve l rules n)
  solve_reach zero b c m β w st ac bb bw = tt
  solve_reach (suc n) zero c m β w st ac bb bw = tt
  solve_reach (suc n) (suc b) c m β [] st ac bb bw = record { φ = var; refutation = (c, here); answer = λ x i. sub_var (full β x) }
  solve_reach (suc n) (suc b) c m β (build r g k ∷ w) st ac bb bw = solve_reach n b c m β w (built r g k st) ac bb bw
  solve_reach (suc n) (suc b) c m β (goal g zero ∷ w) st ac bb bw = tt
  solve_reach (suc n) (suc b) c m β (goal g (suc d) ∷ w) st ac bb bw =
      tries_reach (solve l rules n) (solve_sound l rules n) (solve_reach n) β g d w st m 0 rules b false c c (le_refl c) (suffix_all rules) ac bb bw.0 bw.1

  -- The theorem: a success from the bindings β is a refutation of the goal with β put in, and β followed by its answer is the final bindings. The
  -- counter may have moved on from c₀.
  pub success_refutes : (s m : ℕ) (β : Bindings) (g : Term) (d c₀ c : ℕ) → c₀ ≤ c → Acyclic β → BelowB c β → Below c g → Reaches rules c₀ β (cons g nil) (bounded l rules s m β g d c)
  success_refutes zero m β g d c₀ c h ac bb bg = tt
  success_refutes (suc s) m β g zero c₀ c h ac bb bg = tt
  success_refutes (suc s) m β g (suc d) c₀ c h ac bb bg =
      tries_reach (solve l rules s) (solve_sound l rules s) (solve_reach s) β g d [] leaf m 0 rules s false c₀ c h (suffix_all rules) ac bb bg tt

-- From no bindings, the final bindings are a computed answer.
pub refuted_computed : (rules : List Rule) (c : ℕ) (g : Term) (β' : Bindings) → Below c g → Refuted rules c start (cons g nil) β' → ComputedAnswer rules (cons g nil) (restrict (cons g nil) (full β'))
refuted_computed rules c g β' b f = record {
  c = c;
  below = (b, tt);
  φ = f.φ;
  refutation = subst (λ G. Refutation rules c G f.φ) (sub_var (cons g nil)) f.refutation;
  restricted = λ x. by_bool (mem x (cons g nil)) (λ e. rw e (sym (f.answer x (below_mem c (cons g nil) (b, tt) x e)))) (λ e. rw e);
}

-- A limited search refuses, or comes to what the unlimited one comes to: bindings, proofs, steps, counter and words.
-- The definitions that it speaks of are in specs/Limited.
use Rattle.std.specs.Prelude.{ℕ, zero, suc, ◌+◌, ◌-◌, ◌≡◌, refl, Bool, true, false, ◌||◌, List, [], ◌∷◌, ◌⊎◌, length}
use Rattle.std.proofs.Common.{ap, sym, ◌∙◌, subst, inl, inr, arith}
use Rattle.terms.specs.Term.{many, Term, count}
use Rattle.terms.specs.Bindings.{Bindings}
use Rattle.terms.specs.Unification.{Outcome, unfinished, fails, unified, unify}
use Rattle.resolution.specs.Rules.{Rule, Tree, leaf}
use Rattle.resolution.specs.Fresh.{head_vars, all_vars, head, body}
use Rattle.resolution.specs.Search.{Limits, unlimited, words, over, Attempt, exceeded, missed, entered, attempt, guard, unifying, Work, goal, build, goals, built, Result, refused, found, failed, after, Search, tries, solve, bounded, Verdict, refusal, settle, deepen, prove, bounds}
use Rattle.resolution.proofs.Attempts.{guard_cases, tries_exceeded, tries_missed, tries_entered}
use Rattle.resolution.specs.Limited.{Matches}

-- An attempt exceeds the limits, or is the unlimited one.
pub attempt_limited : (l : Limits) (β : Bindings) (g : Term) (m c : ℕ) (R : Rule) → (attempt l β g m c R ≡ exceeded) ⊎ (attempt l β g m c R ≡ attempt unlimited β g m c R)
unfolding attempt
attempt_limited l β g m c R =
    guard_cases (λ a. (a ≡ exceeded) ⊎ (a ≡ attempt unlimited β g m c R)) (over l (c + length (head_vars R)) (m + words (head c R))) _ (inl refl) (go (unify (c + length (head_vars R)) β g (head c R)))
  where
    enter : Limits → Bindings → Attempt
    enter l β' = guard (over l (c + length (all_vars R)) (m + words (head c R) + words (body c R))) (λ _. entered β' (c + length (all_vars R)) (m + words (head c R) + words (body c R)))

    go : (o : Outcome) → (unifying o (missed (c + length (head_vars R))) (enter l) ≡ exceeded) ⊎ (unifying o (missed (c + length (head_vars R))) (enter l) ≡ unifying o (missed (c + length (head_vars R))) (enter unlimited))
    go unfinished = inr refl
    go fails = inr refl
    go (unified β') = guard_cases (λ a. (a ≡ exceeded) ⊎ (a ≡ enter unlimited β')) (over l (c + length (all_vars R)) (m + words (head c R) + words (body c R))) _ (inl refl) (inr refl)

-- Of all that two searches come to.
abbrev MatchesSearch : Search → Search → Type 0
MatchesSearch rec rec' = (b c m : ℕ) (β : Bindings) (w : List Work) (st : Tree many) → Matches (rec b c m β w st) (rec' b c m β w st)

tries_match : (l : Limits) (rec rec' : Search) → MatchesSearch rec rec' → (β : Bindings) (g : Term) (d : ℕ) (w : List Work) (st : Tree many) (m r : ℕ) (Rs : List Rule) (b : ℕ) (cut : Bool) (c : ℕ)
    → Matches (tries l rec β g d w st m r Rs b cut c) (tries unlimited rec' β g d w st m r Rs b cut c)
tries_match l rec rec' ok β g d w st m r [] b cut c = inr refl
tries_match l rec rec' ok β g d w st m r (R ∷ Rs) b cut c = go (attempt l β g m c R) refl (attempt_limited l β g m c R) (λ b cut c. tries_match l rec rec' ok β g d w st m (suc r) Rs b cut c)
  where
    nw : List Work
    nw = goals (body c R) d (build r g (count R.premises) ∷ w)

    Next : Type 0
    Next = (b : ℕ) (cut : Bool) (c : ℕ) → Matches (tries l rec β g d w st m (suc r) Rs b cut c) (tries unlimited rec' β g d w st m (suc r) Rs b cut c)

    on : Result → Result
    on o = after o (λ b'' cut'' c''. tries l rec β g d w st m (suc r) Rs b'' (cut || cut'') c'')

    on' : Result → Result
    on' o = after o (λ b'' cut'' c''. tries unlimited rec' β g d w st m (suc r) Rs b'' (cut || cut'') c'')

    same : (o : Result) → Next → Matches (on o) (on' o)
    same refused n = inl refl
    same (found β'' st' b'' c'' m'') n = inr refl
    same (failed b'' cut'' c'') n = n b'' (cut || cut'') c''

    deep : (o o' : Result) → Matches o o' → Next → Matches (on o) (on' o')
    deep o o' (inl e) n = inl (ap on e)
    deep o o' (inr e) n = subst (λ p. Matches (on o) (on' p)) e (same o n)

    exceeded_missed : {P : Type 0} {a : Attempt} {c' : ℕ} → a ≡ exceeded → a ≡ missed c' → P
    exceeded_missed p q = absurd (let z : ◌≡◌ {A = ℕ} 0 1 = cc in omega arith)

    exceeded_entered : {P : Type 0} {a : Attempt} {β' : Bindings} {c' m' : ℕ} → a ≡ exceeded → a ≡ entered β' c' m' → P
    exceeded_entered p q = absurd (let z : ◌≡◌ {A = ℕ} 0 1 = cc in omega arith)

    go : (a : Attempt) → attempt l β g m c R ≡ a → (attempt l β g m c R ≡ exceeded) ⊎ (attempt l β g m c R ≡ attempt unlimited β g m c R) → Next
        → Matches (tries l rec β g d w st m r (R ∷ Rs) b cut c) (tries unlimited rec' β g d w st m r (R ∷ Rs) b cut c)
    go exceeded e h n = inl (tries_exceeded l rec β g d w st m r R Rs b cut c e)
    go (missed c') e (inl f) n = exceeded_missed f e
    go (missed c') e (inr f) n = subst (λ o. Matches o (tries unlimited rec' β g d w st m r (R ∷ Rs) b cut c)) (sym (tries_missed l rec β g d w st m r R Rs b cut c c' e))
        (subst (Matches (tries l rec β g d w st m (suc r) Rs b cut c')) (sym (tries_missed unlimited rec' β g d w st m r R Rs b cut c c' (sym f ∙ e))) (n b cut c'))
    go (entered β' c' m') e (inl f) n = exceeded_entered f e
    go (entered β' c' m') e (inr f) n = subst (λ o. Matches o (tries unlimited rec' β g d w st m r (R ∷ Rs) b cut c)) (sym (tries_entered l rec β g d w st m r R Rs b cut c β' c' m' e))
        (subst (Matches (on (rec b c' m' β' nw st))) (sym (tries_entered unlimited rec' β g d w st m r R Rs b cut c β' c' m' (sym f ∙ e)))
        (deep (rec b c' m' β' nw st) (rec' b c' m' β' nw st) (ok b c' m' β' nw st) n))

-- The theorem at one bound.
pub solve_match : (l : Limits) (rules : List Rule) (n : ℕ) → MatchesSearch (solve l rules n) (solve unlimited rules n)
solve_match l rules zero b c m β w st = inr refl
solve_match l rules (suc n) zero c m β w st = inr refl
solve_match l rules (suc n) (suc b) c m β [] st = inr refl
solve_match l rules (suc n) (suc b) c m β (build r g k ∷ w) st = solve_match l rules n b c m β w (built r g k st)
solve_match l rules (suc n) (suc b) c m β (goal g zero ∷ w) st = inr refl
solve_match l rules (suc n) (suc b) c m β (goal g (suc d) ∷ w) st = tries_match l (solve l rules n) (solve unlimited rules n) (solve_match l rules n) β g d w st m 0 rules b false c

-- The theorem for all bounds.
pub deepen_match : (l : Limits) (rules : List Rule) (s m : ℕ) (β : Bindings) (g : Term) (ds : List ℕ) (u c : ℕ)
    → (deepen l rules s m β g ds u c ≡ refusal 37) ⊎ (deepen l rules s m β g ds u c ≡ deepen unlimited rules s m β g ds u c)
deepen_match l rules s m β g [] u c = inr refl
deepen_match l rules s m β g (d ∷ ds) u c = go (bounded l rules s m β g d c) (bounded unlimited rules s m β g d c) (solve_match l rules s s c m β (goal g d ∷ []) leaf) (deepen_match l rules s m β g ds)
  where
    Next : Type 0
    Next = (u c : ℕ) → (deepen l rules s m β g ds u c ≡ refusal 37) ⊎ (deepen l rules s m β g ds u c ≡ deepen unlimited rules s m β g ds u c)

    on : Result → Verdict
    on o = settle s o (λ u' c'. deepen l rules s m β g ds u' c')

    on' : Result → Verdict
    on' o = settle s o (λ u' c'. deepen unlimited rules s m β g ds u' c')

    same : (o : Result) → Next → (on o ≡ refusal 37) ⊎ (on o ≡ on' o)
    same refused n = inl refl
    same (found β' st b c' m') n = inr refl
    same (failed zero cut c') n = n s c'
    same (failed (suc b) true c') n = n (s - suc b) c'
    same (failed (suc b) false c') n = inr refl

    go : (o o' : Result) → Matches o o' → Next → (on o ≡ refusal 37) ⊎ (on o ≡ on' o')
    go o o' (inl e) n = inl (ap on e)
    go o o' (inr e) n = subst (λ p. (on o ≡ refusal 37) ⊎ (on o ≡ on' p)) e (same o n)

pub prove_match : (l : Limits) (rules : List Rule) (s largest m : ℕ) (β : Bindings) (g : Term) (c : ℕ)
    → (prove l rules s largest m β g c ≡ refusal 37) ⊎ (prove l rules s largest m β g c ≡ prove unlimited rules s largest m β g c)
prove_match l rules s largest m β g c = deepen_match l rules s m β g (bounds largest) 0 c

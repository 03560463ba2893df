-- What one attempt does, from Robinson's theorem, and how the attempts with the rules go on from it: all that the theorems use of them.
-- The definitions that it speaks of are in specs/Attempts.
use Rattle.std.specs.Prelude.{ℕ, suc, ◌+◌, ◌≡◌, refl, Bool, true, false, ◌||◌, List, ◌∷◌, length}
use Rattle.std.proofs.Common.{sym, subst, arith}
use Rattle.terms.specs.Term.{many, Term, count, Below}
use Rattle.terms.specs.Bindings.{Bindings, Acyclic, BelowB}
use Rattle.terms.specs.Unification.{Outcome, unfinished, fails, unified, unify}
use Rattle.terms.specs.TermLaws.{below_le}
use Rattle.terms.specs.BindingLaws.{below_b_le}
use Rattle.terms.specs.Robinson.{Unified}
use Rattle.terms.proofs.Robinson.{unify_ok}
use Rattle.resolution.specs.Rules.{Rule, Tree}
use Rattle.resolution.specs.Fresh.{head_vars, all_vars, head, body}
use Rattle.resolution.proofs.FreshLaws.{head_below, body_below, vars_le}
use Rattle.resolution.specs.Search.{Limits, words, over, Attempt, exceeded, missed, entered, attempt, guard, unifying, Work, build, goals, Result, refused, found, failed, after, Search, tries}
use Rattle.resolution.specs.Attempts.{Attempted, Entered, Missed}

pub missed_of : (c : ℕ) (β : Bindings) (g : Term) (R : Rule) → Unified (c + length (head_vars R)) β g (head c R) fails → Missed c β g R (c + length (head_vars R))
missed_of c β g R u = record { counter = refl; later = omega arith; apart = u }

pub entered_of : (c : ℕ) (β : Bindings) (g : Term) (R : Rule) (β' : Bindings) → Unified (c + length (head_vars R)) β g (head c R) (unified β') → Entered c β g R β' (c + length (all_vars R))
entered_of c β g R β' u = record {
  counter = refl;
  later = omega (arith, vars_le c R);
  acyclic = u.acyclic;
  below = below_b_le (vars_le c R) β' u.below;
  extends = u.extends;
  unifies = λ σ s. (u.sound σ s).1.0;
  general = λ σ v. u.general σ v.0 (v.1, tt);
  premises = body_below c R;
}

pub unify_rule : (c : ℕ) (β : Bindings) (g : Term) (R : Rule) → Acyclic β → BelowB c β → Below c g → Unified (c + length (head_vars R)) β g (head c R) (unify (c + length (head_vars R)) β g (head c R))
unify_rule c β g R ac bb bg = unify_ok (c + length (head_vars R)) β g (head c R) ac (below_b_le (omega arith) β bb) (below_le (omega arith) g bg) (head_below c R)

-- What holds of both ways, holds of the guard.
pub guard_cases : (P : Attempt → Type 0) (t : Bool) (next : Unit {0} → Attempt) → P exceeded → P (next tt) → P (guard t next)
guard_cases P true next e n = e
guard_cases P false next e n = n

pub attempt_ok : (l : Limits) (β : Bindings) (g : Term) (m c : ℕ) (R : Rule) → Acyclic β → BelowB c β → Below c g → Attempted c β g R (attempt l β g m c R)
unfolding attempt
attempt_ok l β g m c R ac bb bg =
    guard_cases (Attempted c β g R) (over l (c + length (head_vars R)) (m + words (head c R))) _ tt (go (unify (c + length (head_vars R)) β g (head c R)) (unify_rule c β g R ac bb bg))
  where
    enter : Bindings → Attempt
    enter β' = guard (over l (c + length (all_vars R)) (m + words (head c R) + words (body c R))) (λ _. entered β' (c + length (all_vars R)) (m + words (head c R) + words (body c R)))

    go : (o : Outcome) → Unified (c + length (head_vars R)) β g (head c R) o → Attempted c β g R (unifying o (missed (c + length (head_vars R))) enter)
    go unfinished u = absurd u
    go fails u = missed_of c β g R u
    go (unified β') u = guard_cases (Attempted c β g R) (over l (c + length (all_vars R)) (m + words (head c R) + words (body c R))) _ tt (entered_of c β g R β' u)

-- How the attempts go on, by the way the first one goes.
module _ (l : Limits) (rec : Search) (β : Bindings) (g : Term) (d : ℕ) (w : List Work) (st : Tree many) (m : ℕ) where
  pub tries_exceeded : (r : ℕ) (R : Rule) (Rs : List Rule) (b : ℕ) (cut : Bool) (c : ℕ) → attempt l β g m c R ≡ exceeded
      → tries l rec β g d w st m r (R ∷ Rs) b cut c ≡ refused
  tries_exceeded r R Rs b cut c e = rw (e, tries)

  pub tries_missed : (r : ℕ) (R : Rule) (Rs : List Rule) (b : ℕ) (cut : Bool) (c c' : ℕ) → attempt l β g m c R ≡ missed c'
      → tries l rec β g d w st m r (R ∷ Rs) b cut c ≡ tries l rec β g d w st m (suc r) Rs b cut c'
  tries_missed r R Rs b cut c c' e = rw (e, tries)

  pub tries_entered : (r : ℕ) (R : Rule) (Rs : List Rule) (b : ℕ) (cut : Bool) (c : ℕ) (β' : Bindings) (c' m' : ℕ) → attempt l β g m c R ≡ entered β' c' m'
      → tries l rec β g d w st m r (R ∷ Rs) b cut c
      ≡ after (rec b c' m' β' (goals (body c R) d (build r g (count R.premises) ∷ w)) st) (λ b'' cut'' c''. tries l rec β g d w st m (suc r) Rs b'' (cut || cut'') c'')
  tries_entered r R Rs b cut c β' c' m' e = rw (e, tries)

  -- What holds of every way the first attempt goes, holds of the attempts.
  pub tries_cases {ℓ} : (P : Result → Type ℓ) (r : ℕ) (R : Rule) (Rs : List Rule) (b : ℕ) (cut : Bool) (c : ℕ)
      → P refused
      → ((c' : ℕ) → attempt l β g m c R ≡ missed c' → P (tries l rec β g d w st m (suc r) Rs b cut c'))
      → ((β' : Bindings) (c' m' : ℕ) → attempt l β g m c R ≡ entered β' c' m' → (β'' : Bindings) (st' : Tree many) (b'' c'' m'' : ℕ)
      → rec b c' m' β' (goals (body c R) d (build r g (count R.premises) ∷ w)) st ≡ found β'' st' b'' c'' m'' → P (found β'' st' b'' c'' m''))
      → ((β' : Bindings) (c' m' : ℕ) → attempt l β g m c R ≡ entered β' c' m' → (b'' : ℕ) (cut'' : Bool) (c'' : ℕ)
      → rec b c' m' β' (goals (body c R) d (build r g (count R.premises) ∷ w)) st ≡ failed b'' cut'' c'' → P (tries l rec β g d w st m (suc r) Rs b'' (cut || cut'') c''))
      → P (tries l rec β g d w st m r (R ∷ Rs) b cut c)
  tries_cases P r R Rs b cut c out missing finding failing = go (attempt l β g m c R) refl
    where
      deep : (β' : Bindings) (c' m' : ℕ) → attempt l β g m c R ≡ entered β' c' m' → (o : Result) → rec b c' m' β' (goals (body c R) d (build r g (count R.premises) ∷ w)) st ≡ o
          → P (after o (λ b'' cut'' c''. tries l rec β g d w st m (suc r) Rs b'' (cut || cut'') c''))
      deep β' c' m' e refused q = out
      deep β' c' m' e (found β'' st' b'' c'' m'') q = finding β' c' m' e β'' st' b'' c'' m'' q
      deep β' c' m' e (failed b'' cut'' c'') q = failing β' c' m' e b'' cut'' c'' q

      go : (a : Attempt) → attempt l β g m c R ≡ a → P (tries l rec β g d w st m r (R ∷ Rs) b cut c)
      go exceeded e = subst P (sym (tries_exceeded r R Rs b cut c e)) out
      go (missed c') e = subst P (sym (tries_missed r R Rs b cut c c' e)) (missing c' e)
      go (entered β' c' m') e = subst P (sym (tries_entered r R Rs b cut c β' c' m' e)) (deep β' c' m' e (rec b c' m' β' (goals (body c R) d (build r g (count R.premises) ∷ w)) st) refl)

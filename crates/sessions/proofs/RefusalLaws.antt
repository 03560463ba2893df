-- Refusals: the definitions never refuse a goal by 1, so a call that is answered by 1 was not ready.
use Rattle.std.specs.Prelude.{ℕ, zero, suc, ◌+◌, ◌-◌, ◌≡◌, Bool, true, false, ◌⊎◌, List, [], ◌∷◌, length}
use Rattle.std.proofs.Common.{arith, sym, ap, inl, inr}
use Rattle.terms.specs.Numbers.{by_same}
use Rattle.terms.specs.Term.{Term}
use Rattle.terms.specs.Bindings.{Bindings}
use Rattle.resolution.specs.Rules.{Rule}
use Rattle.resolution.specs.Search.{Limits, Result, refused, found, failed, bounded, Verdict, refusal, proved, nothing, undecided, settle}
use Rattle.resolution.specs.Search.{bounds, deepen, words, over}
use Rattle.resolution.specs.Session.{Session, Compiled, refuses, compiles, Query, limits_of, too_much, goal_of, searched, answered, tested}
use Rattle.resolution.specs.Session.{ask}
use Rattle.signature.specs.Storage.{SignatureStore, symbols_in, rules_in}
use Rattle.sessions.specs.Storage.{SessionStore, session_of}
use Rattle.sessions.specs.Goals.{WrittenTerm, goal_compiled}
use Rattle.sessions.specs.Promises.{Asked, query_of, answer_to, answer_of}
use Rattle.sessions.proofs.GoalLaws.{goal_refusals}
use Rattle.sessions.specs.declared.SessionCounts.{SessionCounts}
use Rattle.sessions.specs.Answers.{Answer, Refused, Proved, Nothing, Undecided}

-- An answer is 1, or it is not.
pub one_or_not : (a : Answer) → (a ≡ Refused 1) ⊎ (a ≡ Refused 1 → ⊥)
one_or_not (Refused e) = by_same e 1 (λ p q. inl (ap Refused p)) (λ p q. inr (λ r. p (let d : e ≡ 1 = cc in d)))
one_or_not (Proved u nodes m) = inr (λ r. let z : ◌≡◌ {A = ℕ} 0 1 = cc in omega arith)
one_or_not (Nothing u m) = inr (λ r. let z : ◌≡◌ {A = ℕ} 0 1 = cc in omega arith)
one_or_not (Undecided u m) = inr (λ r. let z : ◌≡◌ {A = ℕ} 0 1 = cc in omega arith)

-- The search refuses by 37 only,
deepen_refusal : (l : Limits) (rules : List Rule) (s m : ℕ) (β : Bindings) (g : Term) (ds : List ℕ) (u c e : ℕ)
    → deepen l rules s m β g ds u c ≡ refusal e → e ≡ 37
deepen_refusal l rules s m β g [] u c e p = absurd (let z : ◌≡◌ {A = ℕ} 0 1 = cc in omega arith)
deepen_refusal l rules s m β g (d ∷ ds) u c e p =
    go (bounded l rules s m β g d c) (λ u' c' q. deepen_refusal l rules s m β g ds u' c' e q) p
  where
    go : (o : Result) → ((u' c' : ℕ) → deepen l rules s m β g ds u' c' ≡ refusal e → e ≡ 37)
        → settle s o (λ u' c'. deepen l rules s m β g ds u' c') ≡ refusal e → e ≡ 37
    go refused n p = let q : 37 ≡ e = cc in sym q
    go (found β' st b c' m') n p = absurd (let z : ◌≡◌ {A = ℕ} 0 1 = cc in omega arith)
    go (failed zero cut c') n p = n s c' p
    go (failed (suc b) true c') n p = n (s - suc b) c' p
    go (failed (suc b) false c') n p = absurd (let z : ◌≡◌ {A = ℕ} 0 1 = cc in omega arith)

-- and the definitions by 37, by 38, and by the goal's own refusals.
pub ask_refusal : (rules : List Rule) (S : Session) (q : Query) (e : ℕ) → (ask rules S q).verdict ≡ refusal e
    → (e ≡ 37) ⊎ ((e ≡ 38) ⊎ (q.compile S.names ≡ refuses e))
ask_refusal rules S q e = go (too_much q.steps q.depth q.limits)
  where
    limited : (n : ℕ) (g : Term) (t : Bool) → searched rules S q.steps q.depth q.limits n g t ≡ refusal e → e ≡ 37
    limited n g true p = let d : 37 ≡ e = cc in sym d
    limited n g false p = deepen_refusal (limits_of q.limits) rules q.steps (S.words + words g) S.bindings g (bounds q.depth) 0
        (S.variables + n) e p

    compiled : (k : Compiled) → (answered rules S q.steps q.depth q.limits k).verdict ≡ refusal e
        → (e ≡ 37) ⊎ ((e ≡ 38) ⊎ (k ≡ refuses e))
    compiled (refuses n) p = let d : n ≡ e = cc in inr (inr (ap refuses d))
    compiled (compiles new t) p =
        inl (limited (length new) (goal_of S t) (over (limits_of q.limits) (S.variables + length new) (S.words + words (goal_of S t))) p)

    go : (t : Bool) → (tested rules S q t).verdict ≡ refusal e → (e ≡ 37) ⊎ ((e ≡ 38) ⊎ (q.compile S.names ≡ refuses e))
    go true p = let d : 38 ≡ e = cc in inr (inl (sym d))
    go false p = compiled (q.compile S.names) p

refusal_of_lem : (n : SessionCounts) (names : ℕ) (v : Verdict) (e : ℕ) → answer_of n names v ≡ Refused e → v ≡ refusal e
refusal_of_lem n names (refusal i) e p = let d : i ≡ e = cc in ap refusal d
refusal_of_lem n names (proved β st u c m) e p = absurd (let z : ◌≡◌ {A = ℕ} 0 1 = cc in omega arith)
refusal_of_lem n names (nothing u c) e p = absurd (let z : ◌≡◌ {A = ℕ} 0 1 = cc in omega arith)
refusal_of_lem n names (undecided u c) e p = absurd (let z : ◌≡◌ {A = ℕ} 0 1 = cc in omega arith)

-- So a ready call is never answered by 1.
pub answer_not_one : (sg : SignatureStore) (k : Asked) (b : SessionStore) (n : SessionCounts) (t : WrittenTerm) (names : ℕ)
    → answer_of n names (answer_to sg k b n t).verdict ≡ Refused 1 → ⊥
answer_not_one sg k b n t names p =
    go (ask_refusal (rules_in k.text sg) (session_of k.text b n) (query_of sg k t) 1
    (refusal_of_lem n names (answer_to sg k b n t).verdict 1 p))
  where
    go : (◌≡◌ {A = ℕ} 1 37) ⊎ ((◌≡◌ {A = ℕ} 1 38) ⊎ (goal_compiled (symbols_in k.text sg) t (session_of k.text b n).names ≡ refuses 1))
        → ⊥
    go (inl e) = omega arith
    go (inr (inl e)) = omega arith
    go (inr (inr e)) = let h = goal_refusals (symbols_in k.text sg) t (session_of k.text b n).names 1 e in omega arith

-- Demand 3 (document 01, "Search"), as one theorem about a whole list of goals, refused ones included, each with steps, depth and limits of its own,
-- from any session in form. The theorem is `demand_3` at the end.
-- The definitions that it speaks of are in specs/Demand3.
use Rattle.std.specs.Prelude.{ℕ, zero, suc, ◌+◌, ◌≤◌, ◌<◌, ◌≡◌, refl, Bool, true, false, List, [], ◌∷◌, ◌++◌, ◌⊎◌, length}
use Rattle.std.proofs.Common.{ap, sym, ◌∙◌, subst, inl, inr, arith, le_refl}
use Rattle.terms.specs.Term.{var, Term, Below}
use Rattle.terms.specs.Bindings.{full, res, BelowB, Extends, unchanged}
use Rattle.terms.specs.TermLaws.{below_sub}
use Rattle.terms.specs.BindingLaws.{below_b_le, full_solves, extends_trans, extends_solves}
use Rattle.resolution.specs.Rules.{Rule}
use Rattle.resolution.specs.Search.{words, over, Verdict, refusal, proved, nothing, undecided, prove, bounds}
use Rattle.resolution.specs.Session.{Name, Named, Session, new_session, Known, InForm, Compiled, refuses, compiles, Scoped, Allowance, Query, limits_of, too_much, variable_at, goal_of, enter, Answer, left, searched, verdict_of, answered, tested, ask}
use Rattle.resolution.proofs.Soundness.{root_put_in}
use Rattle.resolution.specs.Verdicts.{Says}
use Rattle.resolution.proofs.Verdicts.{deepen_says}
use Rattle.resolution.specs.Repeats.{Finding, shown, excluded, barred, finding, Repeats}
use Rattle.resolution.proofs.Repeats.{prove_repeats}
use Rattle.resolution.specs.Demand3.{Again, AllScoped, Claims, Decided, Event, Goal, Holds, Transcript, final, reask, run}

-- Sessions in form
pub new_form : InForm new_session
unfolding new_session
new_form = record { acyclic = tt; below = tt; known = tt }

known_le : {c d : ℕ} → c ≤ d → (ns : List Named) → Known c ns → Known d ns
known_le h [] k = tt
known_le h (n ∷ ns) k = (omega arith, known_le h ns k.1)

known_append : (c : ℕ) (ns ms : List Named) → Known c ns → Known c ms → Known c (ns ++ ms)
known_append c [] ms k h = h
known_append c (n ∷ ns) ms k h = (k.0, known_append c ns ms k.1 h)

known_enter : (c d : ℕ) (ns : List Named) (new : List Name) → Known c ns → c + length new ≤ d → Known d (enter ns c new)
known_enter c d ns [] k h = known_le (omega arith) ns k
known_enter c d ns (n ∷ new) k h =
    known_enter (suc c) d (ns ++ (record { name = n; variable = c } ∷ [])) new (known_append (suc c) ns (record { name = n; variable = c } ∷ []) (known_le (omega arith) ns k) (omega arith, tt)) (omega arith)

variable_below : (c k : ℕ) (ns : List Named) (i : ℕ) → Known c ns → i < length ns + k → variable_at ns c i < c + k
variable_below c k [] i h l = omega arith
variable_below c k (n ∷ ns) zero h l = omega arith
variable_below c k (n ∷ ns) (suc i) h l = variable_below c k ns i h.1 (omega arith)

goal_below : (S : Session) → InForm S → (k : ℕ) (p : Term) → Below (length S.names + k) p → Below (S.variables + k) (goal_of S p)
goal_below S F k p b = below_sub (length S.names + k) (S.variables + k) (λ i. var (variable_at S.names S.variables i)) (λ i l. variable_below S.variables k S.names i F.known l) p b

-- What the verdict on a compiled goal says
module _ (rules : List Rule) (S : Session) (F : InForm S) (new : List Name) (p : Term) (b : Below (length S.names + length new) p) where
  -- The variables made once the goal is instantiated.
  abbrev n₀ : ℕ
  n₀ = S.variables + length new

  below_n₀ : BelowB n₀ S.bindings
  below_n₀ = below_b_le (omega arith) S.bindings F.below

  goal_n₀ : Below n₀ (goal_of S p)
  goal_n₀ = goal_below S F (length new) p b

  verdict_says : (steps depth : ℕ) (a : Allowance) → Says rules n₀ S.bindings (goal_of S p) (verdict_of rules S steps depth a (length new) (goal_of S p))
  verdict_says steps depth a = go (over (limits_of a) n₀ (S.words + words (goal_of S p)))
    where
      go : (t : Bool) → Says rules n₀ S.bindings (goal_of S p) (searched rules S steps depth a (length new) (goal_of S p) t)
      go true = refl
      go false = deepen_says (limits_of a) rules steps (S.words + words (goal_of S p)) n₀ S.bindings (goal_of S p) F.acyclic below_n₀ goal_n₀ (bounds depth) 0 n₀ (le_refl n₀)

  verdict_again : (s d : ℕ) (a : Allowance) (s' d' : ℕ) (a' : Allowance) → s ≤ s' → d ≤ d'
      → Again (verdict_of rules S s d a (length new) (goal_of S p)) (verdict_of rules S s' d' a' (length new) (goal_of S p))
  verdict_again s d a s' d' a' hs hd = go (over (limits_of a) n₀ (S.words + words (goal_of S p))) (over (limits_of a') n₀ (S.words + words (goal_of S p)))
    where
      g : Term
      g = goal_of S p

      m : ℕ
      m = S.words + words g

      barred_37 : (v : Verdict) → Says rules n₀ S.bindings g v → finding v ≡ barred → v ≡ refusal 37
      barred_37 (refusal n) h e = ap refusal h
      barred_37 (proved β st u c w) h e = absurd (let z : ◌≡◌ {A = ℕ} 0 1 = cc in omega arith)
      barred_37 (nothing u c) h e = absurd (let z : ◌≡◌ {A = ℕ} 0 1 = cc in omega arith)
      barred_37 (undecided u c) h e = absurd (let z : ◌≡◌ {A = ℕ} 0 1 = cc in omega arith)

      or_37 : (k : Finding) (v : Verdict) → Says rules n₀ S.bindings g v → (finding v ≡ k) ⊎ (finding v ≡ barred) → (finding v ≡ k) ⊎ (v ≡ refusal 37)
      or_37 k v h (inl e) = inl e
      or_37 k v h (inr e) = inr (barred_37 v h e)

      says : (s d : ℕ) (a : Allowance) → Says rules n₀ S.bindings g (prove (limits_of a) rules s d m S.bindings g n₀)
      says s d a = deepen_says (limits_of a) rules s m n₀ S.bindings g F.acyclic below_n₀ goal_n₀ (bounds d) 0 n₀ (le_refl n₀)

      r : Repeats (finding (prove (limits_of a) rules s d m S.bindings g n₀)) (finding (prove (limits_of a') rules s' d' m S.bindings g n₀))
      r = prove_repeats rules S.bindings g n₀ F.acyclic below_n₀ goal_n₀ (limits_of a) (limits_of a') s s' d d' m hs hd

      go : (t t' : Bool) → Again (searched rules S s d a (length new) g t) (searched rules S s' d' a' (length new) g t')
      go true t' = record { shows = λ e. absurd (let z : ◌≡◌ {A = ℕ} 0 1 = cc in omega arith); excludes = λ e. absurd (let z : ◌≡◌ {A = ℕ} 0 1 = cc in omega arith) }
      go false true = record { shows = λ e. inr refl; excludes = λ e. inr refl }
      go false false = record {
        shows = λ e. or_37 shown (prove (limits_of a') rules s' d' m S.bindings g n₀) (says s' d' a') (r.0 e);
        excludes = λ e. or_37 excluded (prove (limits_of a') rules s' d' m S.bindings g n₀) (says s' d' a') (r.1 e);
      }

  -- The session left is in form, and its bindings only add.
  left_form : (v : Verdict) → Says rules n₀ S.bindings (goal_of S p) v → InForm (left S new v) × Extends S.bindings (left S new v).bindings
  left_form (refusal n) h = (F, unchanged)
  left_form (proved β st u c m) h = (record { acyclic = h.acyclic; below = h.below; known = known_enter S.variables c S.names new F.known h.later }, h.extends)
  left_form (nothing u c) h = (record { acyclic = F.acyclic; below = below_b_le (omega (arith, h.0)) S.bindings F.below; known = known_enter S.variables c S.names new F.known h.0 }, unchanged)
  left_form (undecided u c) h = (record { acyclic = F.acyclic; below = below_b_le (omega arith) S.bindings F.below; known = known_enter S.variables c S.names new F.known h }, unchanged)

  verdict_holds : (E : Session) → InForm E → (v : Verdict) → Says rules n₀ S.bindings (goal_of S p) v → Extends (left S new v).bindings E.bindings → Holds rules S (left S new v) E (goal_of S p) v
  verdict_holds E FE (refusal n) h x = refl
  verdict_holds E FE (proved β st u c m) h x = record {
    tree = h.tree;
    only = h.only;
    goal = h.goal;
    rooted = root_put_in (full β) h.tree ∙ ap (res β) h.goal;
    derivation = h.derives (full β) (full_solves β h.acyclic);
    adds = h.extends;
    stays = h.derives (full E.bindings) (extends_solves x (full E.bindings) (full_solves E.bindings FE.acyclic));
    stays_rooted = root_put_in (full E.bindings) h.tree ∙ ap (res E.bindings) h.goal;
  }
  verdict_holds E FE (nothing u c) h x = (h.1, refl)
  verdict_holds E FE (undecided u c) h x = refl

  left_refused : (v : Verdict) (n : ℕ) → v ≡ refusal n → left S new v ≡ S
  left_refused v n e = ap (left S new) e

-- One goal
module _ (rules : List Rule) (S : Session) (F : InForm S) (q : Query) (scoped : Scoped S.names (q.compile S.names)) where
  answer_form : InForm (ask rules S q).session × Extends S.bindings (ask rules S q).session.bindings
  answer_form = go (too_much q.steps q.depth q.limits)
    where
      compiled : (k : Compiled) → Scoped S.names k → InForm (answered rules S q.steps q.depth q.limits k).session × Extends S.bindings (answered rules S q.steps q.depth q.limits k).session.bindings
      compiled (refuses n) b = (F, unchanged)
      compiled (compiles new p) b = left_form rules S F new p b (verdict_of rules S q.steps q.depth q.limits (length new) (goal_of S p)) (verdict_says rules S F new p b q.steps q.depth q.limits)

      go : (t : Bool) → InForm (tested rules S q t).session × Extends S.bindings (tested rules S q t).session.bindings
      go true = (F, unchanged)
      go false = compiled (q.compile S.names) scoped

  answer_refused : (n : ℕ) → (ask rules S q).verdict ≡ refusal n → (ask rules S q).session ≡ S
  answer_refused n = go (too_much q.steps q.depth q.limits)
    where
      compiled : (k : Compiled) → Scoped S.names k → (answered rules S q.steps q.depth q.limits k).verdict ≡ refusal n → (answered rules S q.steps q.depth q.limits k).session ≡ S
      compiled (refuses i) b e = refl
      compiled (compiles new p) b e = left_refused rules S F new p b (verdict_of rules S q.steps q.depth q.limits (length new) (goal_of S p)) n e

      go : (t : Bool) → (tested rules S q t).verdict ≡ refusal n → (tested rules S q t).session ≡ S
      go true e = refl
      go false e = compiled (q.compile S.names) scoped e

  answer_compiled : Decided (ask rules S q).verdict → Goal (q.compile S.names)
  answer_compiled = go (too_much q.steps q.depth q.limits)
    where
      compiled : (k : Compiled) → Decided (answered rules S q.steps q.depth q.limits k).verdict → Goal k
      compiled (refuses n) d = absurd d
      compiled (compiles new p) d = record { new = new; term = p; is = refl }

      go : (t : Bool) → Decided (tested rules S q t).verdict → Goal (q.compile S.names)
      go true d = absurd d
      go false d = compiled (q.compile S.names) d

  answer_holds : (E : Session) → InForm E → Extends (ask rules S q).session.bindings E.bindings → (new : List Name) (p : Term) → q.compile S.names ≡ compiles new p
      → Holds rules S (ask rules S q).session E (goal_of S p) (ask rules S q).verdict
  answer_holds E FE x new p ck = go (too_much q.steps q.depth q.limits) x
    where
      b : Below (length S.names + length new) p
      b = subst (Scoped S.names) ck scoped

      A : Compiled → Answer
      A k = answered rules S q.steps q.depth q.limits k

      go : (t : Bool) → Extends (tested rules S q t).session.bindings E.bindings → Holds rules S (tested rules S q t).session E (goal_of S p) (tested rules S q t).verdict
      go true x = refl
      go false x = subst (λ k. Holds rules S (A k).session E (goal_of S p) (A k).verdict) (sym ck)
          (verdict_holds rules S F new p b E FE (verdict_of rules S q.steps q.depth q.limits (length new) (goal_of S p)) (verdict_says rules S F new p b q.steps q.depth q.limits)
          (subst (λ k. Extends (A k).session.bindings E.bindings) ck x))

  answer_again : (s d : ℕ) (a : Allowance) → q.steps ≤ s → q.depth ≤ d → too_much s d a ≡ false → Again (ask rules S q).verdict (ask rules S (reask q s d a)).verdict
  answer_again s d a hs hd ok = subst (λ t. Again (ask rules S q).verdict (tested rules S (reask q s d a) t).verdict) (sym ok) (go (too_much q.steps q.depth q.limits))
    where
      nothing_more : (n : ℕ) (v : Verdict) → Again (refusal n) v
      nothing_more n v = record { shows = λ e. absurd (let z : ◌≡◌ {A = ℕ} 0 1 = cc in omega arith); excludes = λ e. absurd (let z : ◌≡◌ {A = ℕ} 0 1 = cc in omega arith) }

      compiled : (k : Compiled) → Scoped S.names k → Again (answered rules S q.steps q.depth q.limits k).verdict (answered rules S s d a k).verdict
      compiled (refuses n) b = nothing_more n (refusal n)
      compiled (compiles new p) b = verdict_again rules S F new p b q.steps q.depth q.limits s d a hs hd

      go : (t : Bool) → Again (tested rules S q t).verdict (answered rules S s d a (q.compile S.names)).verdict
      go true = nothing_more 38 (answered rules S s d a (q.compile S.names)).verdict
      go false = compiled (q.compile S.names) scoped

-- The list
final_form : (rules : List Rule) (S : Session) (es : List Event) → InForm S → Transcript rules S es → InForm (final S es) × Extends S.bindings (final S es).bindings
final_form rules S [] F t = (F, unchanged)
final_form rules S (e ∷ es) F t =
    let h : InForm e.session × Extends S.bindings e.session.bindings = subst (λ S'. InForm S' × Extends S.bindings S'.bindings) (sym t.2) (answer_form rules S F e.query t.0) in
    let k = final_form rules e.session es h.0 t.3 in
    (k.0, extends_trans h.1 k.1)

claims : (rules : List Rule) (S E : Session) (es : List Event) → InForm S → Transcript rules S es → InForm E → Extends (final S es).bindings E.bindings → Claims rules S E es
claims rules S E [] F t FE x = tt
claims rules S E (e ∷ es) F t FE x =
    let A : Answer = ask rules S e.query in
    let h : InForm e.session = subst InForm (sym t.2) (answer_form rules S F e.query t.0).0 in
    let y : Extends e.session.bindings E.bindings = extends_trans (final_form rules e.session es h t.3).1 x in (
      record {
        verdict = t.1;
        session = t.2;
        refused = λ n q. t.2 ∙ answer_refused rules S F e.query t.0 n (sym t.1 ∙ q);
        compiled = λ d. answer_compiled rules S F e.query t.0 (subst Decided t.1 d);
        holds = λ new p ck. subst (λ v. Holds rules S e.session E (goal_of S p) v) (sym t.1) (subst (λ S'. Holds rules S S' E (goal_of S p) A.verdict) (sym t.2)
            (answer_holds rules S F e.query t.0 E FE (subst (λ S'. Extends S'.bindings E.bindings) t.2 y) new p ck));
        repeats = λ s d a hs hd ok. subst (λ v. Again v (ask rules S (reask e.query s d a)).verdict) (sym t.1) (answer_again rules S F e.query t.0 s d a hs hd ok);
      },
      claims rules e.session E es h t.3 FE x,
    )

-- Demand 3.
pub demand_3 : (rules : List Rule) (S : Session) (es : List Event) → InForm S → Transcript rules S es → Claims rules S (final S es) es × InForm (final S es)
demand_3 rules S es F t = let f = final_form rules S es F t in (claims rules S (final S es) es F t f.0 unchanged, f.0)

pub run_transcript : (rules : List Rule) (S : Session) (qs : List Query) → AllScoped rules S qs → Transcript rules S (run rules S qs)
run_transcript rules S [] h = tt
run_transcript rules S (q ∷ qs) h = (h.0, refl, refl, run_transcript rules (ask rules S q).session qs h.1)

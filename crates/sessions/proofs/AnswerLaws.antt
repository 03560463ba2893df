-- What an answer of the code says of the definitions' verdict, and what is left of a call for the later ones: the rows of a proof, read
-- over words to which others were added, and the names that were entered.
use Rattle.std.specs.Prelude.{ℕ, ◌-◌, ◌<◌, ◌≡◌, refl, Bool, true, false, List, length}
use Rattle.std.proofs.Common.{arith, sym, ap, ◌∙◌, subst}
use Rattle.terms.specs.Term.{one, Term}
use Rattle.arena.specs.Cells.{cells}
use Rattle.arena.specs.Copies.{term_room}
use Rattle.bindings.specs.Stored.{Form}
use Rattle.resolution.specs.Rules.{Rule, Tree}
use Rattle.resolution.specs.Search.{Verdict, refusal, proved, nothing, undecided}
use Rattle.resolution.specs.Session.{Session, Compiled, Query, too_much, goal_of, enter, left, verdict_of, answered, tested, ask}
use Rattle.resolution.specs.Session as theory
use Rattle.resolution.specs.Verdicts.{Excluded}
use Rattle.resolution.specs.Repeats.{shown, excluded, finding}
use Rattle.resolution.specs.Preorder.{preorder}
use Rattle.resolution.specs.Demand3.{Holds, Decided, Goal}
use Rattle.names.specs.Symbols.{Rows}
use Rattle.tree_rows.specs.Trees.{Lists, entries_from}
use Rattle.tree_rows.proofs.TreeLaws.{lists_grown, lists_preorder}
use Rattle.sessions.specs.Promises.{answer_of, answer_told, verdict_told, IsRefused, IsProved, IsNothing, BindingsLeft}
use Rattle.sessions.specs.declared.SessionCounts.{SessionCounts}
use Rattle.sessions.specs.Answers.{Answer, Refused, Nothing}

-- What each verdict's answer says
module _ (n : SessionCounts) (names : ℕ) where
  -- The answer of the code by the paper's numbers is that of the verdict.
  pub answer_told_lem : (v : Verdict) → answer_told (answer_of n names v) ≡ verdict_told n names v
  answer_told_lem (refusal e) = refl
  answer_told_lem (proved β st u c m) = refl
  answer_told_lem (nothing u c) = refl
  answer_told_lem (undecided u c) = refl

  pub decided_of : (v : Verdict) (a : Answer) → a ≡ answer_of n names v → (IsRefused a → ⊥) → Decided v
  decided_of (refusal e) a p h = h (subst IsRefused (sym p) tt)
  decided_of (proved β st u c m) a p h = tt
  decided_of (nothing u c) a p h = tt
  decided_of (undecided u c) a p h = tt

  pub shown_of : (v : Verdict) → IsProved (answer_of n names v) → finding v ≡ shown
  shown_of (refusal e) h = absurd h
  shown_of (proved β st u c m) h = refl
  shown_of (nothing u c) h = absurd h
  shown_of (undecided u c) h = absurd h

  pub proved_of : (v : Verdict) → finding v ≡ shown → IsProved (answer_of n names v)
  proved_of (refusal e) h = let z : ◌≡◌ {A = ℕ} 0 1 = cc in omega arith
  proved_of (proved β st u c m) h = tt
  proved_of (nothing u c) h = let z : ◌≡◌ {A = ℕ} 0 1 = cc in omega arith
  proved_of (undecided u c) h = let z : ◌≡◌ {A = ℕ} 0 1 = cc in omega arith

  pub excluded_of : (v : Verdict) → IsNothing (answer_of n names v) → finding v ≡ excluded
  excluded_of (refusal e) h = absurd h
  excluded_of (proved β st u c m) h = absurd h
  excluded_of (nothing u c) h = refl
  excluded_of (undecided u c) h = absurd h

  pub nothing_of : (v : Verdict) → finding v ≡ excluded → IsNothing (answer_of n names v)
  nothing_of (refusal e) h = let z : ◌≡◌ {A = ℕ} 0 1 = cc in omega arith
  nothing_of (proved β st u c m) h = let z : ◌≡◌ {A = ℕ} 0 1 = cc in omega arith
  nothing_of (nothing u c) h = tt
  nothing_of (undecided u c) h = let z : ◌≡◌ {A = ℕ} 0 1 = cc in omega arith

  -- None.
  pub none_of : (rules : List Rule) (S S' E : Session) (g : Term) (v : Verdict) (u : ℕ) (m : SessionCounts)
      → answer_of n names v ≡ Nothing u m → Holds rules S S' E g v → Excluded rules S.bindings g
  none_of rules S S' E g (refusal e) u m p h = absurd (let z : ◌≡◌ {A = ℕ} 0 1 = cc in omega arith)
  none_of rules S S' E g (proved β st u' c m') u m p h = absurd (let z : ◌≡◌ {A = ℕ} 0 1 = cc in omega arith)
  none_of rules S S' E g (nothing u' c) u m p h = h.0
  none_of rules S S' E g (undecided u' c) u m p h = absurd (let z : ◌≡◌ {A = ℕ} 0 1 = cc in omega arith)

  -- Without a proof.
  pub unproved_of : (v : Verdict) (rows rows' : Rows) (bound bound' : ℕ) → (IsProved (answer_of n names v) → ⊥)
      → BindingsLeft v rows rows' bound bound' → rows' ≡ rows
  unproved_of (refusal e) rows rows' bound bound' h l = l
  unproved_of (proved β st u c m) rows rows' bound bound' h l = absurd (h tt)
  unproved_of (nothing u c) rows rows' bound bound' h l = l
  unproved_of (undecided u c) rows rows' bound bound' h l = l

pub refused_unproved : (a : Answer) (e : ℕ) → a ≡ Refused e → IsProved a → ⊥
refused_unproved a e p h = subst IsProved p h

-- The names after a verdict
pub entered_names : (rules : List Rule) (S : Session) (q : Query) (G : Goal (q.compile S.names)) → Decided (ask rules S q).verdict
    → (ask rules S q).session.names ≡ enter S.names S.variables G.new
entered_names rules S q G d = go (too_much q.steps q.depth q.limits) d
  where
    leaving : (v : Verdict) → Decided v → (left S G.new v).names ≡ enter S.names S.variables G.new
    leaving (refusal e) d = absurd d
    leaving (proved β st u c m) d = refl
    leaving (nothing u c) d = refl
    leaving (undecided u c) d = refl

    A : Compiled → theory.Answer
    A k = answered rules S q.steps q.depth q.limits k

    go : (t : Bool) → Decided (tested rules S q t).verdict → (tested rules S q t).session.names ≡ enter S.names S.variables G.new
    go true d = absurd d
    go false d = ap (λ (k : Compiled). (A k).session.names) G.is
        ∙ leaving (verdict_of rules S q.steps q.depth q.limits (length G.new) (goal_of S G.term))
        (subst (λ (k : Compiled). Decided (A k).verdict) G.is d)

-- Proofs in storage
-- The rows of a tree are its preorder,
pub listing_is : (rows : Rows) (w : List ℕ) (variables used : ℕ) (tree : Tree one) (q : ℕ) → Lists term_room variables w used rows 0 1 tree q
    → entries_from term_room w rows 0 q ≡ preorder 1 tree
listing_is rows w variables used tree q h =
    let e : q - 0 ≡ q = omega arith in
    ap (λ (i : ℕ). entries_from term_room w rows 0 i) (sym e) ∙ lists_preorder term_room variables w used rows 0 1 tree q h

-- also read over words of which those in use are the same.
pub listing_stays : (rows : Rows) (w w' : List ℕ) (tree : Tree one) (q : ℕ) {bindings : Rows} {variables used k : ℕ}
    → Form term_room w bindings variables used k → ((i : ℕ) → i < used → cells w i ≡ cells w' i)
    → Lists term_room variables w used rows 0 1 tree q → entries_from term_room w' rows 0 q ≡ preorder 1 tree
listing_stays rows w w' tree q {variables = variables} {used = used} f s h =
    listing_is rows w' variables used tree q (lists_grown term_room variables w w' used used f.words s (omega arith) rows 0 1 tree q h)

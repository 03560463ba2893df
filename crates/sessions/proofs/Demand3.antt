-- Demand 3 at the entry points (document 01, "Search"): one theorem about a whole list of calls of `prove` over one stored signature, from
-- any stored session in form. Each call meets its contract and starts from the session part that the last one left; goal, steps, depth,
-- limits, proof buffer and scratch are its own; and the text may grow behind its end. What a list of calls is and what is claimed
-- of it is defined; `demand_3_stored` proves it. Calls that are answered by 1 wrote nothing and are left out; the others become goals of
-- resolution, whose theorem is cited; and a proof's rows are carried to the end of the list, since words in use are never rewritten.
-- The definitions that it speaks of are in specs/Demand3.
use Rattle.std.specs.Prelude.{ℕ, ◌≤◌, ◌<◌, ◌≡◌, refl, ◌⊎◌, List, [], ◌∷◌, length, get_or}
use Rattle.std.proofs.Common.{arith, sym, ap, ap₂, ◌∙◌, subst, inl, inr, get_or-take}
use Rattle.words.specs.declared.Limits.{Limits}
use Rattle.terms.specs.Term.{one, many, var, Term, sub}
use Rattle.arena.specs.Cells.{cells}
use Rattle.arena.specs.Copies.{term_room}
use Rattle.bindings.specs.Stored.{Form}
use Rattle.resolution.specs.Rules.{Rule, Tree, leaf, ◌◂◌}
use Rattle.resolution.specs.Search.{Verdict, refusal, proved, nothing, undecided}
use Rattle.resolution.specs.Session.{Named, Session, Scoped, Query, goal_of, ask}
use Rattle.resolution.specs.Session as theory
use Rattle.resolution.specs.Repeats.{shown, excluded, finding}
use Rattle.resolution.specs.Preorder.{preorder, flat, preorder_one}
use Rattle.resolution.specs.Naming.{Grown, name_at, OneVariable}
use Rattle.resolution.specs.NamingLaws.{grown_refl, grown_trans, answer_grown, goal_named, one_variable}
use Rattle.resolution.specs.Demand3.{Event, Transcript, final, Holds, Again, reask, Decided, Claim, Claims}
use Rattle.resolution.proofs.Demand3.{demand_3}
use Rattle.names.specs.Symbols.{Rows, Symbol}
use Rattle.rules.specs.PatternLaws.{arities_of}
use Rattle.tree_rows.specs.Trees.{entries_from}
use Rattle.term_check.specs.TermLaws.{term_one}
use Rattle.term_parser.specs.Standing.{spelled}
use Rattle.signature.specs.Storage.{SignatureStore, symbols_in, rules_in, SignatureListed}
use Rattle.sessions.specs.Storage.{SessionStore, Workspace, session_of, SessionListed, Extended, no_counts}
use Rattle.sessions.specs.Goals.{WrittenTerm, goal_in, goal_compiled}
use Rattle.sessions.specs.Promises.{Opening, Asked, Given, ProveReady, allowance_of, query_of, answer_to, answer_of, counts_after}
use Rattle.sessions.specs.Promises.{IsRefused, IsProved, IsNothing, ProofLeft, ProveLeaves, Proving}
use Rattle.sessions.proofs.GoalLaws.{goal_scoped}
use Rattle.sessions.specs.StoreLaws.{extended_refl, extended_trans, symbols_extended, rules_extended, session_extended}
use Rattle.sessions.specs.StoreLaws.{listed_extended, listed_form, listed_one}
use Rattle.sessions.specs.OpeningLaws.{opened_in}
use Rattle.sessions.proofs.RefusalLaws.{answer_not_one, one_or_not}
use Rattle.sessions.proofs.AnswerLaws.{decided_of, shown_of, proved_of, excluded_of, nothing_of, none_of, unproved_of}
use Rattle.sessions.proofs.AnswerLaws.{refused_unproved, entered_names, listing_stays}
use Rattle.sessions.specs.declared.SessionCounts.{SessionCounts}
use Rattle.std.specs.Prelude.{Ok}
use Rattle.sessions.specs.Answers.{Answer, Refused, Proved}
use Rattle.sessions.specs.Demand3.{Call, CallClaim, CallClaims, Calls, GoalClaim, ProofStands, Repeated, SameGoal, Shared, SharedWith, StoredClaims, StoredDemand3, end_counts, end_session, end_store, end_text, left_by, names_left}

-- The proof
-- Proved, and the tree that stands in the rows.
stands_of : (n : SessionCounts) (names : ℕ) (rules : List Rule) (S S' E : Session) (g : Term) (v : Verdict) (u nodes : ℕ)
    (m : SessionCounts) → answer_of n names v ≡ Proved u nodes m → Holds rules S S' E g v
    → (proof proof' : Rows) (w w' : List ℕ) {bindings : Rows} {variables used k : ℕ} → ProofLeft v proof proof' w variables used
    → Form term_room w bindings variables used k → ((i : ℕ) → i < used → cells w i ≡ cells w' i) → ProofStands rules S S' E g nodes proof' w'
stands_of n names rules S S' E g (refusal e) u nodes m p h proof proof' w w' l f s = absurd (let z : ◌≡◌ {A = ℕ} 0 1 = cc in omega arith)
stands_of n names rules S S' E g (proved β st u' c m') u nodes m p h proof proof' w w' l f s =
    let same : l.tree ◂ leaf ≡ h.tree ◂ leaf = sym l.only ∙ h.only in
    let tree : l.tree ≡ h.tree = cc in
    let counted : length (flat st) ≡ nodes = cc in
    let number : length (preorder 1 l.tree) ≡ nodes = sym (ap (λ (t : Tree many). length (flat t)) l.only) ∙ counted in
    let kept : entries_from term_room w' proof' 0 (length (preorder 1 l.tree)) ≡ preorder 1 l.tree =
    listing_stays proof' w w' l.tree (length (preorder 1 l.tree)) f s l.listed in
    let read : entries_from term_room w' proof' 0 nodes ≡ preorder 1 h.tree =
    ap (λ (i : ℕ). entries_from term_room w' proof' 0 i) (sym number) ∙ kept ∙ ap (λ (t : Tree one). preorder 1 t) tree in
    record {
      tree = h.tree;
      read = read;
      only = λ t e. preorder_one 1 t h.tree (sym e ∙ read);
      goal = h.goal;
      rooted = h.rooted;
      derivation = h.derivation;
      stays_rooted = h.stays_rooted;
      stays = h.stays;
      adds = h.adds;
    }
stands_of n names rules S S' E g (nothing u' c) u nodes m p h proof proof' w w' l f s = absurd (let z : ◌≡◌ {A = ℕ} 0 1 = cc in omega arith)
stands_of n names rules S S' E g (undecided u' c) u nodes m p h proof proof' w w' l f s = absurd (let z : ◌≡◌ {A = ℕ} 0 1 = cc in
    omega arith)

-- One ready call
module _ (sg : SignatureStore) (k : Asked) (b : SessionStore) (n : SessionCounts) (t : WrittenTerm) (g : Given) where
  -- The session that it gets, the definitions' answer, the counts and the session that it leaves, and the call as resolution's event.
  abbrev S : Session
  S = session_of k.text b n

  abbrev A : theory.Answer
  A = answer_to sg k b n t

  abbrev after : SessionCounts
  after = counts_after n g.answer

  abbrev S' : Session
  S' = session_of k.text g.store after

  abbrev event : Event
  event = record { query = query_of sg k t; verdict = A.verdict; session = S' }

  -- The same goal asked by another call that is ready has the definitions' verdict on it.
  asked_again : (sg' : SignatureStore) (k' : Asked) (b' : SessionStore) (n' : SessionCounts) (t' : WrittenTerm)
      → symbols_in k'.text sg' ≡ symbols_in k.text sg
      → rules_in k'.text sg' ≡ rules_in k.text sg → session_of k'.text b' n' ≡ S → t' ≡ t
      → answer_to sg' k' b' n' t' ≡ ask (rules_in k.text sg) S (reask (query_of sg k t) k'.steps k'.depth (allowance_of k'.limits))
  asked_again sg' k' b' n' t' p q r e =
      let Q : List Symbol → WrittenTerm → Query =
      λ symbols t. record { compile = goal_compiled symbols t; steps = k'.steps; depth = k'.depth; limits = allowance_of k'.limits } in
      ap₂ (λ (Rs : List Rule) (X : Session). ask Rs X (Q (symbols_in k'.text sg') t')) q r
      ∙ ap₂ (λ (symbols : List Symbol) (t : WrittenTerm). ask (rules_in k.text sg) S (Q symbols t)) p e

  module _ (l : ProveLeaves sg k b n A g) (E : Session) (words : List ℕ)
      (same : (i : ℕ) → i < after.words → cells g.store.words i ≡ cells words i) (claim : Claim (rules_in k.text sg) S E event) where
    repeated : (sg' : SignatureStore) (k' : Asked) (b' : SessionStore) (n' : SessionCounts) (g' : Given) → Proving sg' k' b' n' g'
        → SameGoal sg k b n t sg' k' b' n' → Repeated g.answer g'.answer
    repeated sg' k' b' n' g' p s = go (one_or_not g'.answer)
      where
        v : Verdict
        v = A.verdict

        again : Again v (ask (rules_in k.text sg) S (reask (query_of sg k t) k'.steps k'.depth (allowance_of k'.limits))).verdict
        again = claim.repeats k'.steps k'.depth (allowance_of k'.limits) s.steps s.depth s.within

        names : ℕ
        names = length A.session.names

        ready : (r : ProveReady sg' k' b' n') → Repeated g.answer g'.answer
        ready r =
            let l' = p.ready r in
            let A' : theory.Answer = answer_to sg' k' b' n' (goal_in r.goal) in
            let names' : ℕ = length A'.session.names in
            let is : A'.verdict ≡ (ask (rules_in k.text sg) S
            (reask (query_of sg k t) k'.steps k'.depth (allowance_of k'.limits))).verdict =
            ap (λ (a : theory.Answer). a.verdict)
            (asked_again sg' k' b' n' (goal_in r.goal) s.symbols s.rules s.session (s.goal r)) in
            let again' : Again v A'.verdict = subst (Again v) (sym is) again in
            let barred : A'.verdict ≡ refusal 37 → g'.answer ≡ Refused 37 = λ e. l'.answer ∙ ap (answer_of n' names') e in
            record {
              shows = λ h. shows names' A'.verdict l'.answer barred
                  (again'.shows (shown_of n names v (subst IsProved l.answer h)));
              excludes = λ h. excludes names' A'.verdict l'.answer barred
                  (again'.excludes (excluded_of n names v (subst IsNothing l.answer h)));
            }
          where
            shows : (m : ℕ) (w : Verdict) → g'.answer ≡ answer_of n' m w → (w ≡ refusal 37 → g'.answer ≡ Refused 37)
                → (finding w ≡ shown) ⊎ (w ≡ refusal 37)
                → IsProved g'.answer ⊎ ((g'.answer ≡ Refused 37) ⊎ (g'.answer ≡ Refused 1))
            shows m w e f (inl h) = inl (subst IsProved (sym e) (proved_of n' m w h))
            shows m w e f (inr h) = inr (inl (f h))

            excludes : (m : ℕ) (w : Verdict) → g'.answer ≡ answer_of n' m w → (w ≡ refusal 37 → g'.answer ≡ Refused 37)
                → (finding w ≡ excluded) ⊎ (w ≡ refusal 37)
                → IsNothing g'.answer ⊎ ((g'.answer ≡ Refused 37) ⊎ (g'.answer ≡ Refused 1))
            excludes m w e f (inl h) = inl (subst IsNothing (sym e) (nothing_of n' m w h))
            excludes m w e f (inr h) = inr (inl (f h))

        go : (g'.answer ≡ Refused 1) ⊎ (g'.answer ≡ Refused 1 → ⊥) → Repeated g.answer g'.answer
        go (inl e) = record { shows = λ h. inr (inr e); excludes = λ h. inr (inr e) }
        go (inr x) = ready (p.tells x)

    -- All that is claimed of it.
    call_answers : GoalClaim sg k b n t g S' E words
    call_answers =
        let names : ℕ = length A.session.names in
        let decided : (IsRefused g.answer → ⊥) → Decided A.verdict = decided_of n names A.verdict g.answer l.answer in
        let unproved : (IsProved g.answer → ⊥) → g.store.bindings ≡ b.bindings =
        λ h. unproved_of n names A.verdict b.bindings g.store.bindings n.bound after.bound
        (λ z. h (subst IsProved (sym l.answer) z)) l.bindings in
        record {
          answer = l.answer;
          session = l.session;
          compiled = λ h. claim.compiled (decided h);
          variables = λ h G. goal_named S G.new G.term
              (subst (Scoped S.names) G.is (goal_scoped (symbols_in k.text sg) t S.names))
              ∙ ap (λ (ns : List Named). sub (λ i. var (name_at ns i).variable) G.term)
              (sym (entered_names (rules_in k.text sg) S (query_of sg k t) G (decided h))
              ∙ sym (ap (λ (X : Session). X.names) l.session));
          proved = λ u nodes m e.
              let G = claim.compiled (decided (λ z. subst IsRefused e z)) in (
                G,
                stands_of n names (rules_in k.text sg) S S' E (goal_of S G.term) A.verdict u nodes m (sym l.answer
                    ∙ e) (claim.holds G.new G.term G.is)
                    k.proof g.proof g.store.words words l.proof l.listed.form same,
              );
          none = λ u m e.
              let G = claim.compiled (decided (λ z. subst IsRefused e z)) in (
                G,
                none_of n names (rules_in k.text sg) S S' E (goal_of S G.term) A.verdict u m (sym l.answer
                    ∙ e) (claim.holds G.new G.term G.is),
              );
          unproved = unproved;
          refused = λ e p. record {
            names = l.names.same;
            words = l.words.same;
            bindings = unproved (refused_unproved g.answer e p);
          };
          again = repeated;
        }

-- The chain of calls
-- What one call leaves to the next, and what the list leaves at its end, from a session part b with counts n, which denotes S.
record Carried (arities : List ℕ) (sorts : ℕ) (b : SessionStore) (n : SessionCounts) (S : Session) (text' : List ℕ) (b' : SessionStore)
    (n' : SessionCounts) : Type 0 where
  words : (i : ℕ) → i < n.words → cells b.words i ≡ cells b'.words i
  longer : n.words ≤ n'.words
  names : Grown S.names (session_of text' b' n').names
  listed : SessionListed text' arities sorts b' n'

-- Resolution's events for some calls from the session S to the session E; what demand 3 claims of them gives the claim C.
record Mapped (rules : List Rule) (S E : Session) (C : Type 0) : Type 0 where
  events : List Event
  transcript : Transcript rules S events
  ends : final S events ≡ E
  back : Claims rules S E events → C

module _ (sg : SignatureStore) (start : List ℕ) (signature : SignatureListed start sg) where
  abbrev arities : List ℕ
  arities = arities_of (symbols_in start sg)

  abbrev rules : List Rule
  rules = rules_in start sg

  -- A call that is answered by 1 was not ready.
  not_ready : (k : Asked) (b : SessionStore) (n : SessionCounts) (g : Given) → Proving sg k b n g → g.answer ≡ Refused 1
      → ProveReady sg k b n → ⊥
  not_ready k b n g p e r = answer_not_one sg k b n (goal_in r.goal) (length (answer_to sg k b n (goal_in r.goal)).session.names)
      (sym (p.ready r).answer ∙ e)

  -- It leaves the session as it was.
  idle : (k : Asked) (b : SessionStore) (n : SessionCounts) (g : Given) → Proving sg k b n g → g.answer ≡ Refused 1
      → (P : SessionStore → SessionCounts → Type 0) → P b n → P g.store (counts_after n g.answer)
  idle k b n g p e P h =
      subst (λ (a : Answer). P g.store (counts_after n a)) (sym e)
      (subst (λ (x : SessionStore). P x n) (sym (p.unready (not_ready k b n g p e)).store) h)

  -- One call.
  carried : (text : List ℕ) (k : Asked) (b : SessionStore) (n : SessionCounts) (g : Given) → Extended start text → Extended text k.text
      → SessionListed text arities sg.counts.sorts b n → Proving sg k b n g
      → Carried arities sg.counts.sorts b n (session_of text b n) k.text g.store (counts_after n g.answer)
  carried text k b n g x y h p = go (one_or_not g.answer)
    where
      same_session : session_of k.text b n ≡ session_of text b n
      same_session = session_extended text k.text y arities sg.counts.sorts b n h

      same_symbols : symbols_in k.text sg ≡ symbols_in start sg
      same_symbols = symbols_extended start k.text (extended_trans start text k.text x y) sg signature

      go : (g.answer ≡ Refused 1) ⊎ (g.answer ≡ Refused 1 → ⊥)
          → Carried arities sg.counts.sorts b n (session_of text b n) k.text g.store (counts_after n g.answer)
      go (inl e) = idle k b n g p e (λ b' n'. Carried arities sg.counts.sorts b n (session_of text b n) k.text b' n') (record {
        words = λ i l. refl;
        longer = omega arith;
        names = subst (λ (X : Session). Grown (session_of text b n).names X.names) (sym same_session)
            (grown_refl (session_of text b n).names);
        listed = listed_extended text k.text y arities sg.counts.sorts b n h;
      })
      go (inr z) =
          let r = p.tells z in
          let l = p.ready r in
          record {
            words = λ i m. sym (get_or-take n.words b.words i 0 m) ∙ ap (λ (w : List ℕ). get_or w i 0) (sym l.words.same)
                ∙ get_or-take n.words g.store.words i 0 m;
            longer = l.longer;
            names = subst (λ (X : Session). Grown X.names
                (session_of k.text g.store (counts_after n g.answer)).names) same_session
                (subst (λ (X : Session). Grown (session_of k.text b n).names X.names) (sym l.session)
                (answer_grown (rules_in k.text sg) (session_of k.text b n) (query_of sg k (goal_in r.goal))));
            listed = subst (λ (f : List Symbol). SessionListed k.text (arities_of f) sg.counts.sorts g.store
                (counts_after n g.answer)) same_symbols l.listed;
          }

  -- The whole list.
  to_end : (text : List ℕ) (b : SessionStore) (n : SessionCounts) (cs : List Call) → Extended start text
      → SessionListed text arities sg.counts.sorts b n → Calls sg text b n cs
      → Carried arities sg.counts.sorts b n (session_of text b n) (end_text text cs) (end_store b cs) (end_counts n cs)
  to_end text b n [] x h q = record {
    words = λ i l. refl;
    longer = omega arith;
    names = grown_refl (session_of text b n).names;
    listed = h;
  }
  to_end text b n (c ∷ cs) x h q =
      let k : Asked = c.asked in
      let g : Given = c.given in
      let n' : SessionCounts = counts_after n g.answer in
      let y = carried text k b n g x q.0 h q.1 in
      let z = to_end k.text g.store n' cs (extended_trans start text k.text x q.0) y.listed q.2 in
      record {
        words = λ i l. y.words i l ∙ z.words i (let m = y.longer in omega arith);
        longer = let m = y.longer in let m' = z.longer in omega arith;
        names = grown_trans (session_of text b n).names (session_of k.text g.store n').names (end_session text b n (c ∷ cs)).names
            y.names z.names;
        listed = z.listed;
      }

  -- The calls become resolution's events, those that are answered by 1 left out.
  mapped : (text : List ℕ) (b : SessionStore) (n : SessionCounts) (cs : List Call) → Extended start text
      → SessionListed text arities sg.counts.sorts b n → Calls sg text b n cs
      → Mapped rules (session_of text b n) (end_session text b n cs) (CallClaims sg b n (end_session text b n cs) (end_store b cs).words cs)
  mapped text b n [] x h q = record { events = []; transcript = tt; ends = refl; back = λ _. tt }
  mapped text b n (c ∷ cs) x h q =
      go (one_or_not g.answer) (mapped k.text g.store n' cs (extended_trans start text k.text x q.0) y.listed q.2)
    where
      k : Asked
      k = c.asked

      g : Given
      g = c.given

      p : Proving sg k b n g
      p = q.1

      n' : SessionCounts
      n' = counts_after n g.answer

      y : Carried arities sg.counts.sorts b n (session_of text b n) k.text g.store n'
      y = carried text k b n g x q.0 h p

      z : Carried arities sg.counts.sorts g.store n' (session_of k.text g.store n') (end_text text (c ∷ cs))
          (end_store b (c ∷ cs)) (end_counts n (c ∷ cs))
      z = to_end k.text g.store n' cs (extended_trans start text k.text x q.0) y.listed q.2

      E : Session
      E = end_session text b n (c ∷ cs)

      words : List ℕ
      words = (end_store b (c ∷ cs)).words

      Tail : Type 0
      Tail = CallClaims sg g.store n' E words cs

      same_session : session_of k.text b n ≡ session_of text b n
      same_session = session_extended text k.text q.0 arities sg.counts.sorts b n h

      same_rules : rules_in k.text sg ≡ rules
      same_rules = rules_extended start k.text (extended_trans start text k.text x q.0) sg signature

      claimed : ((r : ProveReady sg k b n) → GoalClaim sg k b n (goal_in r.goal) g (session_of k.text g.store n') E words)
          → CallClaim sg b n E words c
      claimed ready = record {
        unready = λ u. (p.unready u).answer;
        only = λ e. not_ready k b n g p e;
        unwritten = λ e. p.unready (not_ready k b n g p e);
        ready = ready;
        names = z.names;
      }

      go : (g.answer ≡ Refused 1) ⊎ (g.answer ≡ Refused 1 → ⊥) → Mapped rules (session_of k.text g.store n') E Tail
          → Mapped rules (session_of text b n) E (CallClaim sg b n E words c × Tail)
      go (inl e) m =
          let same : session_of k.text g.store n' ≡ session_of text b n =
          idle k b n g p e (λ b' n'. session_of k.text b' n' ≡ session_of text b n) same_session in
          let m' : Mapped rules (session_of text b n) E Tail = subst (λ (X : Session). Mapped rules X E Tail) same m in
          record {
            events = m'.events;
            transcript = m'.transcript;
            ends = m'.ends;
            back = λ cl. (claimed (λ r. absurd (not_ready k b n g p e r)), m'.back cl);
          }
      go (inr v) m =
          let r = p.tells v in
          let t : WrittenTerm = goal_in r.goal in
          let l = p.ready r in
          let q' : Query = query_of sg k t in
          let S : Session = session_of k.text b n in
          let ev : Event = event sg k b n t g in
          subst (λ (X : Session). Mapped rules X E (CallClaim sg b n E words c × Tail)) same_session (record {
            events = ev ∷ m.events;
            transcript = (
              goal_scoped (symbols_in k.text sg) t S.names,
              ap (λ (Rs : List Rule). (ask Rs S q').verdict) same_rules,
              l.session ∙ ap (λ (Rs : List Rule). (ask Rs S q').session) same_rules,
              m.transcript,
            );
            ends = m.ends;
            back = λ cl. (
              claimed (λ r'. subst (λ (u : WrittenTerm). GoalClaim sg k b n u g (session_of k.text g.store n') E words)
                  (ap (spelled k.text) (term_one r.goal r'.goal).0)
                  (call_answers sg k b n t g l E words z.words (subst (λ (Rs : List Rule). Claim Rs S E ev) (sym same_rules) cl.0))),
              m.back cl.1,
            );
          })

-- The names that stand after each call grow into those at the end, in which no name and no variable stands twice.
shared_with : (E ns : List Named) → Grown ns E → OneVariable E E
    → (sg : SignatureStore) (b : SessionStore) (n : SessionCounts) (T : Session) (words : List ℕ) (cs : List Call) → T.names ≡ E
    → CallClaims sg b n T words cs → SharedWith ns (names_left n cs)
shared_with E ns g o sg b n T words [] e h = tt
shared_with E ns g o sg b n T words (c ∷ cs) e h =
    let left : List Named = (left_by n c).names in (
      one_variable ns left E g (subst (Grown left) e h.0.names) o,
      shared_with E ns g o sg c.given.store (counts_after n c.given.answer) T words cs e h.1,
    )

shared : (sg : SignatureStore) (b : SessionStore) (n : SessionCounts) (T : Session) (words : List ℕ) (cs : List Call)
    → OneVariable T.names T.names → CallClaims sg b n T words cs → Shared (names_left n cs)
shared sg b n T words [] o h = tt
shared sg b n T words (c ∷ cs) o h = (
  shared_with T.names (left_by n c).names h.0.names o sg
      c.given.store (counts_after n c.given.answer) T words cs refl h.1,
  shared sg c.given.store (counts_after n c.given.answer) T words cs o h.1,
)

-- The theorem.
pub demand_3_stored : StoredDemand3
demand_3_stored sg text b n cs signature session calls =
    let m = mapped sg text signature text b n cs (extended_refl text) session calls in
    let end = to_end sg text signature text b n cs (extended_refl text) session calls in
    let S : Session = session_of text b n in
    let E : Session = end_session text b n cs in
    let d = demand_3 (rules_in text sg) S m.events (listed_form session) m.transcript in
    let claims : CallClaims sg b n E (end_store b cs).words cs =
    m.back (subst (λ (X : Session). Claims (rules_in text sg) S X m.events) m.ends d.0) in
    record { calls = claims; names = shared sg b n E (end_store b cs).words cs (listed_one end.listed) claims; listed = end.listed }

-- So of any list of calls in a session that `open` left.
pub demand_3_opened : (sg : SignatureStore) (text : List ℕ) (limits : Limits) (b b' : SessionStore) (s s' : Workspace) (cs : List Call)
    → SignatureListed text sg → Opening limits b s (Ok tt) b' s' → Calls sg text b' no_counts cs → StoredClaims sg text b' no_counts cs
demand_3_opened sg text limits b b' s s' cs signature opened calls =
    demand_3_stored sg text b' no_counts cs signature (opened_in limits b b' s s' opened text sg) calls

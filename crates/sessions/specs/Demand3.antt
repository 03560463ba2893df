-- Demand 3 at the entry points (document 01, "Search"): one theorem about a whole list of calls of `prove` over one stored signature, from
-- any stored session in form. Each call meets its contract and starts from the session part that the last one left; goal, steps, depth,
-- limits, proof buffer and scratch are its own; and the text may grow behind its end. What a list of calls is and what is claimed
-- of it is defined; `demand_3_stored` proves it. Calls that are answered by 1 wrote nothing and are left out; the others become goals of
-- resolution, whose theorem is cited; and a proof's rows are carried to the end of the list, since words in use are never rewritten.
-- Here are the definitions; the theorems about them are in proofs/Demand3.
use Rattle.std.specs.Prelude.{ℕ, ◌≤◌, ◌≡◌, false, ◌⊎◌, List, [], ◌∷◌, length, take}
use Rattle.terms.specs.Term.{one, var, Term, sub}
use Rattle.terms.specs.Bindings.{full, res, Extends}
use Rattle.arena.specs.Copies.{term_room}
use Rattle.resolution.specs.Rules.{Rule, Tree, root, put_in, Derivation}
use Rattle.resolution.specs.Session.{Named, Session, too_much, goal_of}
use Rattle.resolution.specs.Verdicts.{Excluded}
use Rattle.resolution.specs.Preorder.{preorder}
use Rattle.resolution.specs.Naming.{Grown, name_at, OneVariable}
use Rattle.resolution.specs.Demand3.{Goal}
use Rattle.names.specs.Symbols.{Rows}
use Rattle.rules.specs.PatternLaws.{arities_of}
use Rattle.tree_rows.specs.Trees.{entries_from}
use Rattle.signature.specs.Storage.{SignatureStore, symbols_in, rules_in, SignatureListed}
use Rattle.sessions.specs.Storage.{SessionStore, session_of, SessionListed, SessionIn, Extended}
use Rattle.sessions.specs.Goals.{WrittenTerm, goal_in, goal_compiled}
use Rattle.sessions.specs.Promises.{Asked, Given, ProveReady, allowance_of, answer_to, answer_of, counts_after}
use Rattle.sessions.specs.Promises.{IsRefused, IsProved, IsNothing, Unwritten, Proving}
use Rattle.sessions.specs.declared.SessionCounts.{SessionCounts}
use Rattle.sessions.specs.Answers.{Answer, Refused, Proved, Nothing}

-- A list of calls
-- A call, with what it answered and left.
pub record Call : Type 0 where
  pub asked : Asked
  pub given : Given

-- The calls in turn, from a text, a session's part and its counts: each text has the last one's bytes in front, and each call meets the
-- contract of `prove` from what the last one left. The signature's storage is the same for all.
abbrev pub Calls : SignatureStore → List ℕ → SessionStore → SessionCounts → List Call → Type 0
Calls sg text b n [] = Unit {0}
Calls sg text b n (c ∷ cs) =
    Extended text c.asked.text
    × Proving sg c.asked b n c.given
    × Calls sg c.asked.text c.given.store (counts_after n c.given.answer) cs

-- Text, session part and counts at the end of the list.
abbrev pub end_text : List ℕ → List Call → List ℕ
end_text text [] = text
end_text text (c ∷ cs) = end_text c.asked.text cs

abbrev pub end_store : SessionStore → List Call → SessionStore
end_store b [] = b
end_store b (c ∷ cs) = end_store c.given.store cs

abbrev pub end_counts : SessionCounts → List Call → SessionCounts
end_counts n [] = n
end_counts n (c ∷ cs) = end_counts (counts_after n c.given.answer) cs

-- The session that a call leaves, from counts n, and the one at the end.
abbrev pub left_by : SessionCounts → Call → Session
left_by n c = session_of c.asked.text c.given.store (counts_after n c.given.answer)

abbrev pub end_session : List ℕ → SessionStore → SessionCounts → List Call → Session
end_session text b n cs = session_of (end_text text cs) (end_store b cs) (end_counts n cs)

-- What is claimed of one call
-- The goal t, compiled in the session that the call gets; and its term over that session's variables.
abbrev pub GoalAsked : SignatureStore → Asked → SessionStore → SessionCounts → WrittenTerm → Type 0
GoalAsked sg k b n t = Goal (goal_compiled (symbols_in k.text sg) t (session_of k.text b n).names)

abbrev pub term_asked : (sg : SignatureStore) (k : Asked) (b : SessionStore) (n : SessionCounts) (t : WrittenTerm)
    → GoalAsked sg k b n t → Term
term_asked sg k b n t G = goal_of (session_of k.text b n) G.term

-- The rows of a proof, read over some words, are the preorder of one tree and of no other. Its root is the goal's term; with the final
-- bindings put in it is a derivation of the goal with them put in, and so it is with the bindings at the end; and the bindings only add.
pub record ProofStands (rules : List Rule) (S S' E : Session) (g : Term) (nodes : ℕ) (proof : Rows) (words : List ℕ) : Type 0 where
  pub tree : Tree one
  pub read : entries_from term_room words proof 0 nodes ≡ preorder 1 tree
  pub only : (t : Tree one) → entries_from term_room words proof 0 nodes ≡ preorder 1 t → t ≡ tree
  pub goal : root tree ≡ g
  pub rooted : root (put_in (full S'.bindings) tree) ≡ res S'.bindings g
  pub derivation : Derivation rules (put_in (full S'.bindings) tree)
  pub stays_rooted : root (put_in (full E.bindings) tree) ≡ res E.bindings g
  pub stays : Derivation rules (put_in (full E.bindings) tree)
  pub adds : Extends S.bindings S'.bindings

-- The session part at entry is there unchanged.
pub record SamePart (b : SessionStore) (n : SessionCounts) (b' : SessionStore) : Type 0 where
  pub names : take n.names b'.names ≡ take n.names b.names
  pub words : take n.words b'.words ≡ take n.words b.words
  pub bindings : b'.bindings ≡ b.bindings

-- The second answer repeats "proved" and "none" of the first, or storage refuses.
pub record Repeated (a a' : Answer) : Type 0 where
  pub shows : IsProved a → IsProved a' ⊎ ((a' ≡ Refused 37) ⊎ (a' ≡ Refused 1))
  pub excludes : IsNothing a → IsNothing a' ⊎ ((a' ≡ Refused 37) ⊎ (a' ≡ Refused 1))

-- A call that asks the same again: signature and session denote the same, the rows, where they are in form, stand for the same term, and
-- steps and depth are no smaller and within the limits. Its storage limits, its buffers and how the session is laid out in them are its
-- own.
pub record SameGoal (sg : SignatureStore) (k : Asked) (b : SessionStore) (n : SessionCounts) (t : WrittenTerm) (sg' : SignatureStore)
    (k' : Asked) (b' : SessionStore) (n' : SessionCounts) : Type 0 where
  pub symbols : symbols_in k'.text sg' ≡ symbols_in k.text sg
  pub rules : rules_in k'.text sg' ≡ rules_in k.text sg
  pub session : session_of k'.text b' n' ≡ session_of k.text b n
  pub goal : (r : ProveReady sg' k' b' n') → goal_in r.goal ≡ t
  pub steps : k.steps ≤ k'.steps
  pub depth : k.depth ≤ k'.depth
  pub within : too_much k'.steps k'.depth (allowance_of k'.limits) ≡ false

-- Of a call that is ready, with the goal t: S' is the session that it leaves, and E the one at the end, whose words are `words`.
pub record GoalClaim (sg : SignatureStore) (k : Asked) (b : SessionStore) (n : SessionCounts) (t : WrittenTerm) (g : Given)
    (S' E : Session) (words : List ℕ) : Type 0 where
  -- Verdict or refusal, and session, are those of the definitions.
  pub answer : g.answer ≡ answer_of n (length (answer_to sg k b n t).session.names) (answer_to sg k b n t).verdict
  pub session : S' ≡ (answer_to sg k b n t).session
  -- Without a refusal the goal compiled, and its term has for each of its names the variable that the name then has.
  pub compiled : (IsRefused g.answer → ⊥) → GoalAsked sg k b n t
  pub variables : (IsRefused g.answer → ⊥) → (G : GoalAsked sg k b n t)
      → term_asked sg k b n t G ≡ sub (λ i. var (name_at S'.names i).variable) G.term
  -- Proved: the rows that it returned, read over the words at the end, are one tree, a derivation.
  pub proved : (u nodes : ℕ) (m : SessionCounts) → g.answer ≡ Proved u nodes m
      → (G : GoalAsked sg k b n t)
      × ProofStands (rules_in k.text sg) (session_of k.text b n) S' E (term_asked sg k b n t G) nodes g.proof words
  -- None: no derivation has as root the goal with its starting bindings put in and any terms for the variables left.
  pub none : (u : ℕ) (m : SessionCounts) → g.answer ≡ Nothing u m
      → (G : GoalAsked sg k b n t) × Excluded (rules_in k.text sg) (session_of k.text b n).bindings (term_asked sg k b n t G)
  -- Without a proof the bindings' rows are those at entry; refused, the whole session part is.
  pub unproved : (IsProved g.answer → ⊥) → g.store.bindings ≡ b.bindings
  pub refused : (e : ℕ) → g.answer ≡ Refused e → SamePart b n g.store
  -- Asked again, the same verdict, or 37, or 1.
  pub again : (sg' : SignatureStore) (k' : Asked) (b' : SessionStore) (n' : SessionCounts) (g' : Given) → Proving sg' k' b' n' g'
      → SameGoal sg k b n t sg' k' b' n' → Repeated g.answer g'.answer

-- Of any call.
pub record CallClaim (sg : SignatureStore) (b : SessionStore) (n : SessionCounts) (E : Session) (words : List ℕ) (c : Call) : Type 0 where
  -- 1 exactly where it is not ready, and then nothing is written.
  pub unready : (ProveReady sg c.asked b n → ⊥) → c.given.answer ≡ Refused 1
  pub only : c.given.answer ≡ Refused 1 → ProveReady sg c.asked b n → ⊥
  pub unwritten : c.given.answer ≡ Refused 1 → Unwritten c.asked b c.given
  pub ready : (r : ProveReady sg c.asked b n) → GoalClaim sg c.asked b n (goal_in r.goal) c.given (left_by n c) E words
  -- The names that stand after it still stand at the end, with their variables.
  pub names : Grown (left_by n c).names E.names

-- Of all calls.
abbrev pub CallClaims : SignatureStore → SessionStore → SessionCounts → Session → List ℕ → List Call → Type 0
CallClaims sg b n E words [] = Unit {0}
CallClaims sg b n E words (c ∷ cs) =
    CallClaim sg b n E words c × CallClaims sg c.given.store (counts_after n c.given.answer) E words cs

-- What is claimed of the whole list
-- The names that stand after each call; and of any two of these lists, the same name is one variable and different names are two.
abbrev pub names_left : SessionCounts → List Call → List (List Named)
names_left n [] = []
names_left n (c ∷ cs) = (left_by n c).names ∷ names_left (counts_after n c.given.answer) cs

abbrev pub SharedWith : List Named → List (List Named) → Type 0
SharedWith ns [] = Unit {0}
SharedWith ns (ms ∷ l) = OneVariable ns ms × SharedWith ns l

abbrev pub Shared : List (List Named) → Type 0
Shared [] = Unit {0}
Shared (ns ∷ l) = SharedWith ns l × Shared l

-- Demand 3 of a list of calls from a text, a session part and its counts.
pub record StoredClaims (sg : SignatureStore) (text : List ℕ) (b : SessionStore) (n : SessionCounts) (cs : List Call) : Type 0 where
  pub calls : CallClaims sg b n (end_session text b n cs) (end_store b cs).words cs
  pub names : Shared (names_left n cs)
  -- The session at the end is in form again.
  pub listed : SessionListed (end_text text cs) (arities_of (symbols_in text sg)) sg.counts.sorts (end_store b cs) (end_counts n cs)

-- The theorem: all this holds of any list of calls that meet their contract in turn, over a signature in form and from a session in form.
abbrev pub StoredDemand3 : Type 0
StoredDemand3 =
    (sg : SignatureStore) (text : List ℕ) (b : SessionStore) (n : SessionCounts) (cs : List Call)
    → SignatureListed text sg → SessionIn text sg b n → Calls sg text b n cs → StoredClaims sg text b n cs

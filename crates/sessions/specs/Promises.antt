-- What `open` and `prove` promise (document 01, "Search" and "The table by place"): answer and lent storage, on all inputs.
use Rattle.std.specs.Prelude.{ℕ, suc, ◌-◌, ◌≤◌, ◌≡◌, true, false, cond, List, [], ◌∷◌, length, take, drop, replicate, Result, Ok, Err}
use Rattle.source_text.specs.Answers.{Told, answers, refuses}
use Rattle.words.specs.Lexer.{capped_of}
use Rattle.words.specs.declared.Limits.{Limits}
use Rattle.terms.specs.Term.{one, many}
use Rattle.terms.specs.Bindings.{Bindings, start, bind}
use Rattle.arena.specs.Copies.{term_room}
use Rattle.unifier.specs.Promises.{Scratch}
use Rattle.attempts.specs.Promises.{Added}
use Rattle.resolution.specs.Rules.{Tree, leaf, ◌◂◌}
use Rattle.resolution.specs.Search.{Verdict, refusal, proved, nothing, undecided}
use Rattle.resolution.specs.Session.{Allowance, Query, ask}
use Rattle.resolution.specs.Session as theory
use Rattle.resolution.specs.Preorder.{preorder, flat}
use Rattle.names.specs.Symbols.{Rows}
use Rattle.tree_rows.specs.Trees.{Lists, zero_tree}
use Rattle.term_check.specs.TermRows.{TermAt}
use Rattle.signature.specs.Storage.{SignatureStore, symbols_in, rules_in, SignatureListed}
use Rattle.sessions.specs.Storage.{SessionStore, Workspace, session_of, SessionIn, too_short, zero_name, zero_store, zero_space}
use Rattle.sessions.specs.Goals.{WrittenTerm, goal_in, goal_compiled}
use Rattle.sessions.specs.declared.SessionCounts.{SessionCounts}
use Rattle.refusals.specs.Refusals.{number_of}
use Rattle.refusals.specs.declared.Refusal.{Refusal}
use Rattle.refusals.specs.declared.Refusal.TheVariants.{Storage}
use Rattle.sessions.specs.Answers.{Answer, Refused, Proved, Nothing, Undecided}

-- Opening a session

-- The answer by the paper's numbers: a refusal, or nothing to report.
abbrev pub opened_told : Result (Unit {0}) Refusal → Told
opened_told (Err e) = refuses (number_of e) 0
opened_told (Ok x) = answers []

-- `open`: a buffer that is too short gives 1, and nothing is written; else a new session, and zero throughout.
pub record Opening (limits : Limits) (b : SessionStore) (s : Workspace) (r : Result (Unit {0}) Refusal) (b' : SessionStore) (s' : Workspace) : Type 0 where
  pub told : opened_told r ≡ cond (too_short limits b s) (refuses 1 0) (answers [])
  pub short : too_short limits b s ≡ true → (r ≡ Err Storage) × (b' ≡ b) × (s' ≡ s)
  pub enough : too_short limits b s ≡ false → (r ≡ Ok tt) × (b' ≡ zero_store b) × (s' ≡ zero_space s)

-- Proving a goal

-- A call of `prove`: what it is given beside the signature and the session. The goal's rows start at the row `at`.
pub record Asked : Type 0 where
  pub text : List ℕ
  pub limits : Limits
  pub rows : Rows
  pub at : ℕ
  pub steps : ℕ
  pub depth : ℕ
  pub proof : Rows
  pub space : Workspace

-- What it answers and leaves.
pub record Given : Type 0 where
  pub answer : Answer
  pub store : SessionStore
  pub proof : Rows
  pub space : Workspace

-- Signature, session, scratch and goal are in form, and enough is lent. Where this does not hold, 1 is the answer.
pub record ProveReady (sg : SignatureStore) (k : Asked) (b : SessionStore) (n : SessionCounts) : Type 0 where
  pub lent : too_short k.limits b k.space ≡ false
  pub proof_lent : (capped_of k.limits).steps ≤ length k.proof
  pub signature : SignatureListed k.text sg
  pub session : SessionIn k.text sg b n
  -- the scratch is zero, and long enough for what the session uses;
  pub scratch : Scratch term_room n.words k.space.links k.space.marks k.space.stack
  -- and the rows are those of a term as the parser leaves one.
  pub next : ℕ
  pub goal : TermAt k.text k.rows k.at next

-- The definitions' answer

-- The goal as the definitions ask it.
abbrev pub allowance_of : Limits → Allowance
allowance_of l = record { steps = l.steps; variables = l.variables; words = l.words }

abbrev pub query_of : SignatureStore → Asked → WrittenTerm → Query
query_of sg k t =
    record {
      compile = goal_compiled (symbols_in k.text sg) t;
      steps = k.steps;
      depth = k.depth;
      limits = allowance_of k.limits;
    }

-- The answer to a goal in a stored session.
abbrev pub answer_to : SignatureStore → Asked → SessionStore → SessionCounts → WrittenTerm → theory.Answer
answer_to sg k b n t = ask (rules_in k.text sg) (session_of k.text b n) (query_of sg k t)

-- How many bindings there are.
unfoldable pub bound_in : Bindings → ℕ
bound_in start = 0
bound_in (bind x t β) = suc (bound_in β)

-- The answer of the code for a verdict, where so many names then stand.
abbrev pub answer_of : SessionCounts → ℕ → Verdict → Answer
answer_of n names (refusal e) = Refused e
answer_of n names (proved β st u c m) =
    Proved u (length (flat st)) (record { names = names; variables = c; bound = bound_in β; words = m })
answer_of n names (nothing u c) = Nothing u (record { names = names; variables = c; bound = n.bound; words = n.words })
answer_of n names (undecided u c) = Undecided u (record { names = names; variables = c; bound = n.bound; words = n.words })

-- The answer by the paper's numbers: 1 proved, 2 none, 3 undecided; the steps used; a proof's nodes; and the counts; or the refusal, which
-- has no line of its own.
abbrev pub answer_told : Answer → Told
answer_told (Refused e) = refuses e 0
answer_told (Proved u nodes m) = answers (1 ∷ u ∷ nodes ∷ m.names ∷ m.variables ∷ m.bound ∷ m.words ∷ [])
answer_told (Nothing u m) = answers (2 ∷ u ∷ m.names ∷ m.variables ∷ m.bound ∷ m.words ∷ [])
answer_told (Undecided u m) = answers (3 ∷ u ∷ m.names ∷ m.variables ∷ m.bound ∷ m.words ∷ [])

-- The same of a verdict of the definitions.
abbrev pub verdict_told : SessionCounts → ℕ → Verdict → Told
verdict_told n names (refusal e) = refuses e 0
verdict_told n names (proved β st u c m) = answers (1 ∷ u ∷ length (flat st) ∷ names ∷ c ∷ bound_in β ∷ m ∷ [])
verdict_told n names (nothing u c) = answers (2 ∷ u ∷ names ∷ c ∷ n.bound ∷ n.words ∷ [])
verdict_told n names (undecided u c) = answers (3 ∷ u ∷ names ∷ c ∷ n.bound ∷ n.words ∷ [])

-- What kind of answer it is.
abbrev pub IsRefused : Answer → Type 0
IsRefused (Refused e) = Unit {0}
IsRefused (Proved u nodes m) = ⊥
IsRefused (Nothing u m) = ⊥
IsRefused (Undecided u m) = ⊥

abbrev pub IsProved : Answer → Type 0
IsProved (Refused e) = ⊥
IsProved (Proved u nodes m) = Unit {0}
IsProved (Nothing u m) = ⊥
IsProved (Undecided u m) = ⊥

abbrev pub IsNothing : Answer → Type 0
IsNothing (Refused e) = ⊥
IsNothing (Proved u nodes m) = ⊥
IsNothing (Nothing u m) = Unit {0}
IsNothing (Undecided u m) = ⊥

-- The counts after an answer: a refusal leaves those at entry.
abbrev pub counts_after : SessionCounts → Answer → SessionCounts
counts_after n (Refused e) = n
counts_after n (Proved u nodes m) = m
counts_after n (Nothing u m) = m
counts_after n (Undecided u m) = m

-- What is left

-- As long as before; the part in use at entry is the same, and zero follows the part in use at exit.
pub record Continued {A : Type 0} (zero : A) (used used' : ℕ) (l l' : List A) : Type 0 where
  pub long : length l' ≡ length l
  pub same : take used l' ≡ take used l
  pub clear : drop used' l' ≡ replicate (length l - used') zero

-- The bindings' rows: a proof adds bindings, and taking these back gives the very rows at entry; without a proof the rows are those at
-- entry.
abbrev pub BindingsLeft : Verdict → Rows → Rows → ℕ → ℕ → Type 0
BindingsLeft (refusal e) rows rows' bound bound' = rows' ≡ rows
BindingsLeft (proved β st u c m) rows rows' bound bound' = (length rows' ≡ length rows) × Added rows rows' bound bound'
BindingsLeft (nothing u c) rows rows' bound bound' = rows' ≡ rows
BindingsLeft (undecided u c) rows rows' bound bound' = rows' ≡ rows

-- The proof st stands in the rows, over words with so many variables and words in use.
pub record ProofListed (st : Tree many) (proof proof' : Rows) (words : List ℕ) (variables used : ℕ) : Type 0 where
  -- it is one tree, whose nodes stand in preorder from height 1 on;
  pub tree : Tree one
  pub only : st ≡ tree ◂ leaf
  pub listed : Lists term_room variables words used proof' 0 1 tree (length (preorder 1 tree))
  -- zero follows.
  pub long : length proof' ≡ length proof
  pub clear : drop (length (preorder 1 tree)) proof' ≡ replicate (length proof - length (preorder 1 tree)) zero_tree

-- The rows of the proof: without one they are zero.
abbrev pub ProofLeft : Verdict → Rows → Rows → List ℕ → ℕ → ℕ → Type 0
ProofLeft (refusal e) proof proof' words variables used = proof' ≡ replicate (length proof) zero_tree
ProofLeft (proved β st u c m) proof proof' words variables used = ProofListed st proof proof' words variables used
ProofLeft (nothing u c) proof proof' words variables used = proof' ≡ replicate (length proof) zero_tree
ProofLeft (undecided u c) proof proof' words variables used = proof' ≡ replicate (length proof) zero_tree

-- What a call that is ready leaves, where A is the definitions' answer. Two correct programs may differ in the addresses of new words, and
-- in which of several places of the same bytes a new name has; whatever they choose, the storage denotes the session of A, is in form, and
-- extends that at entry.
pub record ProveLeaves (sg : SignatureStore) (k : Asked) (b : SessionStore) (n : SessionCounts) (A : theory.Answer) (g : Given)
    : Type 0 where
  pub answer : g.answer ≡ answer_of n (length A.session.names) A.verdict
  pub told : answer_told g.answer ≡ verdict_told n (length A.session.names) A.verdict
  pub session : session_of k.text g.store (counts_after n g.answer) ≡ A.session
  pub listed : SessionIn k.text sg g.store (counts_after n g.answer)
  pub names : Continued zero_name n.names (counts_after n g.answer).names b.names g.store.names
  pub words : Continued 0 n.words (counts_after n g.answer).words b.words g.store.words
  pub longer : n.words ≤ (counts_after n g.answer).words
  pub bindings : BindingsLeft A.verdict b.bindings g.store.bindings n.bound (counts_after n g.answer).bound
  pub proof : ProofLeft A.verdict k.proof g.proof g.store.words
      (counts_after n g.answer).variables (counts_after n g.answer).words
  pub scratch : g.space ≡ k.space

-- Nothing was written, and 1 was answered.
pub record Unwritten (k : Asked) (b : SessionStore) (g : Given) : Type 0 where
  pub answer : g.answer ≡ Refused 1
  pub told : answer_told g.answer ≡ refuses 1 0
  pub store : g.store ≡ b
  pub proof : g.proof ≡ k.proof
  pub space : g.space ≡ k.space

-- `prove`: 1 where the call is not ready; else the definitions' answer, and what it leaves. Any answer but 1 tells that the call was ready.
pub record Proving (sg : SignatureStore) (k : Asked) (b : SessionStore) (n : SessionCounts) (g : Given) : Type 0 where
  pub unready : (ProveReady sg k b n → ⊥) → Unwritten k b g
  pub ready : (r : ProveReady sg k b n) → ProveLeaves sg k b n (answer_to sg k b n (goal_in r.goal)) g
  pub tells : (g.answer ≡ Refused 1 → ⊥) → ProveReady sg k b n

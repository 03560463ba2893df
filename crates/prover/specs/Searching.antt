-- The search for a goal that stands in the session, and what it leaves (document 01, the table): without a proof the words are those at
-- entry, and after 37 the names too; zero follows.
use Rattle.std.specs.Prelude.{ℕ, ◌≤◌, ◌≡◌, List, length}
use Rattle.names.specs.Symbols.{Rows}
use Rattle.resolution.specs.Search.{Verdict, refusal, nothing, undecided}
use Rattle.load_storage.specs.Storage.{cleared_from}
use Rattle.search_machine.specs.Allowed.{Allowed}
use Rattle.search_machine.specs.Groups.{allowed_in}
use Rattle.search_machine.specs.declared.Program.{Program}
use Rattle.search_machine.specs.declared.Store.{Store}
use Rattle.deepening.specs.Bounds.{Asking, Counted, prove_of, Proven}
use Rattle.sessions.specs.Storage.{zero_name}
use Rattle.sessions.specs.declared.SessionCounts.{SessionCounts}
use Rattle.sessions.specs.Answers.{Answer, Refused, Proved, Nothing, Undecided}
use Rattle.prover.specs.declared.preparing.StoredGoal.{StoredGoal}

-- The goal g in a session that had the counts n before it, with s steps and depth d.
pub record SearchAsked (a : Allowed) (P : List ℕ) (R F : Rows) (W : List ℕ) (T L M S N : Rows) (g : StoredGoal) (n : SessionCounts)
    (s d : ℕ) : Type 0 where
  pub asking : Asking a P R F W T L M S g.node s g.variables n.bound g.words
  pub deep : d ≤ 128
  pub named : n.names ≤ length N

-- Without a proof: the goal's words are cleared, bindings and proof are as they were.
pub record Unproved (n : SessionCounts) (F F' : Rows) (W W' : List ℕ) (T T' : Rows) : Type 0 where
  pub words_are : W' ≡ cleared_from 0 n.words W
  pub rows_are : T' ≡ T
  pub proof_is : F' ≡ F

-- The counts then, with c variables.
abbrev pub counts_then : SessionCounts → StoredGoal → ℕ → SessionCounts
counts_then n g c = record { names = g.names; variables = c; bound = n.bound; words = n.words }

pub record Failing (a : Allowed) (g : StoredGoal) (n m : SessionCounts) (F F' : Rows) (W W' : List ℕ) (T T' N N' : Rows) : Type 0 where
  pub counts : m ≡ counts_then n g m.variables
  pub counted : Counted a W T g.variables n.bound g.words m.variables
  pub names_are : N' ≡ N
  pub unproved : Unproved n F F' W W' T T'

pub record Finding (a : Allowed) (P : List ℕ) (R : Rows) (g : StoredGoal) (n m : SessionCounts) (F F' : Rows) (W W' : List ℕ)
    (T T' N N' : Rows) (v : Verdict) (s nodes : ℕ) : Type 0 where
  pub counts : m.names ≡ g.names
  pub names_are : N' ≡ N
  pub proven : Proven a P R F F' W W' T T' g.variables n.bound g.words v nodes s m.variables m.bound m.words

-- What an answer says of the theory's verdict v.
abbrev pub SearchSays : Allowed → List ℕ → Rows → Rows → Rows → List ℕ → List ℕ → Rows → Rows → Rows → Rows → StoredGoal → SessionCounts
    → Verdict → Answer → Type 0
SearchSays a P R F F' W W' T T' N N' g n v (Refused e) =
    (e ≡ 37) × (refusal 37 ≡ v) × (N' ≡ cleared_from zero_name n.names N) × Unproved n F F' W W' T T'
SearchSays a P R F F' W W' T T' N N' g n v (Proved s nodes m) = Finding a P R g n m F F' W W' T T' N N' v s nodes
SearchSays a P R F F' W W' T T' N N' g n v (Nothing s m) = (nothing s m.variables ≡ v) × Failing a g n m F F' W W' T T' N N'
SearchSays a P R F F' W W' T T' N N' g n v (Undecided s m) = (undecided s m.variables ≡ v) × Failing a g n m F F' W W' T T' N N'

-- `search_goal` answered the goal; the scratch is as it was.
pub record SearchLeft (a : Allowed) (P : List ℕ) (R F F' : Rows) (W W' : List ℕ) (T T' L L' M M' S S' N N' : Rows) (g : StoredGoal)
    (n : SessionCounts) (s d : ℕ) (r : Answer) : Type 0 where
  pub says : (text : List ℕ)
      → SearchSays a P R F F' W W' T T' N N' g n (prove_of a text P R W T g.node d s g.variables n.bound g.words) r
  pub links : L' ≡ L
  pub marks : M' ≡ M
  pub stack : S' ≡ S

-- The same over a program and a store.
abbrev pub SearchAskedIn : Program → Rows → Store → StoredGoal → SessionCounts → ℕ → ℕ → Type 0
SearchAskedIn p names s g n steps depth =
    SearchAsked (allowed_in p) p.pattern.now p.rules.now s.frames.now s.words.now s.bindings.now s.links.now s.marks.now s.stack.now
    names g n steps depth

abbrev pub SearchLeftIn : Program → Rows → Rows → Store → Store → StoredGoal → SessionCounts → ℕ → ℕ → Answer → Type 0
SearchLeftIn p names names' s s' g n steps depth r =
    SearchLeft (allowed_in p) p.pattern.now p.rules.now s.frames.now s'.frames.now s.words.now s'.words.now s.bindings.now s'.bindings.now
    s.links.now s'.links.now s.marks.now s'.marks.now s.stack.now s'.stack.now names names' g n steps depth r

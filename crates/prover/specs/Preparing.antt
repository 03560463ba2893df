-- A goal before its search (document 01, "Search" and the table's order: 19 to 28, then 37): compiled against the session's names, and
-- stored where the limits allow.
use Rattle.std.specs.Prelude.{ℕ, ◌+◌, ◌≤◌, ◌<◌, ◌≡◌, Bool, true, false, List, length, Result, Ok}
use Rattle.words.specs.Lexer.{capped_of}
use Rattle.words.specs.declared.Limits.{Limits}
use Rattle.attempts.specs.declared.SearchLimits.{SearchLimits}
use Rattle.terms.specs.Term.{Term}
use Rattle.term_check.specs.TermRows.{TermAt}
use Rattle.arena.specs.Cells.{denote, Reference, cells}
use Rattle.arena.specs.Copies.{term_room}
use Rattle.names.specs.Symbols.{Rows, column, row_at, symbols_of}
use Rattle.resolution.specs.Search.{words, over}
use Rattle.resolution.specs.Session.{Compiled, refuses, compiles, goal_of, limits_of}
use Rattle.resolution.specs.Session as theory
use Rattle.refusals.specs.declared.Refusal.{Refusal}
use Rattle.refusals.specs.Refused.{Refuses}
use Rattle.rules.specs.PatternLaws.{arities_of}
use Rattle.deepening.specs.Clearing.{ClearFrom}
use Rattle.sessions.specs.Storage.{SessionStore, session_store, session_of, SessionListed, zero_name}
use Rattle.sessions.specs.Goals.{goal_in, goal_compiled}
use Rattle.sessions.specs.Promises.{allowance_of, Continued}
use Rattle.sessions.specs.Leaving.{SessionMade}
use Rattle.sessions.specs.declared.SessionCounts.{SessionCounts}
use Rattle.prover.specs.declared.preparing.StoredGoal.{StoredGoal}

-- How many variables and words the limits allow a search.
abbrev pub search_limits : Limits → SearchLimits
search_limits l = record { variables = (capped_of l).variables; words = (capped_of l).words }

-- The symbols are there, the session and the goal's rows are in form, and all past the counts is zero.
pub record PrepareAsked (text : List ℕ) (limits : Limits) (symbols : Rows) (count : ℕ) (rows : Rows) (at : ℕ) (names : Rows)
    (words : List ℕ) (n : SessionCounts) : Type 0 where
  pub lent : count ≤ length symbols
  pub few : count ≤ 1024
  pub inputs : (i : ℕ) → i < count → column (row_at symbols i) 6 ≤ 16
  pub sorts : ℕ
  pub bindings : Rows
  pub session : SessionListed text (arities_of (symbols_of text symbols count)) sorts (session_store names words bindings) n
  pub next : ℕ
  pub goal : TermAt text rows at next
  pub names_lent : 64 ≤ length names
  pub words_lent : (capped_of limits).words ≤ length words
  pub names_clear : ClearFrom zero_name names n.names
  pub words_clear : ClearFrom 0 words n.words

-- Refused, and nothing was written.
pub record NotStored (names : Rows) (words : List ℕ) (r : Result StoredGoal Refusal) (names' : Rows) (words' : List ℕ) (e : ℕ) : Type 0 where
  pub answer : Refuses r e
  pub names_are : names' ≡ names
  pub words_are : words' ≡ words

-- The counts of the session with the goal in it.
abbrev pub counts_with : SessionCounts → StoredGoal → SessionCounts
counts_with n g = record { names = g.names; variables = g.variables; bound = n.bound; words = g.words }

-- The goal p stands in the session, with its new names.
pub record GoalStands (text arities : List ℕ) (b : SessionStore) (n : SessionCounts) (names' : Rows) (words' : List ℕ)
    (new : List theory.Name) (p : Term) (g : StoredGoal) : Type 0 where
  pub named : g.names ≡ n.names + length new
  pub numbered : g.variables ≡ n.variables + length new
  pub used : g.words ≡ n.words + words (goal_of (session_of text b n) p)
  -- the session is in form with it;
  pub made : SessionMade text arities b n (session_store names' words' b.bindings) (counts_with n g) new
  -- its reference denotes it over the session's variables;
  pub denotes : denote term_room (cells words') g.node ≡ goal_of (session_of text b n) p
  pub refers : Reference term_room (cells words') g.variables g.words g.node
  -- names and words are only added, and zero follows.
  pub names : Continued zero_name n.names g.names b.names names'
  pub words : Continued 0 n.words g.words b.words words'

pub record IsStored (text arities : List ℕ) (b : SessionStore) (n : SessionCounts) (r : Result StoredGoal Refusal) (names' : Rows) (words' : List ℕ)
    (new : List theory.Name) (p : Term) : Type 0 where
  pub goal : StoredGoal
  pub answer : r ≡ Ok goal
  pub stands : GoalStands text arities b n names' words' new p goal

-- 37 where it is over the limits,
abbrev pub Within : List ℕ → List ℕ → SessionStore → SessionCounts → Result StoredGoal Refusal → Rows → List ℕ → List theory.Name → Term → Bool → Type 0
Within text arities b n r names' words' new p true = NotStored b.names b.words r names' words' 37
Within text arities b n r names' words' new p false = IsStored text arities b n r names' words' new p

-- for a goal that compiles.
abbrev pub Prepares : List ℕ → Limits → List ℕ → SessionStore → SessionCounts → Result StoredGoal Refusal → Rows → List ℕ → Compiled → Type 0
Prepares text limits arities b n r names' words' (refuses e) = NotStored b.names b.words r names' words' e
Prepares text limits arities b n r names' words' (compiles new p) =
    Within text arities b n r names' words' new p
    (over (limits_of (allowance_of limits)) (n.variables + length new) (n.words + words (goal_of (session_of text b n) p)))

-- Whatever session in form this is a part of, and whatever term stands at the row.
pub record Preparing (text : List ℕ) (limits : Limits) (symbols : Rows) (count : ℕ) (rows : Rows) (at : ℕ) (names : Rows)
    (words : List ℕ) (n : SessionCounts) (r : Result StoredGoal Refusal) (names' : Rows) (words' : List ℕ) : Type 0 where
  pub says : (sorts : ℕ) (bindings : Rows) → (capped_of limits).variables ≤ length bindings
      → SessionListed text (arities_of (symbols_of text symbols count)) sorts (session_store names words bindings) n
      → (q : ℕ) (g : TermAt text rows at q)
      → Prepares text limits (arities_of (symbols_of text symbols count)) (session_store names words bindings) n r names' words'
      (goal_compiled (symbols_of text symbols count) (goal_in g) (session_of text (session_store names words bindings) n).names)

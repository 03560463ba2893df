-- What `check_session` decides, and its parts, each decided by a function of its own.
use Rattle.std.specs.Prelude.{ℕ, ◌≤◌, ◌<◌, ◌≡◌, Bool, false, ◌⊎◌, List}
use Rattle.words.specs.Names.{name_kind, metavariable_kind}
use Rattle.words.specs.declared.Limits.{Limits}
use Rattle.arena.specs.Copies.{term_room}
use Rattle.bindings.specs.Promises.{Tells}
use Rattle.unifier.specs.Promises.{Scratch}
use Rattle.resolution.specs.Session.{variable_limit, word_limit}
use Rattle.names.specs.Names.{name_in}
use Rattle.names.specs.Symbols.{Rows, column, row_at, symbols_of}
use Rattle.rules.specs.PatternLaws.{arities_of}
use Rattle.sessions.specs.Storage.{SessionStore, Workspace, NameFormed, SessionListed, too_short}
use Rattle.sessions.specs.declared.SessionCounts.{SessionCounts}
use Rattle.term_check.specs.Walk.{word_in}

-- The counts are within document 01's limits, and so many words are lent.
pub record SessionCounted (n : SessionCounts) (lent : ℕ) : Type 0 where
  pub few_names : n.names ≤ 64
  pub few_variables : n.variables ≤ variable_limit
  pub few_bound : n.bound ≤ n.variables
  pub few_words : n.words ≤ word_limit
  pub words_lent : n.words ≤ lent

-- A name's kind,
abbrev pub NameKind : ℕ → Type 0
NameKind kind = (kind ≡ name_kind) ⊎ (kind ≡ metavariable_kind)

-- and its sort and variable.
pub record NameNumbersFormed (sort variable sorts variables : ℕ) : Type 0 where
  pub sorted : 0 < sort
  pub known : sort ≤ sorts
  pub made : variable < variables

-- The rows of the first n names are in form;
abbrev pub NamesFormed : List ℕ → ℕ → ℕ → Rows → ℕ → Type 0
NamesFormed text sorts variables rows n = (i : ℕ) → i < n → NameFormed text sorts variables (row_at rows i)

-- their variables rise;
abbrev pub Rising : Rows → ℕ → Type 0
Rising rows n = (i j : ℕ) → i < j → j < n → column (row_at rows i) 4 < column (row_at rows j) 4

-- no word stands twice at their places;
abbrev pub PlacesDistinct : List ℕ → Rows → ℕ → Type 0
PlacesDistinct text rows n = (i j : ℕ) → i < j → j < n → word_in text (row_at rows i) ≡ word_in text (row_at rows j) → ⊥

-- all that a session asks of its names.
pub record NamesListed (text : List ℕ) (sorts variables : ℕ) (rows : Rows) (n : ℕ) : Type 0 where
  pub named : NamesFormed text sorts variables rows n
  pub distinct : (i j : ℕ) → i < j → j < n → name_in text (row_at rows i) ≡ name_in text (row_at rows j) → ⊥
  pub rising : Rising rows n

-- The part of `ProveReady` that speaks of the session.
pub record SessionReady (text : List ℕ) (limits : Limits) (sorts : ℕ) (symbols : Rows) (m : ℕ) (b : SessionStore) (s : Workspace)
    (n : SessionCounts) : Type 0 where
  pub lent : too_short limits b s ≡ false
  pub session : SessionListed text (arities_of (symbols_of text symbols m)) sorts b n
  pub scratch : Scratch term_room n.words s.links s.marks s.stack

-- `check_session` told so, and left the marks as they were.
pub record SessionChecked (text : List ℕ) (limits : Limits) (sorts : ℕ) (symbols : Rows) (m : ℕ) (b : SessionStore) (s : Workspace)
    (n : SessionCounts) (marks' : Rows) (r : Bool) : Type 0 where
  pub tells : Tells r (SessionReady text limits sorts symbols m b s n)
  pub kept : marks' ≡ s.marks

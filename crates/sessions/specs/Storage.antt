-- What a session is stored in (document 01, "Search" and refusal 1; docs/STORAGE.md): the rows and words that a caller lends, what they
-- denote, and the listed form that `prove` asks of them and leaves.
use Rattle.std.specs.Prelude.{ℕ, ◌+◌, ◌≤◌, ◌<◌, ◌≡◌, Bool, true, ◌||◌, ◌⊎◌, List, ◌++◌, map, ltb, length, take, replicate}
use Rattle.words.specs.Names.{name_kind, metavariable_kind}
use Rattle.words.specs.Lexer.{capped_of}
use Rattle.words.specs.declared.Limits.{Limits}
use Rattle.arena.specs.Copies.{term_room}
use Rattle.arena.specs.Form.{in_form}
use Rattle.bindings.specs.Stored.{held, Form}
use Rattle.resolution.specs.Session.{Named, Session, variable_limit, word_limit}
use Rattle.names.specs.Names.{name_in}
use Rattle.names.specs.NamePlaces.{NamePlace}
use Rattle.names.specs.Symbols.{Rows, column, row_at}
use Rattle.rules.specs.PatternLaws.{arities_of}
use Rattle.signature.specs.Storage.{SignatureStore, symbols_in}
use Rattle.load_storage.specs.Storage.{zero_pair}
use Rattle.sessions.specs.declared.SessionCounts.{SessionCounts}
use Rattle.sessions.specs.declared.StoredSession.{StoredSession}

-- The session's part: rows of names, words, and rows of bindings with their trail. Its terms have room for 65,536 variables, whatever the
-- limits of a call: so the words, bindings and proofs that one call leaves mean the same in every later one.
pub record SessionStore : Type 0 where
  pub names : Rows
  pub words : List ℕ
  pub bindings : Rows

-- That of buffers that are lent one by one,
abbrev pub session_store : Rows → List ℕ → Rows → SessionStore
session_store names words bindings = record { names = names; words = words; bindings = bindings }

-- and of a struct of references to them.
abbrev pub part_in : StoredSession → SessionStore
part_in s = session_store s.names.now s.words.now s.bindings.now

-- Scratch, zero before and after each call: links and marks by reference, and a stack.
pub record Workspace : Type 0 where
  pub links : Rows
  pub marks : Rows
  pub stack : Rows

-- What is denoted

-- A name's row: kind, start, length, sort, variable. The first four are those of a rule's variable.
unfoldable pub named_in : List ℕ → List ℕ → Named
named_in text row = record { name = record { text = name_in text row; sort = column row 3 }; variable = column row 4 }

-- The first n rows.
unfoldable pub names_in : List ℕ → Rows → ℕ → List Named
names_in text rows n = map (named_in text) (take n rows)

-- The session that storage denotes.
abbrev pub session_of : List ℕ → SessionStore → SessionCounts → Session
session_of text b n =
    record {
      names = names_in text b.names n.names;
      variables = n.variables;
      bindings = held term_room b.words b.bindings n.bound;
      words = n.words;
    }

-- The listed form

-- A name's row in form: a word of 1 to 64 bytes in the text, a sort that there is, and a variable that was made.
pub record NameFormed (text : List ℕ) (sorts variables : ℕ) (row : List ℕ) : Type 0 where
  pub kind : (column row 0 ≡ name_kind) ⊎ (column row 0 ≡ metavariable_kind)
  pub place : NamePlace text (column row 1) (column row 2)
  pub sorted : 0 < column row 3
  pub sort : column row 3 ≤ sorts
  pub variable : column row 4 < variables

-- The listed form of a session, over a signature with so many sorts and symbols of these arities. It goes by document 01's limits and by
-- what is lent, and not by the limits of a call. What lies past the counts is not looked at, but for the rows of bindings, which are zero
-- there.
pub record SessionListed (text arities : List ℕ) (sorts : ℕ) (b : SessionStore) (n : SessionCounts) : Type 0 where
  pub few_names : n.names ≤ 64
  pub few_variables : n.variables ≤ variable_limit
  pub few_bound : n.bound ≤ n.variables
  pub few_words : n.words ≤ word_limit
  pub names_lent : n.names ≤ length b.names
  -- names are in form, none stands twice, and their variables rise;
  pub named : (i : ℕ) → i < n.names → NameFormed text sorts n.variables (row_at b.names i)
  pub distinct : (i j : ℕ) → i < j → j < n.names → name_in text (row_at b.names i) ≡ name_in text (row_at b.names j) → ⊥
  pub rising : (i j : ℕ) → i < j → j < n.names → column (row_at b.names i) 4 < column (row_at b.names j) 4
  -- the words in use are nodes of the signature's symbols;
  pub words : in_form b.words 0 n.words term_room n.variables arities ≡ true
  -- and words and bindings are in form together: no binding leads back to its own variable.
  pub form : Form term_room b.words b.bindings n.variables n.words n.bound

-- The form over a stored signature.
abbrev pub SessionIn : List ℕ → SignatureStore → SessionStore → SessionCounts → Type 0
SessionIn text sg b n = SessionListed text (arities_of (symbols_in text sg)) sg.counts.sorts b n

-- The second text is the first with more bytes behind it: what stands in the first is undisturbed.
abbrev pub Extended : List ℕ → List ℕ → Type 0
Extended text text' = (more : List ℕ) × (text' ≡ text ++ more)

-- What is lent

-- Is a buffer shorter than the limits of a call ask?
abbrev pub is_short : ℕ → ℕ → ℕ → ℕ → ℕ → ℕ → ℕ → ℕ → Bool
is_short variables most names words bindings links marks stack =
    ltb names 64
    || (ltb words most
    || (ltb bindings variables || (ltb links (term_room + most) || (ltb marks (term_room + most) || ltb stack most))))

abbrev pub too_short : Limits → SessionStore → Workspace → Bool
too_short limits b s =
    is_short (capped_of limits).variables (capped_of limits).words (length b.names) (length b.words) (length b.bindings)
    (length s.links) (length s.marks) (length s.stack)

-- Rows of zeros.
abbrev pub zero_name : List ℕ
zero_name = replicate 5 0

abbrev pub zero_triple : List ℕ
zero_triple = replicate 3 0

-- Storage of the same sizes with zero throughout.
abbrev pub zero_store : SessionStore → SessionStore
zero_store b =
    record {
      names = replicate (length b.names) zero_name;
      words = replicate (length b.words) 0;
      bindings = replicate (length b.bindings) zero_pair;
    }

abbrev pub zero_space : Workspace → Workspace
zero_space s =
    record {
      links = replicate (length s.links) zero_pair;
      marks = replicate (length s.marks) zero_pair;
      stack = replicate (length s.stack) zero_triple;
    }

-- A new session has nothing in use.
abbrev pub no_counts : SessionCounts
no_counts = record { names = 0; variables = 0; bound = 0; words = 0 }

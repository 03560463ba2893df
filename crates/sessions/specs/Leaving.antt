-- How a session's part is left in form (document 01, the table: a refused goal restores the session, an unproved one keeps its names): what
-- code shows of the rows of new names, of words and of bindings, so that the laws of LeavingLaws end `prove`.
use Rattle.std.specs.Prelude.{ℕ, suc, ◌+◌, ◌≤◌, ◌<◌, ◌≡◌, true, ◌⊎◌, List, [], ◌∷◌, ◌++◌, map, length, get_or, take}
use Rattle.words.specs.Names.{name_kind, metavariable_kind}
use Rattle.arena.specs.Copies.{term_room}
use Rattle.arena.specs.Form.{in_form}
use Rattle.bindings.specs.Stored.{Form}
use Rattle.resolution.specs.Session.{Named, variable_limit, word_limit}
use Rattle.resolution.specs.Session as theory
use Rattle.names.specs.Names.{Name, Distinct, name_in}
use Rattle.names.specs.NamePlaces.{NamePlace}
use Rattle.names.specs.Symbols.{Rows, column, row_at}
use Rattle.load_storage.specs.Storage.{cleared_from}
use Rattle.sessions.specs.Storage.{SessionStore, zero_name}
use Rattle.sessions.specs.declared.SessionCounts.{SessionCounts}

-- The bytes of names.
abbrev pub texts_of : List Named → List Name
texts_of ns = map (λ n. n.name.text) ns

abbrev pub new_texts : List theory.Name → List Name
new_texts new = map (λ n. n.text) new

abbrev pub no_new : theory.Name
no_new = record { text = []; sort = 0 }

-- What holds of the names ns of a session and of the new names of a goal, where there are so many sorts.
pub record NamesFit (sorts : ℕ) (ns : List Named) (new : List theory.Name) : Type 0 where
  pub few : length ns + length new ≤ 64
  pub sorted : (i : ℕ) → i < length new → (0 < (get_or new i no_new).sort) × ((get_or new i no_new).sort ≤ sorts)
  pub distinct : Distinct (texts_of ns ++ new_texts new)

-- New names with variables from c on.
unfoldable pub numbered_from : ℕ → List theory.Name → List Named
numbered_from c [] = []
numbered_from c (n ∷ new) = record { name = n; variable = c } ∷ numbered_from (suc c) new

-- Rows for new names, behind the first n: each a word of the text, with its sort and the next variable.
pub record NewRows (text : List ℕ) (rows : Rows) (n c : ℕ) (new : List theory.Name) : Type 0 where
  pub kind : (i : ℕ) → i < length new → (column (row_at rows (n + i)) 0 ≡ name_kind) ⊎ (column (row_at rows (n + i)) 0 ≡ metavariable_kind)
  pub place : (i : ℕ) → i < length new → NamePlace text (column (row_at rows (n + i)) 1) (column (row_at rows (n + i)) 2)
  pub named : (i : ℕ) → i < length new → name_in text (row_at rows (n + i)) ≡ (get_or new i no_new).text
  pub sorted : (i : ℕ) → i < length new → column (row_at rows (n + i)) 3 ≡ (get_or new i no_new).sort
  pub numbered : (i : ℕ) → i < length new → column (row_at rows (n + i)) 4 ≡ c + i

-- The rows of names: the first are those at entry, behind them are rows for new names, and there are c variables.
pub record NamesKept (text : List ℕ) (b : SessionStore) (n : SessionCounts) (rows : Rows) (c : ℕ) (new : List theory.Name) : Type 0 where
  pub front : take n.names rows ≡ take n.names b.names
  pub lent : n.names + length new ≤ length rows
  pub behind : NewRows text rows n.names n.variables new
  pub later : n.variables + length new ≤ c

-- A session's part b' with counts n' made from b with n, where new names were entered.
pub record SessionMade (text arities : List ℕ) (b : SessionStore) (n : SessionCounts) (b' : SessionStore) (n' : SessionCounts)
    (new : List theory.Name) : Type 0 where
  pub names : NamesKept text b n b'.names n'.variables new
  pub number : n'.names ≡ n.names + length new
  pub few_variables : n'.variables ≤ variable_limit
  pub few_words : n'.words ≤ word_limit
  pub words : in_form b'.words 0 n'.words term_room n'.variables arities ≡ true
  pub form : Form term_room b'.words b'.bindings n'.variables n'.words n'.bound

-- Without a proof

-- The words in use and the rows of bindings are those at entry, and there are c variables.
pub record PartUnproved (b : SessionStore) (n : SessionCounts) (b' : SessionStore) (c : ℕ) : Type 0 where
  pub words : take n.words b'.words ≡ take n.words b.words
  pub words_lent : n.words ≤ length b'.words
  pub bindings : b'.bindings ≡ b.bindings
  pub later : n.variables ≤ c
  pub few : c ≤ variable_limit
  pub lent : c ≤ length b.bindings

-- The counts then.
abbrev pub grown_counts : SessionCounts → ℕ → ℕ → SessionCounts
grown_counts n more c = record { names = n.names + more; variables = c; bound = n.bound; words = n.words }

-- A session's part with zero past the counts.
abbrev pub cleared : SessionStore → SessionCounts → SessionStore
cleared b n = record {
  names = cleared_from zero_name n.names b.names;
  words = cleared_from 0 n.words b.words;
  bindings = b.bindings;
}

-- What lies past the counts of a session is zero, and so is the proof.
use Rattle.std.specs.Prelude.{◌≡◌, List, ℕ, length, replicate}
use Rattle.names.specs.Symbols.{Rows}
use Rattle.load_storage.specs.Storage.{cleared_from}
use Rattle.tree_rows.specs.Trees.{zero_tree}
use Rattle.sessions.specs.Storage.{zero_name}
use Rattle.search_machine.specs.declared.Store.{Store}
use Rattle.sessions.specs.declared.SessionCounts.{SessionCounts}

pub record PastCleared (n : SessionCounts) (names : Rows) (words : List ℕ) (proof names' : Rows) (words' : List ℕ) (proof' : Rows)
    : Type 0 where
  pub names_are : names' ≡ cleared_from zero_name n.names names
  pub words_are : words' ≡ cleared_from 0 n.words words
  pub proof_is : proof' ≡ replicate (length proof) zero_tree

-- The same with a store: bindings and scratch stand.
pub record ClearsPast (n : SessionCounts) (names : Rows) (s : Store) (names' : Rows) (s' : Store) : Type 0 where
  pub past : PastCleared n names s.words.now s.frames.now names' s'.words.now s'.frames.now
  pub bindings : s'.bindings.now ≡ s.bindings.now
  pub links : s'.links.now ≡ s.links.now
  pub marks : s'.marks.now ≡ s.marks.now
  pub stack : s'.stack.now ≡ s.stack.now

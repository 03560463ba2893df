-- What the contract of `prove` fixes: of two programs that meet it, answers, scratch and the session denoted are the same; without a proof
-- all that is written is the same but for the places of new names; refused, everything is; and of a proof the listing is the same.
-- Here are the definitions; the theorems about them are in proofs/ContractLaws.
use Rattle.std.specs.Prelude.{ℕ, ◌≡◌, List}
use Rattle.arena.specs.Copies.{term_room}
use Rattle.tree_rows.specs.Trees.{entries_from}
use Rattle.sessions.specs.Storage.{session_of}
use Rattle.sessions.specs.Promises.{Given, counts_after}
use Rattle.sessions.specs.Promises.{IsRefused, IsProved}
use Rattle.sessions.specs.declared.SessionCounts.{SessionCounts}
use Rattle.sessions.specs.Answers.{Proved}

-- Two outcomes of one call, alike in all that is fixed.
pub record Alike (text : List ℕ) (n : SessionCounts) (g g' : Given) : Type 0 where
  pub answer : g.answer ≡ g'.answer
  pub space : g.space ≡ g'.space
  pub session : session_of text g.store (counts_after n g.answer) ≡ session_of text g'.store (counts_after n g'.answer)
  pub words : (IsProved g.answer → ⊥) → g.store.words ≡ g'.store.words
  pub bindings : (IsProved g.answer → ⊥) → g.store.bindings ≡ g'.store.bindings
  pub proof : (IsProved g.answer → ⊥) → g.proof ≡ g'.proof
  pub names : IsRefused g.answer → g.store.names ≡ g'.store.names
  pub tree : (u nodes : ℕ) (m : SessionCounts) → g.answer ≡ Proved u nodes m
      → entries_from term_room g.store.words g.proof 0 nodes ≡ entries_from term_room g'.store.words g'.proof 0 nodes

-- Queries, stores and buffers as the contracts of sessions have them.
use Rattle.std.specs.Prelude.{ℕ, List}
use Rattle.names.specs.Symbols.{Rows}
use Rattle.search_machine.specs.declared.Store.{Store}
use Rattle.sessions.specs.Storage.{SessionStore, session_store}
use Rattle.sessions.specs.Promises.{Asked, Given}
use Rattle.sessions.specs.Answers.{Answer}
use Rattle.prover.specs.declared.Query.{Query}

abbrev pub asked_of : Query → Rows → Rows → Rows → Rows → Asked
asked_of q proof links marks stack =
    record {
      text = q.goal.text.now;
      limits = q.limits;
      rows = q.goal.rows.now;
      at = q.goal.at;
      steps = q.steps;
      depth = q.depth;
      proof = proof;
      space = record { links = links; marks = marks; stack = stack };
    }

abbrev pub given_of : Answer → Rows → List ℕ → Rows → Rows → Rows → Rows → Rows → Given
given_of answer names words bindings proof links marks stack =
    record {
      answer = answer;
      store = session_store names words bindings;
      proof = proof;
      space = record { links = links; marks = marks; stack = stack };
    }

-- The same with a store.
abbrev pub asked_in : Query → Store → Asked
asked_in q s = asked_of q s.frames.now s.links.now s.marks.now s.stack.now

abbrev pub session_in : Rows → Store → SessionStore
session_in names s = session_store names s.words.now s.bindings.now

abbrev pub given_in : Answer → Rows → Store → Given
given_in answer names s = given_of answer names s.words.now s.bindings.now s.frames.now s.links.now s.marks.now s.stack.now

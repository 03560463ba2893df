-- What `horn_prove_cleared` answers.
use Rattle.std.specs.Prelude.{ℕ, ◌≡◌, List}
use Rattle.names.specs.Symbols.{Rows}
use Rattle.signature.specs.Storage.{SignatureStore}
use Rattle.sessions.specs.Storage.{SessionStore, Workspace}
use Rattle.sessions.specs.Promises.{Asked}
use Rattle.sessions.specs.Answers.{Answer}
use Rattle.sessions.specs.declared.SessionCounts.{SessionCounts}
use Rattle.prover.specs.Proving.{ProveLeft}
use Rattle.capi.specs.Sessions.{packed_proof, verdict_after}

-- `prove_cleared` told in numbers, as `capi::horn_prove` tells `prove`.
pub record ClearedTold (sg : SignatureStore) (k : Asked) (b : SessionStore) (n : SessionCounts) (results : List ℕ) (answer : ℕ)
    (b' : SessionStore) (proof' : Rows) (space' : Workspace) (results' : List ℕ) : Type 0 where
  pub given : Answer
  pub is : answer ≡ packed_proof given
  pub left : ProveLeft sg k b n (record { answer = given; store = b'; proof = proof'; space = space' })
  pub written : results' ≡ verdict_after given results

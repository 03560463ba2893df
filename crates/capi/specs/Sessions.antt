-- What `horn_open` and `horn_prove` answer.
use Rattle.std.specs.Prelude.{ℕ, ◌*◌, ◌^◌, ◌≤◌, ◌<◌, ◌≡◌, cond, Result, Ok, Err, List, [], ◌∷◌, eqb, length, get_or, replicate}
use Rattle.std.proofs.lemmas.List.Edits.{sets}
use Rattle.words.specs.declared.Limits.{Limits}
use Rattle.names.specs.Symbols.{Rows}
use Rattle.signature.specs.Storage.{SignatureStore}
use Rattle.sessions.specs.Storage.{SessionStore, Workspace}
use Rattle.sessions.specs.Promises.{Opening, Asked, Proving}
use Rattle.sessions.specs.declared.SessionCounts.{SessionCounts}
use Rattle.sessions.specs.declared.Verdict.{Verdict}
use Rattle.sessions.specs.declared.Verdict.TheVariants.{Proved as ProvedCase, Nothing as NothingCase, Undecided as UndecidedCase}
use Rattle.sessions.specs.Answers.{Answer, Refused, Proved, Nothing, Undecided}
use Rattle.refusals.specs.Refusals.{number_of}
use Rattle.refusals.specs.declared.Refusal.{Refusal}
use Rattle.capi.specs.Evaluation.{store_with}

-- Limits on steps, variables and words.
abbrev pub search_limits : ℕ → ℕ → ℕ → Limits
search_limits steps variables words = record { text = 0; nodes = 0; steps = steps; variables = variables; words = words }

-- 0 for a new session, or 2^32 times the refusal's number.
abbrev pub packed_opened : Result (Unit {0}) Refusal → ℕ
packed_opened (Err r) = number_of r * 2 ^ 32
packed_opened (Ok x) = 0

-- `open` told in a number.
pub record OpenedAs (variables words : ℕ) (b : SessionStore) (s : Workspace) (answer : ℕ) (b' : SessionStore) (s' : Workspace)
    : Type 0 where
  pub given : Result (Unit {0}) Refusal
  pub is : answer ≡ packed_opened given
  pub opening : Opening (search_limits 0 variables words) b s given b' s'

-- A session's four counts.
abbrev pub counts_in : List ℕ → SessionCounts
counts_in counts = record { names = get_or counts 0 0; variables = get_or counts 1 0; bound = get_or counts 2 0; words = get_or counts 3 0 }

-- An answer whose refusal is told by its number, whichever that is.
abbrev pub answer_of : Result Verdict ℕ → Answer
answer_of (Err e) = Refused e
answer_of (Ok (ProvedCase u nodes m)) = Proved u nodes m
answer_of (Ok (NothingCase u m)) = Nothing u m
answer_of (Ok (UndecidedCase u m)) = Undecided u m

-- 1 for a proof, 2 for none, 3 for undecided, or 2^32 times the refusal's number.
abbrev pub packed_proof : Answer → ℕ
packed_proof (Refused e) = e * 2 ^ 32
packed_proof (Proved u nodes m) = 1
packed_proof (Nothing u m) = 2
packed_proof (Undecided u m) = 3

-- The steps used, a proof's nodes, else 0, and the session's counts then, and zero behind them.
abbrev pub verdict_row : ℕ → ℕ → SessionCounts → List ℕ → List ℕ
verdict_row u nodes m results = sets (replicate (length results) 0) 0 (u ∷ nodes ∷ m.names ∷ m.variables ∷ m.bound ∷ m.words ∷ [])

-- The results: zero throughout for a refusal; 1 writes nothing.
abbrev pub verdict_after : Answer → List ℕ → List ℕ
verdict_after (Refused e) results = cond (eqb e 1) results (replicate (length results) 0)
verdict_after (Proved u nodes m) results = verdict_row u nodes m results
verdict_after (Nothing u m) results = verdict_row u 0 m results
verdict_after (Undecided u m) results = verdict_row u 0 m results

-- `prove` told in numbers.
pub record ProveTold (sg : SignatureStore) (k : Asked) (b : SessionStore) (n : SessionCounts) (results : List ℕ) (answer : ℕ)
    (b' : SessionStore) (proof' : Rows) (space' : Workspace) (results' : List ℕ) : Type 0 where
  pub given : Answer
  pub is : answer ≡ packed_proof given
  pub proving : Proving sg k b n (record { answer = given; store = b'; proof = proof'; space = space' })
  pub written : results' ≡ verdict_after given results

-- Refused by 1, and nothing is written.
pub record Unwritten (k : Asked) (b : SessionStore) (results : List ℕ) (answer : ℕ) (b' : SessionStore) (proof' : Rows) (space' : Workspace)
    (results' : List ℕ) : Type 0 where
  pub is : answer ≡ 1 * 2 ^ 32
  pub store : b' ≡ b
  pub proof : proof' ≡ k.proof
  pub space : space' ≡ k.space
  pub told : results' ≡ results

-- Fewer than four counts of the signature or of the session, or six results, give 1 too, and nothing is written.
pub record ProvedAs (sorts symbols rules : Rows) (words counts : List ℕ) (k : Asked) (b : SessionStore) (session results : List ℕ)
    (answer : ℕ) (b' : SessionStore) (proof' : Rows) (space' : Workspace) (results' : List ℕ) : Type 0 where
  pub few_counts : length counts < 4 → Unwritten k b results answer b' proof' space' results'
  pub few_of_session : length session < 4 → Unwritten k b results answer b' proof' space' results'
  pub few_results : length results < 6 → Unwritten k b results answer b' proof' space' results'
  pub enough : 4 ≤ length counts → 4 ≤ length session → 6 ≤ length results
      → ProveTold (store_with sorts symbols rules words counts) k b (counts_in session) results answer b' proof' space' results'

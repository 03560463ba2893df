-- What `horn_evaluate` and `horn_is_forward_call` answer.
use Rattle.std.specs.Prelude.{ℕ, ◌*◌, ◌^◌, ◌≤◌, ◌<◌, ◌≡◌, Bool, cond, Result, Ok, Err, List, [], ◌∷◌, eqb, length, get_or, replicate}
use Rattle.std.proofs.lemmas.List.Edits.{sets}
use Rattle.words.specs.declared.Limits.{Limits}
use Rattle.names.specs.Symbols.{Rows}
use Rattle.signature.specs.Storage.{SignatureStore}
use Rattle.signature.specs.declared.Counts.{Counts}
use Rattle.evaluator.specs.Storage.{Results}
use Rattle.evaluator.specs.Evaluating.{Evaluating, Forwarding}
use Rattle.function_calls.specs.declared.calls.Outcome.{Outcome}
use Rattle.refusals.specs.Refusals.{number_of}
use Rattle.refusals.specs.declared.Refusal.{Refusal}

-- A limit on words.
abbrev pub words_limit : ℕ → Limits
words_limit most = record { text = 0; nodes = 0; steps = 0; variables = 0; words = most }

-- The first four counts that `horn_load` leaves.
abbrev pub stored_counts : List ℕ → Counts
stored_counts counts = record { sorts = get_or counts 0 0; symbols = get_or counts 1 0; rules = get_or counts 2 0; words = get_or counts 3 0 }

-- A signature's storage with the first four counts that `horn_load` leaves.
abbrev pub store_with : Rows → Rows → Rows → List ℕ → List ℕ → SignatureStore
store_with sorts symbols rules words counts =
    record {
      sorts = sorts;
      symbols = symbols;
      rules = rules;
      words = words;
      counts = stored_counts counts;
    }

-- 0 for a value, or 2^32 times the refusal's number.
abbrev pub packed_evaluation : Result Outcome Refusal → ℕ
packed_evaluation (Ok e) = 0
packed_evaluation (Err r) = number_of r * 2 ^ 32

-- The value's reference, the number of calls and that of words, and zero behind them; zero throughout for a refusal; 1 writes nothing.
abbrev pub results_after : Result Outcome Refusal → List ℕ → List ℕ
results_after (Ok e) results = sets (replicate (length results) 0) 0 (e.value ∷ e.spent.calls ∷ e.spent.used ∷ [])
results_after (Err r) results = cond (eqb (number_of r) 1) results (replicate (length results) 0)

-- `evaluate` told in numbers.
pub record EvaluateTold (text : List ℕ) (limits : Limits) (sg : SignatureStore) (rows : Rows) (at : ℕ) (b : Results) (results : List ℕ) (answer : ℕ) (b' : Results)
    (results' : List ℕ) : Type 0 where
  pub given : Result Outcome Refusal
  pub is : answer ≡ packed_evaluation given
  pub evaluating : Evaluating text limits sg rows at b given b'
  pub written : results' ≡ results_after given results

-- Fewer than four counts or three results give 1 too, and nothing is written.
pub record EvaluatedAs (text : List ℕ) (most : ℕ) (sorts symbols rules : Rows) (words counts : List ℕ) (rows : Rows) (at : ℕ) (b : Results) (results : List ℕ)
    (answer : ℕ) (b' : Results) (results' : List ℕ) : Type 0 where
  pub few_counts : length counts < 4 → (answer ≡ 1 * 2 ^ 32) × (b' ≡ b) × (results' ≡ results)
  pub few_results : length results < 3 → (answer ≡ 1 * 2 ^ 32) × (b' ≡ b) × (results' ≡ results)
  pub enough : 4 ≤ length counts → 3 ≤ length results
      → EvaluateTold text (words_limit most) (store_with sorts symbols rules words counts) rows at b results answer b' results'

-- 1 for a forward call, 0 for a goal, or 2^32 times the refusal's number.
abbrev pub packed_forward : Result Bool Refusal → ℕ
packed_forward (Ok is_call) = cond is_call 1 0
packed_forward (Err r) = number_of r * 2 ^ 32

pub record ForwardTold (text : List ℕ) (sg : SignatureStore) (rows : Rows) (at answer : ℕ) : Type 0 where
  pub given : Result Bool Refusal
  pub is : answer ≡ packed_forward given
  pub forwarding : Forwarding text sg rows at given

pub record ForwardAs (text : List ℕ) (sorts symbols rules : Rows) (words counts : List ℕ) (rows : Rows) (at answer : ℕ) : Type 0 where
  pub few_counts : length counts < 4 → answer ≡ 1 * 2 ^ 32
  pub enough : 4 ≤ length counts → ForwardTold text (store_with sorts symbols rules words counts) rows at answer

-- What `horn_load` answers.
use Rattle.std.specs.Prelude.{ℕ, Ok, Err, ◌*◌, ◌^◌, ◌≤◌, ◌<◌, ◌≡◌, cond, List, [], ◌∷◌, eqb, length, replicate}
use Rattle.std.proofs.lemmas.List.Edits.{sets}
use Rattle.words.specs.declared.Limits.{Limits}
use Rattle.load_storage.specs.Storage.{Buffers}
use Rattle.load.specs.Load.{Loading}
use Rattle.load.specs.Loading.{LoadingText}
use Rattle.refusals.specs.Refusals.{number_of}
use Rattle.capi.specs.Words.{packed_rejection}

-- Limits on the text's bytes and the nodes in all.
abbrev pub load_limits : ℕ → ℕ → Limits
load_limits text nodes = record { text = text; nodes = nodes; steps = 0; variables = 0; words = 0 }

-- The number of declarations, or the refusal.
abbrev pub packed_loading : Loading → ℕ
packed_loading (Err r) = packed_rejection r
packed_loading (Ok l) = l.declarations

-- The counts: those of sorts, symbols, rules, words and waiting `#eval`, and zero behind them; zero throughout for a refused text; 1 writes nothing.
abbrev pub counts_after : Loading → List ℕ → List ℕ
counts_after (Err r) counts = cond (eqb (number_of r.refusal) 1) counts (replicate (length counts) 0)
counts_after (Ok l) counts =
    sets (replicate (length counts) 0) 0 (l.counts.sorts ∷ l.counts.symbols ∷ l.counts.rules ∷ l.counts.words ∷ l.evals ∷ [])

-- `load` told in numbers.
pub record LoadTold (text : List ℕ) (limits : Limits) (b : Buffers) (counts : List ℕ) (answer : ℕ) (b' : Buffers) (counts' : List ℕ) : Type 0 where
  pub given : Loading
  pub is : answer ≡ packed_loading given
  pub loading : LoadingText text limits b given b'
  pub counted : counts' ≡ counts_after given counts

-- Fewer than five counts give 1 too, and nothing is written.
pub record LoadedAs (text : List ℕ) (text_limit nodesLimit : ℕ) (b : Buffers) (counts : List ℕ) (answer : ℕ) (b' : Buffers) (counts' : List ℕ) : Type 0 where
  pub short : length counts < 5 → (answer ≡ 1 * 2 ^ 32) × (b' ≡ b) × (counts' ≡ counts)
  pub enough : 5 ≤ length counts → LoadTold text (load_limits text_limit nodesLimit) b counts answer b' counts'

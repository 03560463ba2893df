-- What the functions of `load` that clear storage, and the one that goes on behind the parser, ask and owe.
use Rattle.std.specs.Prelude.{ℕ, ◌*◌, ◌+◌, ◌-◌, ◌≤◌, ◌≡◌, Ok, List, ◌++◌, length, take, drop, replicate}
use Rattle.words.specs.Lexer.{zero_row}
use Rattle.term_parser.specs.Rows.{rows_of_all}
use Rattle.parser.specs.Declarations.{Declared}
use Rattle.parser.specs.Rows.{declared_rows}
use Rattle.names.specs.Symbols.{Rows}
use Rattle.loader.specs.Signature.{Signature, Loaded, refused, loaded, load_of}
use Rattle.loader.specs.PlaceLaws.{TitlesInside}
use Rattle.loader.specs.Stored.{titles_of}
use Rattle.declarations.specs.Held.{Held}
use Rattle.declarations.specs.declared.State.{State}
use Rattle.load_storage.specs.Storage.{Buffers, zero_pair, zero_symbol, zero_rule, wiped}
use Rattle.load.specs.Load.{Loading, RejectedBy, evals_from}

-- What `load_rows` asks: declarations in the first `used` rows, zero past them, and storage of the listed sizes.
pub record RowsAsked (text : List ℕ) (limit n used : ℕ) (tokens rows calls sorts symbols rules : Rows) (words : List ℕ) (evals : Rows) : Type 0 where
  pub declared : (ds : List Declared) × (take used rows ≡ rows_of_all declared_rows ds) × (n ≡ length ds) × TitlesInside text ds
  pub within : used ≤ length rows
  pub limited : limit ≤ 32768
  pub short : used ≤ 65536
  pub sorts_lent : 256 ≤ length sorts
  pub symbols_lent : 1024 ≤ length symbols
  pub rules_lent : 1024 ≤ length rules
  pub words_lent : 2 * limit ≤ length words
  pub evals_lent : used ≤ 2 * length evals + 1
  pub tokens_lent : used ≤ length tokens
  pub calls_lent : used + 32 ≤ length calls

-- What it leaves of a signature that is refused or loaded.
pub record RowsKept (text : List ℕ) (limit n : ℕ) (b : Buffers) (ds : List Declared) (s : Signature) (r : Loading) (b' : Buffers) : Type 0 where
  pub state : State
  pub answer : r ≡ Ok (record { declarations = n; evals = length (evals_from 0 ds); counts = record { sorts = state.sorts; symbols = state.symbols; rules = state.rules; words = state.used } })
  pub held : Held text limit (titles_of ds) s b'.sorts b'.symbols b'.rules b'.words state
  pub sorts_clear : drop state.sorts b'.sorts ≡ replicate (length b.sorts - state.sorts) zero_pair
  pub symbols_clear : drop state.symbols b'.symbols ≡ replicate (length b.symbols - state.symbols) zero_symbol
  pub rules_clear : drop state.rules b'.rules ≡ replicate (length b.rules - state.rules) zero_rule
  pub words_clear : drop state.used b'.words ≡ replicate (length b.words - state.used) 0
  pub rows : b'.rows ≡ b.rows
  pub evals : b'.evals ≡ evals_from 0 ds ++ replicate (length b.evals - length (evals_from 0 ds)) zero_pair
  pub tokens : b'.tokens ≡ replicate (length b.tokens) zero_row
  pub calls : b'.calls ≡ replicate (length b.calls) zero_row

abbrev pub RowsLeft : List ℕ → ℕ → ℕ → Buffers → List Declared → Loaded → Loading → Buffers → Type 0
RowsLeft text limit n b ds (refused e line) r b' = RejectedBy e line r × (b' ≡ wiped b)
RowsLeft text limit n b ds (loaded s) r b' = RowsKept text limit n b ds s r b'

pub record RowsLoaded (text : List ℕ) (limit n used : ℕ) (b : Buffers) (r : Loading) (b' : Buffers) : Type 0 where
  pub same : (ds : List Declared) → take used b.rows ≡ rows_of_all declared_rows ds → n ≡ length ds → TitlesInside text ds
      → RowsLeft text limit n b ds (load_of limit text ds) r b'

-- The contract of `load`: the answer and every lent buffer, on all inputs.
use Rattle.std.specs.Prelude.{ℕ, ◌≡◌, true, false, cond, Ok, Err, List, [], ◌∷◌, length, replicate}
use Rattle.words.specs.Lexer.{zero_row}
use Rattle.source_text.specs.Answers.{Told, answers, refuses}
use Rattle.words.specs.declared.Limits.{Limits}
use Rattle.parser.specs.Declarations.{Declared}
use Rattle.parser.specs.Parser.{text_of, rows_after}
use Rattle.names.specs.Symbols.{sorts_of, symbols_of}
use Rattle.loader.specs.Signature.{Signature, Loaded, refused, loaded}
use Rattle.loader.specs.Stored.{titles_of, sort_rows, symbol_rows, rule_rows, words_from, padded}
use Rattle.signature.specs.Form.{rules_of, Listed}
use Rattle.load_storage.specs.Storage.{Buffers, too_short, zero_pair, zero_symbol, zero_rule, wiped}
use Rattle.refusals.specs.Refusals.{number_of}
use Rattle.load.specs.Load.{Loading, RejectedBy, declared_in, load_text, evals_from}

-- All that is left of a text with the declarations ds and the signature s: the stored signature, the declarations' rows, the line of
-- each `#eval` with the row of its term, and zero past these and in the scratch. So no two programs that load a text differ in a byte.
abbrev pub stored_of : List ℕ → Limits → List Declared → Signature → Buffers → Buffers
stored_of text limits ds s b =
    record {
      tokens = replicate (length b.tokens) zero_row;
      rows = rows_after (length b.rows) (text_of text limits);
      calls = replicate (length b.calls) zero_row;
      sorts = padded zero_pair (length b.sorts) (sort_rows (titles_of ds).sorts);
      symbols = padded zero_symbol (length b.symbols) (symbol_rows (titles_of ds).symbols s.symbols);
      rules = padded zero_rule (length b.rules) (rule_rows (titles_of ds).rules s.rules 0);
      words = padded 0 (length b.words) (words_from s.rules 0);
      evals = padded zero_pair (length b.evals) (evals_from 0 ds);
    }

-- The signature s of the declarations ds was loaded.
pub record LoadedInto (text : List ℕ) (limits : Limits) (b : Buffers) (ds : List Declared) (s : Signature)
    (r : Loading) (b' : Buffers) : Type 0 where
  -- How many declarations and waiting `#eval` there are, and how many of each kind are stored; and every buffer, whole.
  pub answer : r ≡ Ok (record {
    declarations = length ds;
    evals = length (evals_from 0 ds);
    counts = record {
      sorts = length s.sorts;
      symbols = length s.symbols;
      rules = length s.rules;
      words = length (words_from s.rules 0);
    };
  })
  pub stored : b' ≡ stored_of text limits ds s b
  -- Each sort, symbol and rule has its title, so there are as many rows as are counted.
  pub sort_titles : length (titles_of ds).sorts ≡ length s.sorts
  pub symbol_titles : length (titles_of ds).symbols ≡ length s.symbols
  pub rule_titles : length (titles_of ds).rules ≡ length s.rules
  -- These rows and words denote the signature,
  pub sorts_are : sorts_of text b'.sorts (length s.sorts) ≡ s.sorts
  pub symbols_are : symbols_of text b'.symbols (length s.symbols) ≡ s.symbols
  pub rules_are : rules_of text b'.words b'.rules (length s.rules) ≡ s.rules
  -- and are in the listed form, which `check_signature` accepts.
  pub listed : Listed text b'.sorts b'.symbols b'.rules b'.words
      (length s.sorts) (length s.symbols) (length s.rules) (length (words_from s.rules 0))

-- What is left of a text that is refused, by number and line, or loaded.
abbrev pub Left : List ℕ → Limits → Buffers → List Declared → Loaded → Loading → Buffers → Type 0
Left text limits b ds (refused e line) r b' = RejectedBy e line r × (b' ≡ wiped b)
Left text limits b ds (loaded s) r b' = LoadedInto text limits b ds s r b'

-- The answer by the paper's numbers: how many declarations and waiting `#eval` there are, and how many sorts, symbols, rules and words; or the refusal.
abbrev pub loading_told : Loading → Told
loading_told (Err j) = refuses (number_of j.refusal) j.line
loading_told (Ok l) = answers (l.declarations ∷ l.evals ∷ l.counts.sorts ∷ l.counts.symbols ∷ l.counts.rules ∷ l.counts.words ∷ [])

-- The same of what the definitions come to.
abbrev pub loaded_told : List Declared → Loaded → Told
loaded_told ds (refused e line) = refuses e line
loaded_told ds (loaded s) =
    answers
    (length ds
    ∷ length (evals_from 0 ds)
    ∷ length s.sorts
    ∷ length s.symbols
    ∷ length s.rules
    ∷ length (words_from s.rules 0)
    ∷ [])

-- A buffer that is too short gives 1, and nothing is written.
pub record LoadingText (text : List ℕ) (limits : Limits) (b : Buffers) (r : Loading) (b' : Buffers) : Type 0 where
  pub told : loading_told r ≡ cond (too_short limits b) (refuses 1 0) (loaded_told (declared_in (text_of text limits)) (load_text text limits))
  pub short : too_short limits b ≡ true → RejectedBy 1 0 r × (b' ≡ b)
  pub enough : too_short limits b ≡ false → Left text limits b (declared_in (text_of text limits)) (load_text text limits) r b'

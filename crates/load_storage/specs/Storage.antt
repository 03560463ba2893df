-- What `load` is lent (docs/STORAGE.md): its buffers, how long they must be, and what it is for them to be cleared.
use Rattle.std.specs.Prelude.{ℕ, ◌+◌, ◌-◌, ◌*◌, ◌/◌, ◌≡◌, Bool, ◌||◌, List, [], ◌∷◌, ◌++◌, ltb, length, take, replicate}
use Rattle.words.specs.Lexer.{capped_of, zero_row}
use Rattle.words.specs.declared.Limits.{Limits}
use Rattle.names.specs.Symbols.{Rows}

-- All that a caller lends.
pub record Buffers : Type 0 where
  pub tokens : Rows
  pub rows : Rows
  pub calls : Rows
  pub sorts : Rows
  pub symbols : Rows
  pub rules : Rows
  pub words : List ℕ
  pub evals : Rows

-- Is a buffer of these lengths shorter than docs/STORAGE.md lists, where so many bytes and nodes are allowed?
abbrev pub short_by : ℕ → ℕ → ℕ → ℕ → ℕ → ℕ → ℕ → ℕ → ℕ → ℕ → Bool
short_by text nodes tokens rows calls sorts symbols rules words evals =
    ltb tokens text
    || (ltb rows text || (ltb calls (text + 32) || (ltb sorts 256 || (ltb symbols 1024 || (ltb rules 1024 || (ltb words (2 * nodes) || ltb evals (text / 2)))))))

abbrev pub is_short : Limits → ℕ → ℕ → ℕ → ℕ → ℕ → ℕ → ℕ → ℕ → Bool
is_short limits tokens rows calls sorts symbols rules words evals = short_by (capped_of limits).text (capped_of limits).nodes tokens rows calls sorts symbols rules words evals

abbrev pub too_short : Limits → Buffers → Bool
too_short limits b =
    is_short limits (length b.tokens) (length b.rows) (length b.calls) (length b.sorts) (length b.symbols) (length b.rules) (length b.words) (length b.evals)

-- Rows of zeros.
abbrev pub zero_pair : List ℕ
zero_pair = 0 ∷ 0 ∷ []

abbrev pub zero_symbol : List ℕ
zero_symbol = replicate 24 0

abbrev pub zero_rule : List ℕ
zero_rule = replicate 154 0

-- Zero from the item n on.
abbrev pub cleared_from : {A : Type 0} → A → ℕ → List A → List A
cleared_from z n l = take n l ++ replicate (length l - n) z

-- Zero throughout.
abbrev pub wiped : Buffers → Buffers
wiped b =
    record {
      tokens = replicate (length b.tokens) zero_row;
      rows = replicate (length b.rows) zero_row;
      calls = replicate (length b.calls) zero_row;
      sorts = replicate (length b.sorts) zero_pair;
      symbols = replicate (length b.symbols) zero_symbol;
      rules = replicate (length b.rules) zero_rule;
      words = replicate (length b.words) 0;
      evals = replicate (length b.evals) zero_pair;
    }

-- A signature's storage is zero from the counts on.
pub record SignatureCleared (sorts symbols rules : Rows) (words : List ℕ) (n m k u : ℕ) (sorts' symbols' rules' : Rows) (words' : List ℕ) : Type 0 where
  pub sorts_are_lem : sorts' ≡ cleared_from zero_pair n sorts
  pub symbols_are_lem : symbols' ≡ cleared_from zero_symbol m symbols
  pub rules_are_lem : rules' ≡ cleared_from zero_rule k rules
  pub words_are : words' ≡ cleared_from 0 u words

-- The scratch is zero, and so are the rows of `#eval` from a count on.
pub record ScratchCleared (tokens calls evals : Rows) (n : ℕ) (tokens' calls' evals' : Rows) : Type 0 where
  pub tokens_are : tokens' ≡ cleared_from zero_row 0 tokens
  pub calls_are : calls' ≡ cleared_from zero_row 0 calls
  pub evals_are : evals' ≡ cleared_from zero_pair n evals

-- Every buffer is zero throughout.
pub record Wiped (b b' : Buffers) : Type 0 where
  pub is : b' ≡ wiped b

-- A buffer holds the same in each place, and is as long as it was.
abbrev pub Filled : {A : Type 0} → A → List A → List A → Type 0
Filled a before after = after ≡ replicate (length before) a

-- Every number of every buffer is the value.
pub record AllFilled (value : ℕ) (b b' : Buffers) : Type 0 where
  pub tokens : Filled (replicate 4 value) b.tokens b'.tokens
  pub rows : Filled (replicate 4 value) b.rows b'.rows
  pub calls : Filled (replicate 4 value) b.calls b'.calls
  pub sorts : Filled (replicate 2 value) b.sorts b'.sorts
  pub symbols : Filled (replicate 24 value) b.symbols b'.symbols
  pub rules : Filled (replicate 154 value) b.rules b'.rules
  pub words : Filled value b.words b'.words
  pub evals : Filled (replicate 2 value) b.evals b'.evals

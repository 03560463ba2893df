-- What `load` is lent, in one struct.
use Rattle.std.specs.Prelude.{◌≡◌, length}
use Rattle.std.proofs.Common.{refl, ◌∙◌}
use Rattle.load_storage.specs.Storage.{Buffers}
use Rattle.load_storage.specs.declared.LentBuffers.{LentBuffers}
use Rattle.load_storage.specs.declared.Lengths.{Lengths}

-- What the struct refers to.
abbrev pub buffers_of : LentBuffers → Buffers
buffers_of b =
    record {
      tokens = b.tokens.now;
      rows = b.rows.now;
      calls = b.calls.now;
      sorts = b.sorts.now;
      symbols = b.symbols.now;
      rules = b.rules.now;
      words = b.words.now;
      evals = b.evals.now;
    }

-- How long buffers are.
abbrev pub lengths_of : Buffers → Lengths
lengths_of b =
    record {
      tokens = length b.tokens;
      rows = length b.rows;
      calls = length b.calls;
      sorts = length b.sorts;
      symbols = length b.symbols;
      rules = length b.rules;
      words = length b.words;
      evals = length b.evals;
    }

-- The same buffers are lent, as long as they were.
pub record IsLent (b b' : LentBuffers) : Type 0 where
  pub tokens : b'.tokens.ghost_name ≡ b.tokens.ghost_name
  pub rows : b'.rows.ghost_name ≡ b.rows.ghost_name
  pub calls : b'.calls.ghost_name ≡ b.calls.ghost_name
  pub sorts : b'.sorts.ghost_name ≡ b.sorts.ghost_name
  pub symbols : b'.symbols.ghost_name ≡ b.symbols.ghost_name
  pub rules : b'.rules.ghost_name ≡ b.rules.ghost_name
  pub words : b'.words.ghost_name ≡ b.words.ghost_name
  pub evals : b'.evals.ghost_name ≡ b.evals.ghost_name
  pub tokens_long : length b'.tokens.now ≡ length b.tokens.now
  pub rows_long : length b'.rows.now ≡ length b.rows.now
  pub calls_long : length b'.calls.now ≡ length b.calls.now
  pub sorts_long : length b'.sorts.now ≡ length b.sorts.now
  pub symbols_long : length b'.symbols.now ≡ length b.symbols.now
  pub rules_long : length b'.rules.now ≡ length b.rules.now
  pub words_long : length b'.words.now ≡ length b.words.now
  pub evals_long : length b'.evals.now ≡ length b.evals.now

-- Laws

pub lent_start : {b : LentBuffers} → IsLent b b
lent_start =
    record {
      tokens = refl;
      rows = refl;
      calls = refl;
      sorts = refl;
      symbols = refl;
      rules = refl;
      words = refl;
      evals = refl;
      tokens_long = refl;
      rows_long = refl;
      calls_long = refl;
      sorts_long = refl;
      symbols_long = refl;
      rules_long = refl;
      words_long = refl;
      evals_long = refl;
    }

pub lent_on : {b b' b'' : LentBuffers} → IsLent b b' → IsLent b' b'' → IsLent b b''
lent_on h k =
    record {
      tokens = k.tokens ∙ h.tokens;
      rows = k.rows ∙ h.rows;
      calls = k.calls ∙ h.calls;
      sorts = k.sorts ∙ h.sorts;
      symbols = k.symbols ∙ h.symbols;
      rules = k.rules ∙ h.rules;
      words = k.words ∙ h.words;
      evals = k.evals ∙ h.evals;
      tokens_long = k.tokens_long ∙ h.tokens_long;
      rows_long = k.rows_long ∙ h.rows_long;
      calls_long = k.calls_long ∙ h.calls_long;
      sorts_long = k.sorts_long ∙ h.sorts_long;
      symbols_long = k.symbols_long ∙ h.symbols_long;
      rules_long = k.rules_long ∙ h.rules_long;
      words_long = k.words_long ∙ h.words_long;
      evals_long = k.evals_long ∙ h.evals_long;
    }

-- Laws of a loaded text: each buffer by itself, and zero past the counts.
use Rattle.std.specs.Prelude.{ℕ, ◌-◌, ◌≡◌, refl, List, ◌++◌, length, drop, replicate}
use Rattle.std.proofs.Common.{ap, ◌∙◌, drop_at}
use Rattle.std.proofs.lemmas.List.{length-map}
use Rattle.words.specs.Lexer.{zero_row}
use Rattle.words.specs.declared.Limits.{Limits}
use Rattle.parser.specs.Declarations.{Declared}
use Rattle.parser.specs.Parser.{text_of, rows_after}
use Rattle.loader.specs.Signature.{Signature}
use Rattle.loader.specs.Stored.{titles_of, sort_row, sort_rows, symbol_rows, rule_rows, words_from, padded}
use Rattle.loader.specs.StoredLaws.{symbol_rows_length, rule_rows_length}
use Rattle.load.specs.Load.{Loading, evals_from}
use Rattle.load_storage.specs.Storage.{Buffers, zero_pair, zero_symbol, zero_rule}
use Rattle.load.specs.Loading.{LoadedInto}

-- Past a list of k items is z.
padded_past : {A : Type 0} (z : A) (n : ℕ) (l : List A) (k : ℕ) → length l ≡ k → drop k (padded z n l) ≡ replicate (n - k) z
padded_past z n l k e = drop_at l (replicate (n - length l) z) k e ∙ ap (λ (i : ℕ). replicate (n - i) z) e

module _ {text : List ℕ} {limits : Limits} {b : Buffers} {ds : List Declared} {s : Signature} {r : Loading} {b' : Buffers}
    (h : LoadedInto text limits b ds s r b') where
  -- Zero past the counts.
  pub sorts_clear_lem : drop (length s.sorts) b'.sorts ≡ replicate (length b.sorts - length s.sorts) zero_pair
  sorts_clear_lem =
      ap (λ (x : Buffers). drop (length s.sorts) x.sorts) h.stored
      ∙ padded_past zero_pair (length b.sorts) (sort_rows (titles_of ds).sorts) (length s.sorts)
      (length-map (titles_of ds).sorts sort_row ∙ h.sort_titles)

  pub symbols_clear_lem : drop (length s.symbols) b'.symbols ≡ replicate (length b.symbols - length s.symbols) zero_symbol
  symbols_clear_lem =
      ap (λ (x : Buffers). drop (length s.symbols) x.symbols) h.stored
      ∙ padded_past zero_symbol (length b.symbols) (symbol_rows (titles_of ds).symbols s.symbols) (length s.symbols)
      (symbol_rows_length (titles_of ds).symbols s.symbols h.symbol_titles)

  pub rules_clear_lem : drop (length s.rules) b'.rules ≡ replicate (length b.rules - length s.rules) zero_rule
  rules_clear_lem =
      ap (λ (x : Buffers). drop (length s.rules) x.rules) h.stored
      ∙ padded_past zero_rule (length b.rules) (rule_rows (titles_of ds).rules s.rules 0) (length s.rules)
      (rule_rows_length (titles_of ds).rules s.rules 0 h.rule_titles)

  pub words_clear_lem : drop (length (words_from s.rules 0)) b'.words ≡ replicate (length b.words - length (words_from s.rules 0)) 0
  words_clear_lem =
      ap (λ (x : Buffers). drop (length (words_from s.rules 0)) x.words) h.stored
      ∙ padded_past 0 (length b.words) (words_from s.rules 0) (length (words_from s.rules 0)) refl

  -- The declarations' rows, the waiting `#eval`, and the scratch.
  pub rows_are : b'.rows ≡ rows_after (length b.rows) (text_of text limits)
  rows_are = ap (λ (x : Buffers). x.rows) h.stored

  pub evals_are : b'.evals ≡ evals_from 0 ds ++ replicate (length b.evals - length (evals_from 0 ds)) zero_pair
  evals_are = ap (λ (x : Buffers). x.evals) h.stored

  pub tokens_are : b'.tokens ≡ replicate (length b.tokens) zero_row
  tokens_are = ap (λ (x : Buffers). x.tokens) h.stored

  pub calls_are : b'.calls ≡ replicate (length b.calls) zero_row
  calls_are = ap (λ (x : Buffers). x.calls) h.stored

-- Laws of stored rows: the names that they keep, where they denote a signature whose names are whole.
use Rattle.std.specs.Prelude.{ℕ, ◌+◌, ◌<◌, ◌≡◌, ◌↔◌, length, get_or}
use Rattle.std.proofs.Common.{arith, ◌∙◌, length-append, get_or-append-add}
use Rattle.std.proofs.Math.Path.{sym, ap}
use mathlib.Core.List.{List, [], map}
use Rattle.std.proofs.lemmas.List.{length-map}
use Rattle.std.proofs.Math.ListN.{get_or-append, get_or-map}
use Rattle.term_parser.specs.Standing.{bytes_at}
use Rattle.parser.specs.Declarations.{Declared}
use Rattle.names.specs.Names.{Name}
use Rattle.names.specs.Symbols.{Symbol, row_at, sort_of as name_in, symbol_of, sorts_of, symbols_of, no_symbol}
use Rattle.loader.specs.Signature.{Signature}
use Rattle.loader.specs.Legal.{names_of}
use Rattle.load_storage.specs.Storage.{Buffers}
use Rattle.whole_names.specs.ListLaws.{of_rows}
use Rattle.loader.specs.Stored.{titles_of}
use Rattle.whole_names.specs.Titles.{spelling}
use Rattle.whole_names.specs.NamesWhole.{NamesWhole}

-- Rows that denote a signature whose names are whole
module _ (text : List ℕ) (ds : List Declared) (s : Signature) (names : NamesWhole text ds s) (b : Buffers)
    (sorts_are : sorts_of text b.sorts (length s.sorts) ≡ s.sorts)
    (symbols_are : symbols_of text b.symbols (length s.symbols) ≡ s.symbols) where
  abbrev symbol_names : List Name
  symbol_names = map (λ f. f.name) s.symbols

  abbrev sort_row : ℕ → List ℕ
  sort_row i = row_at b.sorts i

  abbrev symbol_row : ℕ → List ℕ
  symbol_row i = row_at b.symbols i

  -- There are as many rows as names are declared.
  pub sort_count_lem : length s.sorts ≡ length (titles_of ds).sorts
  sort_count_lem = ap length names.sorts ∙ length-map (titles_of ds).sorts (bytes_at text)

  pub symbol_count_lem : length s.symbols ≡ length (titles_of ds).symbols
  symbol_count_lem = sym (length-map s.symbols (λ f. f.name)) ∙ ap length names.symbols ∙ length-map (titles_of ds).symbols (bytes_at text)

  pub rule_count_lem : length s.rules ≡ length (titles_of ds).rules
  rule_count_lem = sym (length-map s.rules (λ r. r.name)) ∙ ap length names.rules ∙ length-map (titles_of ds).rules (spelling text)

  -- The rows' names are those of the signature.
  sort_name : (i : ℕ) → i < length s.sorts → name_in text (sort_row i) ≡ get_or s.sorts i []
  unfolding sorts_of
  sort_name i l = of_rows (name_in text) b.sorts s.sorts [] sorts_are i l

  symbol_name : (i : ℕ) → i < length s.symbols → name_in text (symbol_row i) ≡ get_or symbol_names i []
  unfolding symbols_of symbol_of
  symbol_name i l =
      ap (λ (f : Symbol). f.name) (of_rows (symbol_of text) b.symbols s.symbols no_symbol symbols_are i l)
      ∙ sym (get_or-map (λ (f : Symbol). f.name) s.symbols i no_symbol)

  -- Two names of the sorts and symbols together
  abbrev all : List Name
  all = names_of s.sorts s.symbols

  all_long : length all ≡ length s.sorts + length s.symbols
  all_long = length-append s.sorts symbol_names ∙ ap (λ n. length s.sorts + n) (length-map s.symbols (λ f. f.name))

  sort_all : (i : ℕ) → i < length s.sorts → name_in text (sort_row i) ≡ get_or all i []
  sort_all i l = sort_name i l ∙ sym (get_or-append s.sorts symbol_names [] i l)

  symbol_all : (i : ℕ) → i < length s.symbols → name_in text (symbol_row i) ≡ get_or all (length s.sorts + i) []
  symbol_all i l = symbol_name i l ∙ sym (get_or-append-add s.sorts symbol_names i [])

  -- are equal exactly where they are one.
  same_name : (v w : Name) (i j : ℕ) → i < length all → j < length all → v ≡ get_or all i [] → w ≡ get_or all j [] → (v ≡ w) ↔ (i ≡ j)
  same_name v w i j l m p q = let o = names.once i j l m in (λ e. o.0 (sym p ∙ e ∙ q), λ e. p ∙ o.1 e ∙ sym q)

  pub one_sort_lem : (i j : ℕ) → i < length s.sorts → j < length s.sorts → (name_in text (sort_row i) ≡ name_in text (sort_row j)) ↔ (i ≡ j)
  one_sort_lem i j l m =
      let n = all_long in same_name (name_in text (sort_row i)) (name_in text (sort_row j)) i j (omega arith) (omega arith) (sort_all i l) (sort_all j m)

  pub one_symbol_lem : (i j : ℕ) → i < length s.symbols → j < length s.symbols
      → (name_in text (symbol_row i) ≡ name_in text (symbol_row j)) ↔ (i ≡ j)
  one_symbol_lem i j l m =
      let k : ℕ = length s.sorts in
      let n = all_long in
      let o = same_name (name_in text (symbol_row i)) (name_in text (symbol_row j)) (k + i) (k + j) (omega arith) (omega arith) (symbol_all i l) (symbol_all j m) in
      (λ e. (let q = o.0 e in omega arith), λ e. o.1 (ap (λ x. k + x) e))

  pub sort_symbol : (i j : ℕ) → i < length s.sorts → j < length s.symbols → name_in text (sort_row i) ≡ name_in text (symbol_row j) → ⊥
  sort_symbol i j l m e =
      let k : ℕ = length s.sorts in
      let n = all_long in
      let q = (same_name (name_in text (sort_row i)) (name_in text (symbol_row j)) i (k + j) (omega arith) (omega arith) (sort_all i l) (symbol_all j m)).0 e in
      omega arith

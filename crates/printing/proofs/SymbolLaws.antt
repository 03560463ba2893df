-- The symbols of printed terms, by their rows.
use Rattle.std.specs.Prelude.{ℕ, ◌+◌, ◌<◌, ◌≡◌, List, [], ◌∷◌, ◌++◌, cond, eqb, get_or, length}
use Rattle.std.proofs.Common.{sym, ap, ◌∙◌, length-append, ne_eqb}
use Rattle.std.proofs.lemmas.List.{get_or-map}
use Rattle.source_text.specs.Parts.{part_of}
use Rattle.names.specs.Symbols.{Symbol, symbol_of, symbol_at, no_symbol, column}
use Rattle.names.specs.declared.Word.{Word}
use Rattle.printing.specs.Terms.{closing, head_bytes, constant_bytes}
use Rattle.printing.specs.Written.{symbols_in}
use Rattle.printing.specs.declared.printed.PrintedTerms.{PrintedTerms}

module _ (p : PrintedTerms) (i : ℕ) (l : i < length p.symbols.now) where
  by_row : symbol_at (symbols_in p) i ≡ symbol_of p.text.now (get_or p.symbols.now i [])
  by_row = get_or-map (symbol_of p.text.now) p.symbols.now i [] no_symbol l

  -- A symbol's name stands in the text,
  pub is_name : {word : Word} {part : List ℕ} → part ≡ part_of p.text.now word.start word.size
      → word ≡ record { start = column (get_or p.symbols.now i []) 0; size = column (get_or p.symbols.now i []) 1 }
      → part ≡ (symbol_at (symbols_in p) i).name
  unfolding symbol_of
  is_name e w = e ∙ ap (λ (word : Word). part_of p.text.now word.start word.size) w ∙ sym (ap (λ (f : Symbol). f.name) by_row)

  -- and its output in its row.
  output_is : (symbol_at (symbols_in p) i).output ≡ column (get_or p.symbols.now i []) 2
  unfolding symbol_of
  output_is = ap (λ (f : Symbol). f.output) by_row

  bytes_by : ℕ → List ℕ
  bytes_by n = cond (eqb n 0) (head_bytes (symbol_at (symbols_in p) i) ++ (closing ∷ [])) (symbol_at (symbols_in p) i).name

  -- Alone, a predicate is written in parentheses,
  pub predicate_alone : column (get_or p.symbols.now i []) 2 ≡ 0
      → constant_bytes (symbol_at (symbols_in p) i) ≡ head_bytes (symbol_at (symbols_in p) i) ++ (closing ∷ [])
  unfolding bytes_by
  predicate_alone z = ap bytes_by (output_is ∙ z)

  pub predicate_length : column (get_or p.symbols.now i []) 2 ≡ 0
      → length (constant_bytes (symbol_at (symbols_in p) i)) ≡ length (head_bytes (symbol_at (symbols_in p) i)) + 1
  predicate_length z = ap length (predicate_alone z) ∙ length-append (head_bytes (symbol_at (symbols_in p) i)) (closing ∷ [])

  -- and a constructor as its name.
  pub constructor_alone : (column (get_or p.symbols.now i []) 2 ≡ 0 → ⊥) → constant_bytes (symbol_at (symbols_in p) i) ≡ (symbol_at (symbols_in p) i).name
  unfolding bytes_by
  constructor_alone z = ap bytes_by output_is ∙ rw (ne_eqb _ _ z)

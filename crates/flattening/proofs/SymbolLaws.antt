-- What a symbol's row and a term's row say of calls.
use mathlib.Core.Path.{◌≡◌, refl, sym, ap, ◌∙◌}
use Rattle.std.specs.Prelude.{Option, Some, None}
use Rattle.std.specs.List.{position}
use Rattle.std.specs.Option.{is_some}
use Rattle.source_text.specs.Bytes.{same_bytes}
use mathlib.Core.Bool.{Bool, true, false, cond}
use mathlib.Core.List.{List, [], map}
use Prim.Native.Nat.{ℕ, ◌≤◌, ◌<◌}
use native.Mathlib.Omega.{arith}
use lib.Dec.{eqb}
use lib.ListN.{length, take}
use borrow.Author.Tests.{lt-ltb, le-ltb, eq-eqb, ne_eqb, eqb-false}
use Rattle.words.specs.Names.{metavariable_kind, numeral_kind}
use Rattle.names.specs.Names.{Name}
use Rattle.names.specs.Symbols.{Rows, column, row_at, Symbol, sort_of, symbol_of, symbols_of, symbol_number, symbol_at, no_symbol}
use Rattle.names.specs.SearchLaws.{table_length, table_at, get_d_any}
use Rattle.names.specs.UsedLaws.{some_symbol, no_symbol as no_symbol_of}
use Rattle.flattening.specs.Flattening.{is_function}
use Rattle.flattening.specs.Promises.{is_call, callee_of}

-- The mark of the symbol that is found tells functions.
module _ (text : List ℕ) (rows : Rows) (n : ℕ) (h : n ≤ length rows) where
  symbols_length : length (symbols_of text rows n) ≡ n
  unfolding symbols_of
  symbols_length = table_length (symbol_of text) rows n h

  symbol_there : (i : ℕ) → i < n → symbol_at (symbols_of text rows n) i ≡ symbol_of text (row_at rows i)
  unfolding symbols_of
  symbol_there i l =
      get_d_any (map (symbol_of text) (take n rows)) i no_symbol (symbol_of text []) (rw (table_length (symbol_of text) rows n h) l)
      ∙ table_at (symbol_of text) rows n h i l

  module _ (w : Name) (i : ℕ) (e : i ≡ symbol_number (symbols_of text rows n) w) where
    pub function_found : i < n → eqb (column (row_at rows i) 3) 1 ≡ is_function (symbols_of text rows n) w
    unfolding symbol_of
    function_found l = simp (← e, symbols_length, lt-ltb i n l, symbol_there i l)

    pub function_absent : n ≤ i → false ≡ is_function (symbols_of text rows n) w
    function_absent l = simp (← e, symbols_length, le-ltb i n l)

-- A call is neither a metavariable nor a numeral.
module _ (symbols : List Symbol) (kind : ℕ) (w : Name) where
  pub call_of_lem : (kind ≡ metavariable_kind → ⊥) → (kind ≡ numeral_kind → ⊥) → is_call symbols kind w ≡ is_function symbols w
  call_of_lem a b = simp (ne_eqb kind metavariable_kind a, ne_eqb kind numeral_kind b)

  pub is_call_kind : is_call symbols kind w ≡ true → (kind ≡ metavariable_kind → ⊥) × (kind ≡ numeral_kind → ⊥)
  is_call_kind = go (eqb kind metavariable_kind) (eqb kind numeral_kind) refl refl
    where
      go : (a b : Bool) → eqb kind metavariable_kind ≡ a → eqb kind numeral_kind ≡ b → cond a false (cond b false (is_function symbols w)) ≡ true → (kind ≡ metavariable_kind → ⊥) × (kind ≡ numeral_kind → ⊥)
      go true b p q e = absurd (let z : ◌≡◌ {A = ℕ} 0 1 = cc in omega arith)
      go false true p q e = absurd (let z : ◌≡◌ {A = ℕ} 0 1 = cc in omega arith)
      go false false p q e = (eqb-false kind metavariable_kind p, eqb-false kind numeral_kind q)

  -- What the function that a row calls says of the row.
  pub is_callee : {o : Option ℕ} → o ≡ callee_of symbols kind w → is_some o ≡ is_call symbols kind w
  is_callee {o} e = ap is_some e ∙ go (is_call symbols kind w)
    where
      go : (b : Bool) → is_some (cond b (Some (symbol_number symbols w)) None) ≡ b
      go true = refl
      go false = refl

  pub callee_some : {i : ℕ} → Some i ≡ callee_of symbols kind w → (is_call symbols kind w ≡ true) × (i ≡ symbol_number symbols w)
  callee_some {i} = go (is_call symbols kind w)
    where
      go : (b : Bool) → Some i ≡ cond b (Some (symbol_number symbols w)) None → (b ≡ true) × (i ≡ symbol_number symbols w)
      go true h = (refl, cc)
      go false h = absurd (let z : ⊥ = cc in z)

-- What the symbol that is found, or none, says of the function that the row calls.
module _ (text : List ℕ) (rows : Rows) (kind : ℕ) (w : Name) (a : kind ≡ metavariable_kind → ⊥) (b : kind ≡ numeral_kind → ⊥) where
  abbrev table : List Symbol
  table = symbols_of text rows (length rows)

  callee_there : (f : Bool) → is_function table w ≡ f → callee_of table kind w ≡ cond f (Some (symbol_number table w)) None
  callee_there f e = ap (λ (c : Bool). cond c (Some (symbol_number table w)) None) (call_of_lem table kind w a b ∙ e)

  abbrev search : Option ℕ
  search = position (λ row. same_bytes (sort_of text row) w) rows

  pub callee_unknown : None ≡ search → None ≡ callee_of table kind w
  callee_unknown e = sym (callee_there false (sym (function_absent text rows (length rows) (omega arith) w _ refl (no_symbol_of text rows w e))))

  pub callee_other : {i : ℕ} → Some i ≡ search → (column (row_at rows i) 3 ≡ 1 → ⊥) → None ≡ callee_of table kind w
  callee_other {i} e f =
      let (q, l) = some_symbol text rows w i e in
      sym (callee_there false (sym (function_found text rows (length rows) (omega arith) w i q l) ∙ ne_eqb (column (row_at rows i) 3) 1 f))

  pub callee_found : {i : ℕ} → Some i ≡ search → column (row_at rows i) 3 ≡ 1 → Some i ≡ callee_of table kind w
  callee_found {i} e f =
      let (q, l) = some_symbol text rows w i e in
      ap Some q ∙ sym (callee_there true (sym (function_found text rows (length rows) (omega arith) w i q l) ∙ eq-eqb (column (row_at rows i) 3) 1 f))

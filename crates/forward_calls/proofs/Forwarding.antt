-- `is_forward_call`: one law for each way out.
use Prim.Native.Nat.{ℕ, suc, ◌-◌, ◌≤◌, ◌<◌}
use native.Mathlib.Omega.{arith}
use mathlib.Core.Path.{◌≡◌, refl, sym, ap, ◌∙◌, subst}
use mathlib.Core.Bool.{Bool, true, false, ◌&&◌, not, cond}
use mathlib.Core.List.{List}
use lib.Dec.{eqb, ltb}
use lib.ListN.{length}
use borrow.Author.Tests.{eq-eqb, ne_eqb, eqb-true, eqb-false, lt-ltb, ltb-true}
use Rattle.std.specs.Prelude.{Option, Some, None, position}
use Rattle.std.specs.Option.{SomeIff, option_eq}
use Rattle.std.proofs.Math.Bool.{and-false}
use Rattle.std.proofs.lemmas.Bool.{not-true, not-false}
use Rattle.std.proofs.Math.Seq.{take-length}
use Rattle.source_text.specs.Bytes.{same_bytes}
use Rattle.names.specs.SearchLaws.{symbol_some, symbol_none}
use Rattle.source_text.specs.ByteLaws.{and_left, and_right}
use Rattle.source_text.specs.Parts.{part_of}
use Rattle.term_parser.specs.Source.{one}
use Rattle.term_parser.specs.Standing.{Written, size, Stands}
use Rattle.names.specs.Names.{Name}
use Rattle.names.specs.Symbols.{Rows, Symbol, column, row_at, sort_of, symbols_of, symbol_at, symbol_number}
use Rattle.flattening.specs.Flattening.{is_function}
use Rattle.flattening.specs.Promises.{is_call, callee_of}
use Rattle.flattening.proofs.SymbolLaws.{is_callee, callee_some, is_call_kind, call_of_lem}
use Rattle.evaluation.specs.Expressions.{is_ground, is_called_with, is_forward_call}
use Rattle.forward_calls.specs.Ground.{GroundAsked, GroundAnswered}
use Rattle.forward_calls.specs.Forward.{ForwardAsked, ForwardAnswered}
use Rattle.forward_calls.proofs.Tables.{symbols_length, arity_at_lem}
use Rattle.forward_calls.proofs.Heads.{Head, head_of, row_within, number_row, meta_row}

-- The symbol that is found among all the rows, or that there is none.
module _ (text : List ℕ) (symbols : Rows) (w : List ℕ) where
  abbrev search : Rows → Option ℕ
  search rows = position (λ row. same_bytes (sort_of text row) w) rows

  pub some_symbol : {r : Option ℕ} (i : ℕ) → r ≡ Some i → r ≡ search symbols
      → (i ≡ symbol_number (symbols_of text symbols (length symbols)) w) × (i < length symbols)
  some_symbol i e f = symbol_some text symbols (length symbols) (omega arith) w i (sym e ∙ f ∙ ap search (sym (take-length symbols)))

  pub no_symbol : {r : Option ℕ} → r ≡ None → r ≡ search symbols → length symbols ≤ symbol_number (symbols_of text symbols (length symbols)) w
  no_symbol e f = symbol_none text symbols (length symbols) (omega arith) w (sym e ∙ f ∙ ap search (sym (take-length symbols)))

and_more : (a b c : Bool) → (a && b) ≡ false → (a && (b && c)) ≡ false
and_more true true c e = absurd (let z : ⊥ = cc in z)
and_more true false c e = refl
and_more false b c e = refl

-- A number less one, if there is one less, is compared with another.
one_more : {n m : ℕ} (o : Option ℕ) → SomeIff o (1 ≤ n) (n - 1) → not (option_eq eqb o (Some m)) ≡ false → suc m ≡ n
one_more None s e = absurd (let z : ⊥ = cc in z)
one_more {n} {m} (Some x) s e = let (l, q) = s in let p : x ≡ m = eqb-true x m (not-false (eqb x m) e) in omega arith

not_more : {n m : ℕ} (o : Option ℕ) → SomeIff o (1 ≤ n) (n - 1) → not (option_eq eqb o (Some m)) ≡ true → suc m ≡ n → ⊥
not_more {n} {m} None s e f = s (omega arith)
not_more {n} {m} (Some x) s e f = let (l, q) = s in eqb-false x m (not-true (eqb x m) e) (omega arith)

module _ {text : List ℕ} {rows : Rows} {at : ℕ} {symbols : Rows} (h : ForwardAsked text rows at symbols) where
  abbrev count : ℕ
  count = length symbols

  lent : count ≤ length symbols
  lent = omega arith

  abbrev kind : ℕ
  kind = column (row_at rows at) 0

  abbrev table : List Symbol
  table = symbols_of text symbols count

  pub inside : at < length rows
  inside = row_within text rows at h.next h.term h.stands

  pub of_numeral : kind ≡ 14 → ForwardAnswered text rows at symbols false
  unfolding is_forward_call
  of_numeral k = record { says = λ t q s. let (v, e, c, n) = number_row text rows at q t s k in subst (λ (x : Written one). false ≡ is_forward_call table x) (sym e) refl }

  pub of_meta : kind ≡ 13 → ForwardAnswered text rows at symbols false
  unfolding is_forward_call
  of_meta k = record { says = λ t q s. let (w, e) = meta_row text rows at q t s k in subst (λ (x : Written one). false ≡ is_forward_call table x) (sym e) refl }

  -- The name at the row.
  abbrev word : Name
  word = part_of text (column (row_at rows at) 1) (column (row_at rows at) 2)

  module _ (n : kind ≡ 14 → ⊥) (m : kind ≡ 13 → ⊥) {i : ℕ} (found : i ≡ symbol_number table word) where
    named : {t : Written one} {q : ℕ} (d : Head text rows at t q) → symbol_number table d.name ≡ i
    named d = sym (found ∙ ap (symbol_number table) d.written)

    -- What the name and the number of arguments say, in numbers.
    calls : {t : Written one} {q : ℕ} (d : Head text rows at t q) → is_called_with table d.name (size d.parts)
        ≡ (ltb i count && (eqb (symbol_at table i).function 1 && eqb (suc (column (row_at rows at) 3)) (length (symbol_at table i).inputs)))
    calls d = rw (named d, symbols_length text symbols count lent, ← d.counts)

    answer : (b : Bool) → ((ltb i count && (eqb (symbol_at table i).function 1 && eqb (suc (column (row_at rows at) 3)) (length (symbol_at table i).inputs))) ≡ b)
        → (r : Bool) → ((t : Written one) (q : ℕ) → Stands text rows at t q → r ≡ (b && is_ground t)) → ForwardAnswered text rows at symbols r
    answer b e r k = record { says = λ t q s. let d = head_of text rows at q t s n m in k t q s ∙ ap (λ (x : Bool). x && is_ground t) (sym (calls d ∙ e)) ∙ sym (d.forward table) }

  -- No function is called.
  pub of_none : None ≡ callee_of table kind word → ForwardAnswered text rows at symbols false
  of_none e = go (eqb kind 13) (eqb kind 14) refl refl (sym (is_callee table kind word e))
    where
      go : (a b : Bool) → eqb kind 13 ≡ a → eqb kind 14 ≡ b → cond a false (cond b false (is_function table word)) ≡ false → ForwardAnswered text rows at symbols false
      go true b p q f = of_meta (eqb-true kind 13 p)
      go false true p q f = of_numeral (eqb-true kind 14 q)
      go false false p q f =
          answer (eqb-false kind 14 q) (eqb-false kind 13 p) refl false
          (and_more (ltb (symbol_number table word) count) (eqb (symbol_at table (symbol_number table word)).function 1)
          (eqb (suc (column (row_at rows at) 3)) (length (symbol_at table (symbol_number table word)).inputs)) (rw (symbols_length text symbols count lent) at f)) false (λ t q s. refl)

  -- The function i is called.
  module _ {i : ℕ} (e : Some i ≡ callee_of table kind word) where
    calling : is_call table kind word ≡ true
    calling = (callee_some table kind word e).0

    found : i ≡ symbol_number table word
    found = (callee_some table kind word e).1

    no_meta : kind ≡ 13 → ⊥
    no_meta = (is_call_kind table kind word calling).0

    no_numeral : kind ≡ 14 → ⊥
    no_numeral = (is_call_kind table kind word calling).1

    is_there : (ltb i count && eqb (symbol_at table i).function 1) ≡ true
    is_there = rw (symbols_length text symbols count lent, ← found) at (sym (call_of_lem table kind word no_meta no_numeral) ∙ calling)

    pub within : i < length symbols
    within = ltb-true i count (and_left _ _ is_there)

    wrong_count : (suc (column (row_at rows at) 3) ≡ column (row_at symbols i) 6 → ⊥) → ForwardAnswered text rows at symbols false
    wrong_count f = answer no_numeral no_meta found false
        (rw (arity_at_lem text symbols count lent i within, ne_eqb (suc (column (row_at rows at) 3)) (column (row_at symbols i) 6) f, and-false (eqb (symbol_at table i).function 1)) (and-false (ltb i count))) false (λ t q s. refl)

    module _ (o : Option ℕ) (s : SomeIff o (1 ≤ column (row_at symbols i) 6) (column (row_at symbols i) 6 - 1)) where
      pub of_count : not (option_eq eqb o (Some (column (row_at rows at) 3))) ≡ true → ForwardAnswered text rows at symbols false
      of_count e = wrong_count (not_more o s e)

      pub of_call : not (option_eq eqb o (Some (column (row_at rows at) 3))) ≡ false → {r : Bool} → GroundAnswered text rows at r → ForwardAnswered text rows at symbols r
      of_call e {r} g =
          answer no_numeral no_meta found true
          (rw (lt-ltb i count within, and_right (ltb i count) (eqb (symbol_at table i).function 1) is_there, arity_at_lem text symbols count lent i within, eq-eqb (suc (column (row_at rows at) 3)) (column (row_at symbols i) 6) (one_more o s e))) r (λ t q s. g.says t q s)

  pub ground_asked : GroundAsked text rows at
  ground_asked = record { term = h.term; next = h.next; stands = h.stands }

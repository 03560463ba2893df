-- Laws of entering sorts and symbols: one for each way out.
use mathlib.Core.Path.{◌≡◌, refl, sym, ap, ◌∙◌}
use mathlib.Core.Bool.{Bool, true, false, cond}
use mathlib.Core.List.{List}
use Prim.Native.Nat.{ℕ, ◌≤◌, ◌<◌}
use lib.Dec.{ltb}
use lib.ListN.{length}
use borrow.Author.Tests.{lt-ltb, le-ltb}
use Rattle.std.specs.Prelude.{Option, Some, None}
use Rattle.std.specs.Option.{is_some}
use Rattle.std.specs.List.{position}
use Rattle.std.proofs.Common.{le_refl}
use Rattle.std.proofs.Math.Seq.{take-length}
use Rattle.source_text.specs.Bytes.{same_bytes}
use Rattle.names.specs.Names.{Name, found}
use Rattle.names.specs.Symbols.{Rows, Symbol, sort_of, sorts_of, symbols_of, sort_number, symbol_number}
use Rattle.names.specs.SearchLaws.{sorts_length, sort_found, symbol_found}
use Rattle.patterns.proofs.Terms.{symbols_length}
use Rattle.loader.specs.Signature.{is_taken, sort_refusal, symbol_refusal}

is_found : (n k : ℕ) → is_some (found n k) ≡ ltb k n
is_found n k = go (ltb k n)
  where
    go : (t : Bool) → is_some (cond t (Some k) None) ≡ t
    go true = refl
    go false = refl

stop : (t : Bool) (x y : ℕ) → t ≡ true → cond t x y ≡ x
stop t x y e = rw e

pass : (t : Bool) (x y : ℕ) → t ≡ false → cond t x y ≡ y
pass t x y e = rw e

-- A search in all rows of sorts, or of symbols.
module _ (text : List ℕ) (rows : Rows) (w : Name) where
  sorts_found : position (λ row. same_bytes (sort_of text row) w) rows ≡ found (length (sorts_of text rows (length rows))) (sort_number (sorts_of text rows (length rows)) w)
  sorts_found =
      ap (position (λ row. same_bytes (sort_of text row) w)) (sym (take-length rows)) ∙ sort_found text rows (length rows) (le_refl _) w
      ∙ ap (λ (n : ℕ). found n (sort_number (sorts_of text rows (length rows)) w)) (sym (sorts_length text rows (length rows) (le_refl _)))

  symbols_found : position (λ row. same_bytes (sort_of text row) w) rows ≡ found (length (symbols_of text rows (length rows))) (symbol_number (symbols_of text rows (length rows)) w)
  symbols_found =
      ap (position (λ row. same_bytes (sort_of text row) w)) (sym (take-length rows)) ∙ symbol_found text rows (length rows) (le_refl _) w
      ∙ ap (λ (n : ℕ). found n (symbol_number (symbols_of text rows (length rows)) w)) (sym (symbols_length text rows (length rows) (le_refl _)))

module _ (text : List ℕ) (sorts symbols : Rows) (w : Name) where
  abbrev S : List Name
  S = sorts_of text sorts (length sorts)

  abbrev F : List Symbol
  F = symbols_of text symbols (length symbols)

  -- it is a sort
  pub is_sort : {o : Option ℕ} → o ≡ position (λ row. same_bytes (sort_of text row) w) sorts → is_some o ≡ true → true ≡ is_taken S F w
  is_sort d e =
      let t : ltb (sort_number S w) (length S) ≡ true = sym (is_found (length S) (sort_number S w)) ∙ ap is_some (sym (d ∙ sorts_found text sorts w)) ∙ e in
      rw t refl

  -- it is none, so it depends on the symbols
  pub no_sort : {o p : Option ℕ} → o ≡ position (λ row. same_bytes (sort_of text row) w) sorts → is_some o ≡ false
      → p ≡ position (λ row. same_bytes (sort_of text row) w) symbols → is_some p ≡ is_taken S F w
  no_sort d e g =
      let t : ltb (sort_number S w) (length S) ≡ false = sym (is_found (length S) (sort_number S w)) ∙ ap is_some (sym (d ∙ sorts_found text sorts w)) ∙ e in
      ap is_some (g ∙ symbols_found text symbols w) ∙ is_found (length F) (symbol_number F w) ∙ rw t refl

-- The ways out, where it is told whether the name is taken.
module _ (S : List Name) (F : List Symbol) (w : Name) {t : Bool} (told : t ≡ is_taken S F w) where
  module _ (taken : t ≡ true) where
    pub sort_taken : 17 ≡ sort_refusal S F w
    sort_taken = sym (stop (is_taken S F w) 17 _ (sym told ∙ taken))

    pub symbol_taken : (k : ℕ) → 17 ≡ symbol_refusal S F w k
    symbol_taken k = sym (stop (is_taken S F w) 17 _ (sym told ∙ taken))

  module _ (new : t ≡ false) where
    not_taken : is_taken S F w ≡ false
    not_taken = sym told ∙ new

    pub sort_new : length S < 256 → 0 ≡ sort_refusal S F w
    sort_new l = sym (pass (is_taken S F w) 17 _ not_taken ∙ stop (ltb (length S) 256) 0 28 (lt-ltb _ 256 l))

    pub sort_full : 256 ≤ length S → 28 ≡ sort_refusal S F w
    sort_full l = sym (pass (is_taken S F w) 17 _ not_taken ∙ pass (ltb (length S) 256) 0 28 (le-ltb _ 256 l))

    pub symbol_wide : (k : ℕ) → 16 < k → 28 ≡ symbol_refusal S F w k
    symbol_wide k l = sym (pass (is_taken S F w) 17 _ not_taken ∙ stop (ltb 16 k) 28 _ (lt-ltb 16 k l))

    symbol_room : (k : ℕ) → k ≤ 16 → symbol_refusal S F w k ≡ cond (ltb (length F) 1024) 0 28
    symbol_room k l = pass (is_taken S F w) 17 _ not_taken ∙ pass (ltb 16 k) 28 _ (le-ltb 16 k l)

    pub symbol_new : (k : ℕ) → k ≤ 16 → length F < 1024 → 0 ≡ symbol_refusal S F w k
    symbol_new k l m = sym (symbol_room k l ∙ stop (ltb (length F) 1024) 0 28 (lt-ltb _ 1024 m))

    pub symbol_full : (k : ℕ) → k ≤ 16 → 1024 ≤ length F → 28 ≡ symbol_refusal S F w k
    symbol_full k l m = sym (symbol_room k l ∙ pass (ltb (length F) 1024) 0 28 (le-ltb _ 1024 m))

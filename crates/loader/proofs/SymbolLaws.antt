-- Laws of a symbol entered by its arrow: how many sorts there are, and what its row means.
use mathlib.Core.Path.{◌≡◌, refl, sym, ap, ◌∙◌}
use mathlib.Core.Bool.{Bool, true, false, cond}
use mathlib.Core.List.{List, [], ◌∷◌}
use Prim.Native.Nat.{ℕ, zero, suc, ◌-◌, ◌≤◌, ◌<◌}
use native.Mathlib.Omega.{arith}
use lib.Dec.{ltb}
use lib.ListN.{length, take}
use borrow.Author.Tests.{ltb-true, ltb-false}
use lib.Seq.{length-take-le, take_all}
use Rattle.terms.specs.Numbers.{by_bool}
use Rattle.names.specs.Names.{Name}
use Rattle.names.specs.Symbols.{Rows, Symbol, sort_number}
use Rattle.loader.specs.Signature.{Numbers, unknown, numbers, prepend, numbers_of, last_of, is_taken, symbol_refusal}
use Rattle.loader.specs.Arrows.{names_at, Arrowing}
use Rattle.loader.specs.SymbolEntry.{inputs_of, output_of}
use Rattle.loader.specs.Rows.{symbol_row}
use Rattle.std.specs.Prelude.{Option, Some, None}

names_count : (text : List ℕ) (rows : Rows) (p k : ℕ) → length (names_at text rows p k) ≡ k
unfolding names_at
names_count text rows p zero = refl
names_count text rows p (suc k) = ap suc (names_count text rows (suc p) k)

-- As many numbers as names.
abbrev Counts : ℕ → Numbers → Type 0
Counts n unknown = Unit {0}
Counts n (numbers ns) = length ns ≡ n

numbers_count : (sorts ws : List Name) → Counts (length ws) (numbers_of sorts ws)
unfolding numbers_of
numbers_count sorts [] = refl
numbers_count sorts (w ∷ ws) = by_bool (ltb (sort_number sorts w) (length sorts)) (λ e. rw e (go (numbers_of sorts ws) (numbers_count sorts ws))) (λ e. rw e tt)
  where
    go : (x : Numbers) → Counts (length ws) x → Counts (suc (length ws)) (prepend (suc (sort_number sorts w)) x)
    go unknown h = tt
    go (numbers ns) h = ap suc h

pub arrow_count : (sorts : List Name) (text : List ℕ) (rows : Rows) (p k : ℕ) (ns : List ℕ) → numbers_of sorts (names_at text rows p k) ≡ numbers ns → length ns ≡ k
arrow_count sorts text rows p k ns e =
    let h : Counts (length (names_at text rows p k)) (numbers_of sorts (names_at text rows p k)) = numbers_count sorts (names_at text rows p k) in
    let h₁ : length ns ≡ length (names_at text rows p k) = rw e at h in
    h₁ ∙ names_count text rows p k

-- What an answer says of the numbers.
pub arrow_unknown : (x : Numbers) (r : Option ℕ) (inputs : List ℕ) (k : ℕ) → Arrowing x r inputs k → r ≡ None → x ≡ unknown
arrow_unknown unknown r inputs k h e = refl
arrow_unknown (numbers ns) r inputs k h e = absurd (let a = h.0 in let z : ◌≡◌ {A = ℕ} 0 1 = cc in omega arith)

pub record Looked (x : Numbers) (last : ℕ) (inputs : List ℕ) (k : ℕ) : Type 0 where
  pub found : List ℕ
  pub is : x ≡ numbers found
  pub last_is : last ≡ last_of found
  pub written : (n : ℕ) → n ≤ 16 → n ≤ k → take n inputs ≡ take n found

pub arrow_known : (x : Numbers) (r : Option ℕ) (inputs : List ℕ) (k last : ℕ) → Arrowing x r inputs k → r ≡ Some last → Looked x last inputs k
arrow_known unknown r inputs k last h e = absurd (let z : ◌≡◌ {A = ℕ} 0 1 = cc in omega arith)
arrow_known (numbers ns) r inputs k last h e = let a = h.0 in record { found = ns; is = refl; last_is = cc; written = h.1 }

-- How many of them are inputs, and which.
pub inputs_count : (c : Bool) (ns : List ℕ) (k : ℕ) → length ns ≡ k → length (inputs_of c ns) ≡ cond c (k - 1) k
inputs_count true ns k e = length-take-le (length ns - 1) ns (omega arith) ∙ ap (λ (x : ℕ). x - 1) e
inputs_count false ns k e = e

inputs_are : (c : Bool) (ns : List ℕ) (k : ℕ) → length ns ≡ k → take (cond c (k - 1) k) ns ≡ inputs_of c ns
inputs_are true ns k e = ap (λ (x : ℕ). take (x - 1) ns) (sym e)
inputs_are false ns k e = take_all k ns (omega arith)

output_is : (c : Bool) (ns : List ℕ) (last : ℕ) → last ≡ last_of ns → cond c last 0 ≡ output_of c ns
output_is true ns last e = e
output_is false ns last e = refl

-- The row as it is written is the one of the numbers.
module _ (start size function first clauses k : ℕ) (c : Bool) (ns inputs : List ℕ) (last : ℕ) (number : length ns ≡ k) (last_is : last ≡ last_of ns)
    (few : cond c (k - 1) k ≤ 16) (written : (n : ℕ) → n ≤ 16 → n ≤ k → take n inputs ≡ take n ns) where
  within : (b : Bool) → cond b (k - 1) k ≤ k
  within true = omega arith
  within false = omega arith

  pub row_is : symbol_row start size (cond c last 0) function first clauses (cond c (k - 1) k) (take (cond c (k - 1) k) inputs)
      ≡ symbol_row start size (output_of c ns) function first clauses (length (inputs_of c ns)) (inputs_of c ns)
  row_is =
      let o : cond c last 0 ≡ output_of c ns = output_is c ns last last_is in
      let n : length (inputs_of c ns) ≡ cond c (k - 1) k = inputs_count c ns k number in
      let i : take (cond c (k - 1) k) inputs ≡ inputs_of c ns = written (cond c (k - 1) k) few (within c) ∙ inputs_are c ns k number in
      ap (λ (x : ℕ). symbol_row start size x function first clauses (cond c (k - 1) k) (take (cond c (k - 1) k) inputs)) o
      ∙ ap (λ (x : List ℕ). symbol_row start size (output_of c ns) function first clauses (cond c (k - 1) k) x) i
      ∙ ap (λ (x : ℕ). symbol_row start size (output_of c ns) function first clauses x (inputs_of c ns)) (sym n)

-- A symbol that is not refused has few inputs, and there are not too many symbols.
pub not_refused : (sorts : List Name) (symbols : List Symbol) (w : Name) (k : ℕ) → symbol_refusal sorts symbols w k ≡ 0 → (k ≤ 16) × (length symbols < 1024)
not_refused sorts symbols w k e =
    let g = go (is_taken sorts symbols w) (ltb 16 k) (ltb (length symbols) 1024) e in
    (ltb-false 16 k g.0, ltb-true (length symbols) 1024 g.1)
  where
    go : (a b c : Bool) → ◌≡◌ {A = ℕ} (cond a 17 (cond b 28 (cond c 0 28))) 0 → (b ≡ false) × (c ≡ true)
    go true b c e = absurd (omega arith)
    go false true c e = absurd (omega arith)
    go false false true e = (refl, refl)
    go false false false e = absurd (omega arith)

pub same_numbers : {ns ms : List ℕ} → numbers ns ≡ numbers ms → ns ≡ ms
same_numbers e = cc

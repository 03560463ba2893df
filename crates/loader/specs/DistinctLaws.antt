-- Laws of names that serve once: a name that is not taken differs from all that are there, and with it they still differ from each other.
use Rattle.std.specs.Prelude.{ℕ, zero, suc, ◌+◌, ◌-◌, ◌≤◌, ◌<◌, ◌≡◌, refl, true, false, List, [], ◌∷◌, ◌++◌, map, ltb, length, get_or}
use Rattle.std.proofs.Common.{arith, sym, ap, ◌∙◌, append-nil, append_assoc, length-append, get_or-append-add, ltb-false}
use Rattle.std.proofs.lemmas.List.{length-map}
use Rattle.std.proofs.Math.ListN.{get_or-append, get_or-map}
use Rattle.std.proofs.Math.Seq.{get_or-append_seam}
use Rattle.terms.specs.Numbers.{by_bool, by_less, by_same, or_false}
use Rattle.source_text.specs.Bytes.{same_bytes}
use Rattle.names.specs.Names.{Name, Distinct, find}
use Rattle.names.specs.Symbols.{Symbol, sort_number, symbol_number, no_symbol}
use Rattle.source_text.specs.ByteLaws.{same_itself}
use Rattle.loader.specs.Signature.{is_taken}
use Rattle.loader.specs.Legal.{names_of}

-- The name w does not stand in a list.
abbrev pub Absent : Name → List Name → Type 0
Absent w names = (i : ℕ) → i < length names → get_or names i [] ≡ w → ⊥

-- Searching

-- A search that passes all finds nothing because nothing is there.
find_none : {A : Type 0} (name : A → Name) (l : List A) (w : Name) (d : A) → length l ≤ find name l w → (i : ℕ) → i < length l → name (get_or l i d) ≡ w → ⊥
unfolding find
find_none name [] w d h i m e = omega arith
find_none name (a ∷ l) w d h zero m e =
    let t : same_bytes (name a) w ≡ true = rw (← e) (same_itself (name a)) in
    let k : suc (length l) ≤ 0 = rw t at h in
    omega arith
find_none name (a ∷ l) w d h (suc i) m e = by_bool (same_bytes (name a) w)
    (λ t. let k : suc (length l) ≤ 0 = rw t at h in omega arith)
    (λ t. let k : suc (length l) ≤ suc (find name l w) = rw t at h in find_none name l w d (omega arith) i (omega arith) e)

absent_append : (w : Name) (a b : List Name) → Absent w a → Absent w b → Absent w (a ++ b)
absent_append w a b f g i m e =
    let n : length (a ++ b) ≡ length a + length b = length-append a b in
    by_less i (length a)
    (λ k _. f i k (sym (get_or-append a b [] i k) ∙ e))
    (λ k _. let j : ℕ = i - length a in
    let q : i ≡ length a + j = omega arith in
    g j (omega arith) (sym (get_or-append-add a b j []) ∙ (rw q at e)))

-- What is not taken stands nowhere among the names.
pub untaken_absent : (sorts : List Name) (symbols : List Symbol) (w : Name) → is_taken sorts symbols w ≡ false → Absent w (names_of sorts symbols)
untaken_absent sorts symbols w e =
    let h = or_false (ltb (sort_number sorts w) (length sorts)) (ltb (symbol_number symbols w) (length symbols)) e in
    let n : length (map (λ (f : Symbol). f.name) symbols) ≡ length symbols = length-map symbols (λ (f : Symbol). f.name) in
    absent_append w sorts (map (λ f. f.name) symbols)
    (λ i m q. find_none (λ s. s) sorts w [] (ltb-false _ _ h.0) i m q)
    (λ i m q. find_none (λ (f : Symbol). f.name) symbols w no_symbol (ltb-false _ _ h.1) i (omega arith) (sym (get_or-map (λ (f : Symbol). f.name) symbols i no_symbol) ∙ q))

-- A name more

module _ (a b : List Name) (w : Name) where
  -- What stands where, with w behind a and before b.
  inserted_before : (i : ℕ) → i < length a → get_or ((a ++ (w ∷ [])) ++ b) i [] ≡ get_or (a ++ b) i []
  inserted_before i m = rw (append_assoc a (w ∷ []) b) (get_or-append a (w ∷ b) [] i m ∙ sym (get_or-append a b [] i m))

  inserted_here : get_or ((a ++ (w ∷ [])) ++ b) (length a) [] ≡ w
  inserted_here = rw (append_assoc a (w ∷ []) b) (get_or-append_seam a w b [])

  inserted_behind : (i k : ℕ) → i ≡ length a + suc k → get_or ((a ++ (w ∷ [])) ++ b) i [] ≡ get_or (a ++ b) (length a + k) []
  inserted_behind i k q = rw (q, append_assoc a (w ∷ []) b) (get_or-append-add a (w ∷ b) (suc k) [] ∙ sym (get_or-append-add a b k []))

  pub distinct_insert : Distinct (a ++ b) → Absent w (a ++ b) → Distinct ((a ++ (w ∷ [])) ++ b)
  distinct_insert d n i j l m e =
      let la : length (a ++ b) ≡ length a + length b = length-append a b in
      let lb : length ((a ++ (w ∷ [])) ++ b) ≡ length (a ++ (w ∷ [])) + length b = length-append (a ++ (w ∷ [])) b in
      let lc : length (a ++ (w ∷ [])) ≡ length a + 1 = length-append a (w ∷ []) in
      by_less j (length a)
      (λ k _. d i j l (omega arith) (sym (inserted_before i (omega arith)) ∙ e ∙ inserted_before j k))
      (λ k _. by_same j (length a)
      (λ q _. n i (omega arith) (sym (inserted_before i (omega arith)) ∙ e ∙ (rw q inserted_here)))
      (λ q _. let y : ℕ = j - length a - 1 in
      let p : j ≡ length a + suc y = by_less (length a) j (λ y₁ _. omega arith) (λ y₁ _. absurd (q (omega arith))) in
      let f : get_or ((a ++ (w ∷ [])) ++ b) i [] ≡ get_or (a ++ b) (length a + y) [] = e ∙ inserted_behind j y p in
      by_less i (length a)
      (λ z _. d i (length a + y) (omega arith) (omega arith) (sym (inserted_before i z) ∙ f))
      (λ z _. by_same i (length a)
      (λ r _. n (length a + y) (omega arith) (sym f ∙ (rw r inserted_here)))
      (λ r _. let x : ℕ = i - length a - 1 in
      let o : i ≡ length a + suc x = by_less (length a) i (λ x₁ _. omega arith) (λ x₁ _. absurd (r (omega arith))) in
      d (length a + x) (length a + y) (omega arith) (omega arith) (sym (inserted_behind i x o) ∙ f)))))

-- A sort more, and a symbol more.
pub distinct_sort : (sorts : List Name) (symbols : List Symbol) (w : Name) → Distinct (names_of sorts symbols) → is_taken sorts symbols w ≡ false
    → Distinct (names_of (sorts ++ (w ∷ [])) symbols)
distinct_sort sorts symbols w d e = distinct_insert sorts (map (λ f. f.name) symbols) w d (untaken_absent sorts symbols w e)

map_append : {A B : Type 0} (f : A → B) (l m : List A) → map f (l ++ m) ≡ map f l ++ map f m
map_append f [] m = refl
map_append f (x ∷ l) m = ap (λ r. f x ∷ r) (map_append f l m)

pub distinct_symbol : (sorts : List Name) (symbols : List Symbol) (f : Symbol) → Distinct (names_of sorts symbols) → is_taken sorts symbols f.name ≡ false
    → Distinct (names_of sorts (symbols ++ (f ∷ [])))
distinct_symbol sorts symbols f d e =
    let names : List Name = names_of sorts symbols in
    let q : names_of sorts (symbols ++ (f ∷ [])) ≡ (names ++ (f.name ∷ [])) ++ [] =
    ap (λ (l : List Name). sorts ++ l) (map_append (λ (g : Symbol). g.name) symbols (f ∷ [])) ∙ sym (append_assoc sorts (map (λ g. g.name) symbols) (f.name ∷ []))
    ∙ sym (append-nil (names ++ (f.name ∷ []))) in
    let z : names ++ [] ≡ names = append-nil names in
    let d₁ : Distinct (names ++ []) = rw z d in
    let n₁ : Absent f.name (names ++ []) = rw z (untaken_absent sorts symbols f.name e) in
    rw q (distinct_insert names [] f.name d₁ n₁)

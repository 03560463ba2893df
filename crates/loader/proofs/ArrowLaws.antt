-- Laws of looking up the sorts of an arrow: one more name, a name that is unknown, and the end.
use mathlib.Core.Path.{◌≡◌, refl, sym, ap, ◌∙◌, subst}
use mathlib.Core.Bool.{Bool, true, false}
use mathlib.Core.List.{List, [], ◌∷◌, ◌++◌}
use Prim.Native.Nat.{ℕ, zero, suc, ◌+◌, ◌-◌, ◌≤◌, ◌<◌}
use native.Mathlib.Omega.{arith}
use lib.Dec.{ltb, leb}
use lib.ListN.{length, take, set, length-append, length-set}
use lib.Seq.{take-set-le, take-append-le, take-suc-set, take_all}
use borrow.Author.Tests.{lt-ltb, le-ltb, leb-true, leb-false}
use Rattle.names.specs.Names.{Name}
use Rattle.names.specs.Symbols.{Rows, sort_of, sort_number, sorts_of}
use Rattle.names.specs.RowNames.{name_at}
use Rattle.names.specs.SearchLaws.{sorts_length, sort_some, sort_none}
use Rattle.patterns.specs.Patterns.{when}
use Rattle.loader.specs.Signature.{Numbers, unknown, numbers, prepend, numbers_of, last_of}
use Rattle.loader.specs.Arrows.{names_at, Arrowing}
use Rattle.std.specs.Prelude.{Some, None}
use Rattle.std.specs.List.{position}
use Rattle.std.proofs.Common.{le_refl}
use Rattle.std.proofs.Math.Seq.{take-length}
use Rattle.source_text.specs.Bytes.{same_bytes}

-- The names of i rows, and of j more.
names_split : (text : List ℕ) (rows : Rows) (p i j : ℕ) → names_at text rows p (i + j) ≡ names_at text rows p i ++ names_at text rows (p + i) j
unfolding names_at
names_split text rows p zero j =
    let d : zero + j ≡ j = omega arith in
    let e : p + zero ≡ p = omega arith in
    ap (names_at text rows p) d ∙ ap (λ (q : ℕ). names_at text rows q j) (sym e)
names_split text rows p (suc i) j =
    let d : suc i + j ≡ suc (i + j) = omega arith in
    let e : suc p + i ≡ p + suc i = omega arith in
    ap (names_at text rows p) d
    ∙ ap (λ (x : List Name). name_at text rows p ∷ x) (names_split text rows (suc p) i j ∙ ap (λ (q : ℕ). names_at text rows (suc p) i ++ names_at text rows q j) e)

-- One more number at the end.
abbrev after : Numbers → ℕ → Numbers
after unknown n = unknown
after (numbers ns) n = numbers (ns ++ (n ∷ []))

after_prepend : (m n : ℕ) (x : Numbers) → prepend m (after x n) ≡ after (prepend m x) n
after_prepend m n unknown = refl
after_prepend m n (numbers ns) = refl

after_when : (t : Bool) (m n : ℕ) (x : Numbers) → when t (λ _. prepend m (after x n)) (λ _. unknown) ≡ after (when t (λ _. prepend m x) (λ _. unknown)) n
after_when true m n x = after_prepend m n x
after_when false m n x = refl

known : (t : Bool) (m : ℕ) (x : Numbers) → t ≡ true → when t (λ _. prepend m x) (λ _. unknown) ≡ prepend m x
known true m x e = refl
known false m x e = ap (λ (t : Bool). when t (λ _. prepend m x) (λ _. unknown)) e

unknown_here : (t : Bool) (m : ℕ) (x : Numbers) → t ≡ false → when t (λ _. prepend m x) (λ _. unknown) ≡ unknown
unknown_here true m x e = ap (λ (t : Bool). when t (λ _. prepend m x) (λ _. unknown)) e
unknown_here false m x e = refl

unknown_later : (t : Bool) (m : ℕ) → when t (λ _. prepend m unknown) (λ _. unknown) ≡ unknown
unknown_later true m = refl
unknown_later false m = refl

module _ (S : List Name) (w : Name) where
  numbers_next : (xs : List Name) → sort_number S w < length S → numbers_of S (xs ++ (w ∷ [])) ≡ after (numbers_of S xs) (suc (sort_number S w))
  unfolding numbers_of
  numbers_next [] l = known (ltb (sort_number S w) (length S)) (suc (sort_number S w)) (numbers []) (lt-ltb _ _ l)
  numbers_next (x ∷ xs) l =
      ap (λ (z : Numbers). when (ltb (sort_number S x) (length S)) (λ _. prepend (suc (sort_number S x)) z) (λ _. unknown)) (numbers_next xs l)
      ∙ after_when (ltb (sort_number S x) (length S)) (suc (sort_number S x)) (suc (sort_number S w)) (numbers_of S xs)

  numbers_unknown : (xs ys : List Name) → length S ≤ sort_number S w → numbers_of S (xs ++ w ∷ ys) ≡ unknown
  unfolding numbers_of
  numbers_unknown [] ys l = unknown_here (ltb (sort_number S w) (length S)) (suc (sort_number S w)) (numbers_of S ys) (le-ltb _ _ l)
  numbers_unknown (x ∷ xs) ys l =
      ap (λ (z : Numbers). when (ltb (sort_number S x) (length S)) (λ _. prepend (suc (sort_number S x)) z) (λ _. unknown)) (numbers_unknown xs ys l)
      ∙ unknown_later (ltb (sort_number S x) (length S)) (suc (sort_number S x))

last_next : (ds : List ℕ) (n : ℕ) → n ≡ last_of (ds ++ (n ∷ []))
last_next [] n = refl
last_next (d ∷ []) n = refl
last_next (d ∷ e ∷ ds) n = last_next (e ∷ ds) n

-- The numbers of the names so far: the last, and the first 16 as they are written.
pub record Sofar (S ws : List Name) (last : ℕ) (inputs : List ℕ) (i : ℕ) : Type 0 where
  pub found : List ℕ
  pub all : numbers_of S ws ≡ numbers found
  pub size : length found ≡ i
  pub latest : last ≡ last_of found
  pub written : (n : ℕ) → n ≤ 16 → n ≤ i → take n inputs ≡ take n found
  pub wide : length inputs ≡ 16

-- One more is written.
put_next : (ds inputs : List ℕ) (i v : ℕ) → length ds ≡ i → length inputs ≡ 16 → ((n : ℕ) → n ≤ 16 → n ≤ i → take n inputs ≡ take n ds) → (n : ℕ) → n ≤ 16 → n ≤ suc i
    → (t : Bool) → leb n i ≡ t → take n (set inputs i v) ≡ take n (ds ++ (v ∷ []))
put_next ds inputs i v e f put n l m true t =
    let h : n ≤ i = leb-true n i t in
    take-set-le n inputs i v h ∙ put n l h ∙ sym (take-append-le n ds (v ∷ []) (omega arith))
put_next ds inputs i v e f put n l m false t =
    let h : i < n = leb-false n i t in
    let q : n ≡ suc i = omega arith in
    let a : length (ds ++ (v ∷ [])) ≡ length ds + 1 = length-append ds (v ∷ []) in
    ap (λ (k : ℕ). take k (set inputs i v)) q
    ∙ take-suc-set inputs i v (omega arith)
    ∙ ap (λ (x : List ℕ). x ++ (v ∷ [])) (put i (omega arith) (omega arith) ∙ take_all i ds (omega arith))
    ∙ sym (take_all n (ds ++ (v ∷ [])) (omega arith))

sofar_next : (S ws : List Name) (w : Name) (last : ℕ) (inputs inputs' : List ℕ) (i v : ℕ) → Sofar S ws last inputs i → sort_number S w < length S
    → v ≡ suc (sort_number S w) → inputs' ≡ set inputs i v → Sofar S (ws ++ (w ∷ [])) v inputs' (suc i)
sofar_next S ws w last inputs inputs' i v s l q d =
    let a : length (s.found ++ (v ∷ [])) ≡ length s.found + 1 = length-append s.found (v ∷ []) in
    let z : length s.found ≡ i = s.size in
    record {
      found = s.found ++ (v ∷ []);
      all =
          numbers_next S w ws l
          ∙ ap (λ (x : Numbers). after x (suc (sort_number S w))) s.all
          ∙ ap (λ (x : ℕ). numbers (s.found ++ (x ∷ []))) (sym q);
      size = omega arith;
      latest = last_next s.found v;
      written = λ n g m. ap (take n) d ∙ put_next s.found inputs i v s.size s.wide s.written n g m (leb n i) refl;
      wide = ap length d ∙ length-set inputs i v ∙ s.wide;
    }

-- The search in all sorts that are lent.
module _ (text : List ℕ) (sorts : Rows) (w : Name) where
  pub some_sort : (i : ℕ) → Some i ≡ position (λ row. same_bytes (sort_of text row) w) sorts → (i ≡ sort_number (sorts_of text sorts (length sorts)) w) × (i < length sorts)
  some_sort i e = sort_some text sorts (length sorts) (le_refl _) w i (e ∙ ap (position (λ row. same_bytes (sort_of text row) w)) (sym (take-length sorts)))

  pub unknown_sort : None ≡ position (λ row. same_bytes (sort_of text row) w) sorts → length sorts ≤ sort_number (sorts_of text sorts (length sorts)) w
  unknown_sort e = sort_none text sorts (length sorts) (le_refl _) w (e ∙ ap (position (λ row. same_bytes (sort_of text row) w)) (sym (take-length sorts)))

module _ (text : List ℕ) (rows : Rows) (at k : ℕ) (sorts : Rows) where
  abbrev S : List Name
  S = sorts_of text sorts (length sorts)

  -- before the first name
  pub sofar_none : (inputs : List ℕ) → length inputs ≡ 16 → Sofar S (names_at text rows at 0) 0 inputs 0
  unfolding names_at numbers_of
  sofar_none inputs e = record { found = []; all = refl; size = refl; latest = refl; written = none; wide = e }
    where
      none : (n : ℕ) → n ≤ 16 → n ≤ 0 → take n inputs ≡ take n []
      none zero l m = refl
      none (suc n) l m = absurd (omega arith)

  -- one more is known
  pub sofar_more : {s i last : ℕ} {inputs inputs' : List ℕ} → Sofar S (names_at text rows at i) last inputs i → s ≡ sort_number S (name_at text rows (at + i)) → s < length sorts
      → inputs' ≡ set inputs i (s + 1) → Sofar S (names_at text rows at (i + 1)) (s + 1) inputs' (i + 1)
  unfolding names_at
  sofar_more {s} {i} {last} {inputs} {inputs'} h e l d =
      let n : length S ≡ length sorts = sorts_length text sorts (length sorts) (le_refl _) in
      let b : s + 1 ≡ suc (sort_number S (name_at text rows (at + i))) = omega arith in
      let m : i + 1 ≡ suc i = omega arith in
      let ws : List Name = names_at text rows at i ++ (name_at text rows (at + i) ∷ []) in
      let x : Sofar S ws (s + 1) inputs' (suc i) = sofar_next S (names_at text rows at i) (name_at text rows (at + i)) last inputs inputs' i (s + 1) h (omega arith) b d in
      let y : Sofar S ws (s + 1) inputs' (i + 1) = subst (Sofar S ws (s + 1) inputs') (sym m) x in
      subst (λ (z : List Name). Sofar S z (s + 1) inputs' (i + 1)) (sym (names_split text rows at i 1)) y

  -- one is unknown
  pub one_unknown : {s i : ℕ} (inputs : List ℕ) → s ≡ sort_number S (name_at text rows (at + i)) → length sorts ≤ s → i < k → Arrowing (numbers_of S (names_at text rows at k)) None inputs k
  unfolding names_at
  one_unknown {s} {i} inputs e l h =
      let n : length S ≡ length sorts = sorts_length text sorts (length sorts) (le_refl _) in
      let q : i + suc (k - suc i) ≡ k = omega arith in
      let a : numbers_of S (names_at text rows at k) ≡ unknown =
      ap (λ (j : ℕ). numbers_of S (names_at text rows at j)) (sym q)
      ∙ ap (numbers_of S) (names_split text rows at i (suc (k - suc i)))
      ∙ numbers_unknown S (name_at text rows (at + i)) (names_at text rows at i) (names_at text rows (suc (at + i)) (k - suc i)) (omega arith) in
      subst (λ (x : Numbers). Arrowing x None inputs k) (sym a) refl

  -- all are known
  pub all_known_lem : {i last : ℕ} {inputs : List ℕ} → Sofar S (names_at text rows at i) last inputs i → i ≡ k → Arrowing (numbers_of S (names_at text rows at k)) (Some last) inputs k
  all_known_lem {i} {last} {inputs} h q =
      let s : Sofar S (names_at text rows at k) last inputs k = subst (λ (j : ℕ). Sofar S (names_at text rows at j) last inputs j) q h in
      subst (λ (x : Numbers). Arrowing x (Some last) inputs k) (sym s.all) (ap Some s.latest, s.written)

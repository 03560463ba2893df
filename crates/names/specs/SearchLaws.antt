-- Searching the first n rows of a table by name, for every way of reading a row; and columns of a row.
use Rattle.std.specs.Prelude.{◌≡◌, refl, Bool, true, false, cond, Some, None, List, [], ◌∷◌, ◌++◌, map, ℕ, zero, suc, ◌+◌, ◌-◌, ◌≤◌, ◌<◌, ltb, length, get_or, drop, take, set, replicate}
use Rattle.std.specs.List.{position, position_or_len}
use Rattle.std.proofs.Common.{sym, ap, ap₂, ◌∙◌, add-one, arith, drop_of_length-le, drop-cons, get_or-take, length-take-le, take-suc-set, ltb-true, ltb-false}
use Rattle.std.proofs.lemmas.List.{map_push}
use Rattle.std.proofs.lemmas.List.Recursion.{is_position_or_len}
use Rattle.std.proofs.Math.ListN.{get_or-map}
use Rattle.std.proofs.Math.Seq.{take-set-lt}
use Rattle.source_text.specs.Bytes.{same_bytes}
use Rattle.names.specs.Names.{Name, name_in, find, found}
use Rattle.names.specs.Symbols.{Rows, row_at, column, columns, sort_of, sorts_of, symbol_of, symbols_of, variable_of, variables_of, sort_number, symbol_number, variable_number}

-- A search as std has it.
find_position : {A : Type 0} (name : A → Name) (xs : List A) (w : Name) → position_or_len (λ x. same_bytes (name x) w) xs ≡ find name xs w
unfolding find
find_position name xs w =
    sym (is_position_or_len (λ l. find name l w) (λ x. same_bytes (name x) w) refl (λ x l. let e : 1 + find name l w ≡ suc (find name l w) = omega arith in rw e refl) xs)

-- A search in what was read of a list.
find_map : {A B : Type 0} (name : B → Name) (f : A → B) (xs : List A) (w : Name) → find (λ x. name (f x)) xs w ≡ find name (map f xs) w
unfolding find
find_map name f [] w = refl
find_map name f (x ∷ xs) w = ap (λ n. cond (same_bytes (name (f x)) w) 0 (suc n)) (find_map name f xs w)

-- What is found, and what isn't.
pub found_some : (n k i : ℕ) → Some i ≡ found n k → (i ≡ k) × (i < n)
found_some n k i e = go (ltb k n) refl e
  where
    go : (b : Bool) → ltb k n ≡ b → Some i ≡ cond b (Some k) None → (i ≡ k) × (i < n)
    go true h e = let f : i ≡ k = cc in let l : k < n = ltb-true _ _ h in (f, omega arith)
    go false h e = absurd (let z : Some i ≡ None = e in cc)

pub found_none : (n k : ℕ) → None ≡ found n k → n ≤ k
found_none n k e = go (ltb k n) refl e
  where
    go : (b : Bool) → ltb k n ≡ b → None ≡ cond b (Some k) None → n ≤ k
    go true h e = absurd (let z : None ≡ Some k = e in cc)
    go false h e = ltb-false _ _ h

-- A search from the front.
module _ {A : Type 0} (name : A → Name) (xs : List A) (w : Name) (d : A) where
  find_hit : (i : ℕ) → i < length xs → same_bytes (name (get_or xs i d)) w ≡ true → find name (drop i xs) w ≡ 0
  unfolding find
  find_hit i l e = simp (drop-cons xs i d l, e)

  find_step : (i : ℕ) → i < length xs → same_bytes (name (get_or xs i d)) w ≡ false → find name (drop i xs) w ≡ suc (find name (drop (i + 1) xs) w)
  unfolding find
  find_step i l e = simp (drop-cons xs i d l, e, add-one)

  find_end : (i : ℕ) → length xs ≤ i → find name (drop i xs) w ≡ 0
  unfolding find
  find_end i l = simp (drop_of_length-le xs l)

pub find_within : {A : Type 0} (name : A → Name) (xs : List A) (w : Name) → find name xs w ≤ length xs
unfolding find
find_within name [] w = omega arith
find_within name (x ∷ xs) w = go (same_bytes (name x) w) (find_within name xs w)
  where
    go : (t : Bool) {m n : ℕ} → m ≤ n → cond t 0 (suc m) ≤ suc n
    go true h = omega arith
    go false h = omega arith

pub map_length : {A B : Type 0} (f : A → B) (l : List A) → length (map f l) ≡ length l
map_length f [] = refl
map_length f (x ∷ xs) = ap suc (map_length f xs)

-- The first n rows of a table, read by f.
module _ {A : Type 0} (f : List ℕ → A) (rows : Rows) (n : ℕ) (h : n ≤ length rows) where
  pub table_length : length (map f (take n rows)) ≡ n
  table_length = map_length f (take n rows) ∙ length-take-le n rows h

  pub table_at : (i : ℕ) → i < n → get_or (map f (take n rows)) i (f []) ≡ f (row_at rows i)
  table_at i l = get_or-map f (take n rows) i [] ∙ ap f (get_or-take n rows i [] l)

pub sorts_length : (text : List ℕ) (rows : Rows) (n : ℕ) → n ≤ length rows → length (sorts_of text rows n) ≡ n
unfolding sorts_of
sorts_length text rows n h = table_length (sort_of text) rows n h

-- The search in the first n rows of a table.
module _ (text : List ℕ) (rows : Rows) (n : ℕ) (h : n ≤ length rows) (w : Name) where
  pub sort_found : position (λ row. same_bytes (sort_of text row) w) (take n rows) ≡ found n (sort_number (sorts_of text rows n) w)
  unfolding sorts_of
  sort_found = ap₂ (λ i m. found m i) (find_position (sort_of text) (take n rows) w ∙ find_map (λ s. s) (sort_of text) (take n rows) w) (length-take-le n rows h)

  pub sort_some : (i : ℕ) → Some i ≡ position (λ row. same_bytes (sort_of text row) w) (take n rows) → (i ≡ sort_number (sorts_of text rows n) w) × (i < n)
  sort_some i e = found_some n _ i (e ∙ sort_found)

  pub sort_none : None ≡ position (λ row. same_bytes (sort_of text row) w) (take n rows) → n ≤ sort_number (sorts_of text rows n) w
  sort_none e = found_none n _ (e ∙ sort_found)

  pub symbol_found : position (λ row. same_bytes (sort_of text row) w) (take n rows) ≡ found n (symbol_number (symbols_of text rows n) w)
  unfolding symbols_of symbol_of
  symbol_found = ap₂ (λ i m. found m i) (find_position (sort_of text) (take n rows) w ∙ find_map (λ f. f.name) (symbol_of text) (take n rows) w) (length-take-le n rows h)

  pub symbol_some : (i : ℕ) → Some i ≡ position (λ row. same_bytes (sort_of text row) w) (take n rows) → (i ≡ symbol_number (symbols_of text rows n) w) × (i < n)
  symbol_some i e = found_some n _ i (e ∙ symbol_found)

  pub symbol_none : None ≡ position (λ row. same_bytes (sort_of text row) w) (take n rows) → n ≤ symbol_number (symbols_of text rows n) w
  symbol_none e = found_none n _ (e ∙ symbol_found)

  pub variable_found : position (λ row. same_bytes (name_in text row) w) (take n rows) ≡ found n (variable_number (variables_of text rows n) w)
  unfolding variables_of variable_of
  variable_found = ap₂ (λ i m. found m i) (find_position (name_in text) (take n rows) w ∙ find_map (λ v. v.name) (variable_of text) (take n rows) w) (length-take-le n rows h)

  pub variable_some : (i : ℕ) → Some i ≡ position (λ row. same_bytes (name_in text row) w) (take n rows) → (i ≡ variable_number (variables_of text rows n) w) × (i < n)
  variable_some i e = found_some n _ i (e ∙ variable_found)

  pub variable_none : None ≡ position (λ row. same_bytes (name_in text row) w) (take n rows) → n ≤ variable_number (variables_of text rows n) w
  variable_none e = found_none n _ (e ∙ variable_found)

-- The search in a table: i rows are passed.
module _ {A : Type 0} (f : List ℕ → A) (name : A → Name) (rows : Rows) (n : ℕ) (h : n ≤ length rows) (w : Name) (i : ℕ)
    (inv : find name (map f (take n rows)) w ≡ i + find name (drop i (map f (take n rows))) w) where
  pub row_hit : i < n → same_bytes (name (f (row_at rows i))) w ≡ true → i ≡ find name (map f (take n rows)) w
  row_hit l e =
      let m : i < length (map f (take n rows)) = rw (table_length f rows n h) l in
      let k : find name (drop i (map f (take n rows))) w ≡ 0 = find_hit name (map f (take n rows)) w (f []) i m (rw (table_at f rows n h i l) e) in
      omega arith

  pub row_step : i < n → same_bytes (name (f (row_at rows i))) w ≡ false → find name (map f (take n rows)) w ≡ i + 1 + find name (drop (i + 1) (map f (take n rows))) w
  row_step l e =
      let m : i < length (map f (take n rows)) = rw (table_length f rows n h) l in
      let k : find name (drop i (map f (take n rows))) w ≡ suc (find name (drop (i + 1) (map f (take n rows))) w) = find_step name (map f (take n rows)) w (f []) i m (rw (table_at f rows n h i l) e) in
      omega arith

  pub row_end : n ≤ i → i ≡ find name (map f (take n rows)) w
  row_end l =
      let m : length (map f (take n rows)) ≤ i = rw (table_length f rows n h) l in
      let k : find name (drop i (map f (take n rows))) w ≡ 0 = find_end name (map f (take n rows)) w (f []) i m in
      omega arith

-- A row changed, and a row more.
map_set : {A B : Type 0} (f : A → B) (l : List A) (i : ℕ) (a : A) → map f (set l i a) ≡ set (map f l) i (f a)
map_set f [] i a = refl
map_set f (x ∷ l) zero a = refl
map_set f (x ∷ l) (suc i) a = ap (λ r. f x ∷ r) (map_set f l i a)

pub table_set : {A : Type 0} (f : List ℕ → A) (rows : Rows) (n i : ℕ) (r : List ℕ) → i < n → map f (take n (set rows i r)) ≡ set (map f (take n rows)) i (f r)
table_set f rows n i r l = ap (map f) (take-set-lt n rows i r l) ∙ map_set f (take n rows) i r

pub table_more : {A : Type 0} (f : List ℕ → A) (rows : Rows) (n : ℕ) (r : List ℕ) → n < length rows → map f (take (n + 1) (set rows n r)) ≡ map f (take n rows) ++ (f r ∷ [])
table_more f rows n r l = rw (add-one, take-suc-set rows n r l) (map_push f (take n rows) r)

-- What stands in a list does not depend on what is answered past its end.
pub get_d_any : {A : Type 0} (l : List A) (i : ℕ) (d e : A) → i < length l → get_or l i d ≡ get_or l i e
get_d_any [] i d e h = absurd (omega arith)
get_d_any (x ∷ l) zero d e h = refl
get_d_any (x ∷ l) (suc i) d e h = get_d_any l i d e (omega arith)

-- Columns of a row.
pub columns_length : (row : List ℕ) (j n : ℕ) → length (columns row j n) ≡ n
unfolding columns
columns_length row j zero = refl
columns_length row j (suc n) = ap suc (columns_length row (suc j) n)

pub columns_at : (row : List ℕ) (j n k : ℕ) → k < n → get_or (columns row j n) k 0 ≡ column row (j + k)
unfolding columns
columns_at row j zero k h = absurd (omega arith)
columns_at row j (suc n) zero h = let e : j + 0 ≡ j = omega arith in rw e
columns_at row j (suc n) (suc k) h = let e : j + suc k ≡ suc j + k = omega arith in rw e (columns_at row (suc j) n k (omega arith))

from_columns : (row : List ℕ) (j n : ℕ) → j + n ≤ length row → take n (drop j row) ≡ columns row j n
unfolding columns
from_columns row j zero l = refl
from_columns row j (suc n) l =
    ap (take (suc n)) (drop-cons row j 0 (omega arith)) ∙ ap (λ (xs : List ℕ). column row j ∷ xs) (from_columns row (suc j) n (omega arith))

-- A part of a row is so many of its columns.
pub part_columns : (row : List ℕ) (j n : ℕ) → j + n ≤ length row → take (j + n - j) (drop j row) ≡ columns row j n
part_columns row j n l = let e : j + n - j ≡ n = omega arith in ap (λ (k : ℕ). take k (drop j row)) e ∙ from_columns row j n l

-- Columns that hold some values.
pub columns_are : (row vs : List ℕ) (j : ℕ) → ((k : ℕ) → k < length vs → column row (j + k) ≡ get_or vs k 0) → columns row j (length vs) ≡ vs
unfolding columns
columns_are row [] j h = refl
columns_are row (v ∷ vs) j h =
    let z : j + 0 ≡ j = omega arith in
    let a : column row (j + 0) ≡ v = h 0 (omega arith) in
    ap₂ (λ (x : ℕ) (xs : List ℕ). x ∷ xs) (rw z at a)
    (columns_are row vs (suc j) (λ k l. let e : j + suc k ≡ suc j + k = omega arith in let b : column row (j + suc k) ≡ get_or vs k 0 = h (suc k) (omega arith) in rw e at b))

pub zero_at : (n k : ℕ) → ◌≡◌ {A = ℕ} (get_or (replicate n 0) k 0) 0
zero_at zero k = refl
zero_at (suc n) zero = refl
zero_at (suc n) (suc k) = zero_at n k

-- Laws of a row that is written column by column.
use mathlib.Core.Path.{◌≡◌, refl, sym, ap, ◌∙◌}
use mathlib.Core.List.{List, [], ◌∷◌, ◌++◌, map}
use Prim.Native.Nat.{ℕ, zero, suc, ◌+◌, ◌≤◌, ◌<◌}
use native.Mathlib.Numerals.{add-one}
use native.Mathlib.Omega.{arith}
use lib.ListN.{length, get_or, take, drop, set, length-set, get_or-map}
use borrow.Rule.Slice.PartMut.{put_mid}
use Rattle.std.proofs.lemmas.List.{take-append-drop, drop-drop, drop-set-lt, ext_get_or, take_all}
use Rattle.std.proofs.Common.{append_assoc}
use lib.Seq.{sets, take-suc, take-suc-set, length-take-le, get_or-set_same, set-set}
use Rattle.names.specs.Symbols.{Rows, Variable, row_at, column, variable_of, variables_of}
use Rattle.std.specs.Prelude.{Option, None}
use Rattle.std.specs.Option.{unwrap_or}
use Rattle.arena.specs.Copies.{pattern_room}
use Rattle.meeting.specs.Places.{place_numbers}
use Rattle.names.specs.SearchLaws.{map_length, table_length}

-- A part of a row that is written at once.
pub sets_part : (vs row : List ℕ) (at k : ℕ) → k ≡ length vs → at + length vs ≤ length row → put_mid at k row vs ≡ sets row at vs
sets_part vs row at k e l = rw (e, drop-drop (length vs) at row) (go vs row at l)
  where
    go : (vs row : List ℕ) (at : ℕ) → at + length vs ≤ length row → take at row ++ (vs ++ drop (at + length vs) row) ≡ sets row at vs
    go [] row at l = let e : at + 0 ≡ at = omega arith in rw e (take-append-drop at row)
    go (v ∷ vs) row at l =
        let h = go vs (set row at v) (suc at) (rw length-set (omega arith)) in
        let d : drop (suc at + length vs) (set row at v) ≡ drop (suc at + length vs) row = drop-set-lt (suc at + length vs) row at v (omega arith) in
        let t : take (suc at) (set row at v) ≡ take at row ++ (v ∷ []) = take-suc-set row at v (omega arith) in
        let n : at + suc (length vs) ≡ suc at + length vs = omega arith in
        rw n (sym (append_assoc (take at row) (v ∷ []) (vs ++ drop (suc at + length vs) row)) ∙ rw (t, d) at h)

-- A run of stores, and one more.
sets_snoc : (vs l : List ℕ) (i v : ℕ) → sets l i (vs ++ (v ∷ [])) ≡ set (sets l i vs) (i + length vs) v
sets_snoc [] l i v = let e : i + 0 ≡ i = omega arith in rw e
sets_snoc (a ∷ vs) l i v = let e : i + suc (length vs) ≡ suc i + length vs = omega arith in rw e (sets_snoc vs (set l i a) (suc i) v)

-- The first j of some values are written, and the next.
pub sets_next : (row xs : List ℕ) (at j : ℕ) → j < length xs → set (sets row at (take j xs)) (at + j) (get_or xs j 0) ≡ sets row at (take (j + 1) xs)
sets_next row xs at j l =
    let n : length (take j xs) ≡ j = length-take-le j xs (omega arith) in
    let s : take (j + 1) xs ≡ take j xs ++ (get_or xs j 0 ∷ []) = rw add-one (take-suc xs j 0 l) in
    let e : sets row at (take j xs ++ (get_or xs j 0 ∷ [])) ≡ set (sets row at (take j xs)) (at + length (take j xs)) (get_or xs j 0) = sets_snoc (take j xs) row at (get_or xs j 0) in
    rw s (sym (rw n at e))

-- The sorts of the first n variables.
abbrev pub sorts_in : List ℕ → Rows → ℕ → List ℕ
sorts_in text rows n = map (λ (v : Variable). v.sort) (variables_of text rows n)

map_map : {A B C : Type 0} (f : A → B) (g : B → C) (l : List A) → map g (map f l) ≡ map (λ x. g (f x)) l
map_map f g [] = refl
map_map f g (x ∷ l) = ap (λ r. g (f x) ∷ r) (map_map f g l)

-- They are a column of the table.
pub sorts_column : (text : List ℕ) (rows : Rows) (n : ℕ) → sorts_in text rows n ≡ map (λ (r : List ℕ). column r 3) (take n rows)
unfolding variables_of variable_of
sorts_column text rows n = map_map (variable_of text) (λ (v : Variable). v.sort) (take n rows)

pub sorts_length : (text : List ℕ) (rows : Rows) (n : ℕ) → n ≤ length rows → length (sorts_in text rows n) ≡ n
sorts_length text rows n h = ap length (sorts_column text rows n) ∙ table_length (λ (r : List ℕ). column r 3) rows n h

pub map_take : {A B : Type 0} (f : A → B) (n : ℕ) (l : List A) → map f (take n l) ≡ take n (map f l)
map_take f zero l = refl
map_take f (suc n) [] = refl
map_take f (suc n) (x ∷ l) = ap (λ r. f x ∷ r) (map_take f n l)

-- The numbers in that column are those sorts.
pub sorts_put : (text : List ℕ) (rows : Rows) (part : List ℕ) → length part ≡ length rows → ((i : ℕ) → i < length rows → get_or part i 0 ≡ column (row_at rows i) 3) → part ≡ sorts_in text rows (length rows)
sorts_put text rows part e h =
    let f : List ℕ → ℕ = λ r. column r 3 in
    let t : take (length rows) rows ≡ rows = take_all _ _ (omega arith) in
    ext_get_or 0 part (map f rows) (e ∙ sym (map_length f rows)) (λ i l. h i (rw e at l) ∙ sym (get_or-map f rows i []))
    ∙ ap (map f) (sym t) ∙ sym (sorts_column text rows (length rows))

-- A row changed again.
pub over : (rules rules' rules'' : Rows) (i : ℕ) → i < length rules → (row : List ℕ) (f : List ℕ → List ℕ) → rules' ≡ set rules i row → rules'' ≡ set rules' i (f (row_at rules' i)) → rules'' ≡ set rules i (f row)
over rules rules' rules'' i l row f e d =
    d ∙ ap (λ (x : Rows). set x i (f (row_at x i))) e ∙ set-set rules i row _ ∙ ap (λ (x : List ℕ). set rules i (f x)) (get_or-set_same rules i row [] l)

pub still_there : (rules rules' : Rows) (i : ℕ) → i < length rules → (row : List ℕ) → rules' ≡ set rules i row → i < length rules'
still_there rules rules' i l row e = rw e (rw (length-set rules i row) l)

-- A place as a number.
pub number_unwrapped : (table : List (Option ℕ)) (j : ℕ) → j < length table → get_or (place_numbers table) j 0 ≡ unwrap_or (get_or table j None) pattern_room
number_unwrapped [] j l = absurd (omega arith)
number_unwrapped (p ∷ table) zero l = refl
number_unwrapped (p ∷ table) (suc j) l = number_unwrapped table j (omega arith)

-- All places of a table.
pub numbers_all : (table : List (Option ℕ)) → take (length table) (place_numbers table) ≡ place_numbers table
numbers_all [] = refl
numbers_all (p ∷ table) = ap (λ l. unwrap_or p pattern_room ∷ l) (numbers_all table)

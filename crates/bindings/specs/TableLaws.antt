-- Laws of tables: what an entry changes, and that taking it back gives the very same rows.
use Rattle.std.specs.Prelude.{ℕ, suc, ◌+◌, ◌-◌, ◌≤◌, ◌<◌, ◌≡◌, refl, ◌≢◌, length, set}
use Rattle.std.proofs.Common.{arith, ◌∙◌, subst}
use Rattle.std.proofs.Math.Path.{sym, ap, ap₂}
use mathlib.Core.List.{List, [], ◌∷◌}
use Rattle.std.proofs.Math.ListN.{get_or, length-set, get_or-eq_default}
use Rattle.std.proofs.Math.Seq.{get_or-set_same, get_or-set_other, ext_get_or}
use Rattle.terms.specs.Numbers.{by_same}
use Rattle.bindings.specs.Promises.{Replaced, Entered, Undoable}
use Rattle.arena.specs.Rows.{Rows, column, pair_is}
use Rattle.bindings.specs.Tables.{valued, listed, entered, removed, undone}

pub column_same : (c : ℕ) (t : Rows) (d : ℕ) (row : List ℕ) → d < length t → column c (set t d row) d ≡ get_or row c 0
column_same c t d row l = ap (λ (z : List ℕ). get_or z c 0) (get_or-set_same t d row [] l)

pub column_other : (c : ℕ) (t : Rows) (d j : ℕ) (row : List ℕ) → j ≢ d → column c (set t d row) j ≡ column c t j
column_other c t d j row n = ap (λ (z : List ℕ). get_or z c 0) (get_or-set_other t d j row [] n)

pub column_past : (t : Rows) (c j : ℕ) → length t ≤ j → column c t j ≡ get_or [] c 0
column_past t c j p = ap (λ (z : List ℕ). get_or z c 0) (get_or-eq_default t [] p)

-- A pair with another number.
pub first_set : (row : List ℕ) (v : ℕ) → length row ≡ 2 → set row 0 v ≡ v ∷ get_or row 1 0 ∷ []
first_set [] v e = absurd (omega arith)
first_set (x ∷ []) v e = absurd (omega arith)
first_set (x ∷ y ∷ []) v e = refl
first_set (x ∷ y ∷ z ∷ l) v e = absurd (omega arith)

pub second_set : (row : List ℕ) (v : ℕ) → length row ≡ 2 → set row 1 v ≡ get_or row 0 0 ∷ v ∷ []
second_set [] v e = absurd (omega arith)
second_set (x ∷ []) v e = absurd (omega arith)
second_set (x ∷ y ∷ []) v e = refl
second_set (x ∷ y ∷ z ∷ l) v e = absurd (omega arith)

-- A value set at a key, and a key set in the list.
module _ (t : Rows) (key value : ℕ) (l : key < length t) where
  pub valued_at : column 0 (valued t key value) key ≡ value
  valued_at = column_same 0 t key _ l

  pub valued_off : (y : ℕ) → y ≢ key → column 0 (valued t key value) y ≡ column 0 t y
  valued_off y n = column_other 0 t key y _ n

  pub valued_list : (i : ℕ) → column 1 (valued t key value) i ≡ column 1 t i
  valued_list i = by_same i key (λ p e. rw p (column_same 1 t key _ l)) (λ p e. column_other 1 t key i _ p)

module _ (t : Rows) (n key : ℕ) (l : n < length t) where
  pub listed_at : column 1 (listed t n key) n ≡ key
  listed_at = column_same 1 t n _ l

  pub listed_off : (i : ℕ) → i ≢ n → column 1 (listed t n key) i ≡ column 1 t i
  listed_off i p = column_other 1 t n i _ p

  pub listed_values : (y : ℕ) → column 0 (listed t n key) y ≡ column 0 t y
  listed_values y = by_same y n (λ p e. rw p (column_same 0 t n _ l)) (λ p e. column_other 0 t n y _ p)

-- What an entry changes.
pub record Changed (t t' : Rows) (n key value : ℕ) : Type 0 where
  pub long : length t' ≡ length t
  pub at : column 0 t' key ≡ value
  pub off : (y : ℕ) → y ≢ key → column 0 t' y ≡ column 0 t y
  pub list : column 1 t' n ≡ key
  pub others : (i : ℕ) → i ≢ n → column 1 t' i ≡ column 1 t i

module _ (t : Rows) (n key value : ℕ) (ln : n < length t) (lk : key < length t) where
  within : n < length (valued t key value)
  within = let e = length-set t key (value ∷ column 1 t key ∷ []) in omega arith

  pub entered_changed : Changed t (entered t n key value) n key value
  unfolding entered
  entered_changed = record {
    long = length-set (valued t key value) n _ ∙ length-set t key _;
    at = listed_values (valued t key value) n key within key ∙ valued_at t key value lk;
    off = λ y p. listed_values (valued t key value) n key within y ∙ valued_off t key value lk y p;
    list = listed_at (valued t key value) n key within;
    others = λ i p. listed_off (valued t key value) n key within i p ∙ valued_list t key value lk i;
  }

-- What is changed by taking an entry back.
pub record Dropped (t t' : Rows) (n : ℕ) : Type 0 where
  pub long : length t' ≡ length t
  pub at : column 0 t' (column 1 t n) ≡ 0
  pub off : (y : ℕ) → y ≢ column 1 t n → column 0 t' y ≡ column 0 t y
  pub list : column 1 t' n ≡ 0
  pub others : (i : ℕ) → i ≢ n → column 1 t' i ≡ column 1 t i

pub removed_dropped : (t : Rows) (n : ℕ) → n < length t → column 1 t n < length t → Dropped t (removed t n) n
unfolding removed
removed_dropped t n ln lk =
    let v = valued t (column 1 t n) 0 in
    let e : length (valued t (column 1 t n) 0) ≡ length t = length-set t (column 1 t n) _ in
    let l : n < length (valued t (column 1 t n) 0) = omega arith in
    record {
      long = length-set (valued t (column 1 t n) 0) n _ ∙ e;
      at = listed_values (valued t (column 1 t n) 0) n 0 l (column 1 t n) ∙ valued_at t (column 1 t n) 0 lk;
      off = λ y p. listed_values (valued t (column 1 t n) 0) n 0 l y ∙ valued_off t (column 1 t n) 0 lk y p;
      list = listed_at (valued t (column 1 t n) 0) n 0 l;
      others = λ i p. listed_off (valued t (column 1 t n) 0) n 0 l i p ∙ valued_list t (column 1 t n) 0 lk i;
    }

-- An entry of what was empty, taken back, gives the very same rows.
module _ (t : Rows) (n key value : ℕ) (ln : n < length t) (lk : key < length t)
    (wk : length (get_or t key []) ≡ 2) (wn : length (get_or (valued t key value) n []) ≡ 2) (zk : column 0 t key ≡ 0) (zn : column 1 t n ≡ 0) where
  abbrev e : Rows
  e = entered t n key value

  abbrev d : Rows
  d = valued (entered t n key value) key 0

  ch : Changed t e n key value
  ch = entered_changed t n key value ln lk

  le : length e ≡ length t
  le = ch.long

  ld : length d ≡ length t
  ld = length-set (entered t n key value) key _ ∙ ch.long

  -- the row at n, where n is no key
  row_n : n ≢ key → get_or t n [] ≡ column 0 t n ∷ column 1 t n ∷ []
  row_n p = let q : get_or (valued t key value) n [] ≡ get_or t n [] = get_or-set_other t key n _ [] p in pair_is (get_or t n []) (ap length (sym q) ∙ wn)

  col_n : column 0 d n ≡ column 0 t n
  col_n = by_same n key
      (λ p _. ap (column 0 d) p ∙ valued_at (entered t n key value) key 0 (let q = le in omega arith) ∙ sym zk ∙ ap (column 0 t) (sym p))
      (λ p _. valued_off (entered t n key value) key 0 (let q = le in omega arith) n p ∙ ch.off n p)

  whole_n : get_or t n [] ≡ column 0 t n ∷ column 1 t n ∷ []
  whole_n = by_same n key (λ p _. subst (λ (j : ℕ). get_or t j [] ≡ column 0 t j ∷ column 1 t j ∷ []) (sym p) (pair_is (get_or t key []) wk)) (λ p _. row_n p)

  each : (j : ℕ) → get_or (listed d n 0) j [] ≡ get_or t j []
  unfolding entered
  each j = by_same j n
      (λ p _. ap (λ (i : ℕ). get_or (listed d n 0) i []) p ∙ get_or-set_same d n _ [] (let q = ld in omega arith)
      ∙ ap₂ (λ (x y : ℕ). x ∷ y ∷ []) col_n (sym zn) ∙ sym whole_n ∙ ap (λ (i : ℕ). get_or t i []) (sym p))
      (λ p _. get_or-set_other d n j _ [] p ∙ by_same j key
      (λ q _. ap (λ (i : ℕ). get_or d i []) q ∙ get_or-set_same (entered t n key value) key _ [] (let z = le in omega arith)
      ∙ ap₂ (λ (x y : ℕ). x ∷ y ∷ []) (sym zk) (ch.others key (λ z. p (q ∙ z))) ∙ sym (pair_is (get_or t key []) wk) ∙ ap (λ (i : ℕ). get_or t i []) (sym q))
      (λ q _. get_or-set_other (entered t n key value) key j _ [] q ∙ get_or-set_other (valued t key value) n j _ [] p ∙ get_or-set_other t key j _ [] q))

  pub restored : removed (entered t n key value) n ≡ t
  unfolding removed
  restored = ap (λ (k : ℕ). listed (valued (entered t n key value) k 0) n 0) ch.list
      ∙ ext_get_or [] (listed d n 0) t (length-set d n _ ∙ ld) (λ i l. each i)

-- An entry is made of two rows replaced, and so is its removal.
pub entered_is : (t t₁ t₂ : Rows) (n key value : ℕ) → n < length t → key < length t → Replaced t t₁ key 2 (valued t key value) → Replaced t₁ t₂ n 2 (listed t₁ n key) → Entered t t₂ n key value
unfolding entered
entered_is t t₁ t₂ n key value ln lk p q =
    let e : t₂ ≡ entered t n key value = q.is ∙ ap (λ (s : Rows). listed s n key) p.is in
    record {
      is = e;
      back = λ zk zn. ap (λ (s : Rows). removed s n) e ∙ restored t n key value ln lk p.wide (ap (λ (s : Rows). length (get_or s n [])) (sym p.is) ∙ q.wide) zk zn;
    }

pub removed_is : (t t₁ t₂ : Rows) (n key : ℕ) → key ≡ column 1 t n → t₁ ≡ valued t key 0 → t₂ ≡ listed t₁ n 0 → t₂ ≡ removed t n
unfolding removed
removed_is t t₁ t₂ n key k p q = q ∙ ap (λ (s : Rows). listed s n 0) (p ∙ ap (λ (j : ℕ). valued t j 0) k)

-- Rows of two numbers, in which numbers are set.
abbrev pub Pairs : Rows → Type 0
Pairs t = (i : ℕ) → i < length t → length (get_or t i []) ≡ 2

set_pairs : (t : Rows) (j : ℕ) (row : List ℕ) → Pairs t → length row ≡ 2 → Pairs (set t j row)
set_pairs t j row p e i l =
    let n = length-set t j row in
    by_same i j
    (λ q _. ap (λ (k : ℕ). length (get_or (set t j row) k [])) q ∙ ap length (get_or-set_same t j row [] (omega arith)) ∙ e)
    (λ q _. ap length (get_or-set_other t j i row [] q) ∙ p i (omega arith))

-- A value put at a key.
abbrev value_put : Rows → ℕ → ℕ → Rows
value_put t key value = set t key (set (get_or t key []) 0 value)

-- And then a key put at position n of the list.
abbrev pub both_put : Rows → ℕ → ℕ → ℕ → ℕ → Rows
both_put t n key value k = set (value_put t key value) n (set (get_or (value_put t key value) n []) 1 k)

module _ (t : Rows) (n key value : ℕ) (pairs : Pairs t) (ln : n < length t) (lk : key < length t) where
  value_is : value_put t key value ≡ valued t key value
  value_is = ap (set t key) (first_set (get_or t key []) value (pairs key lk))

  valued_pairs : Pairs (valued t key value)
  valued_pairs = set_pairs t key (value ∷ column 1 t key ∷ []) pairs refl

  wide : length (get_or (valued t key value) n []) ≡ 2
  wide = let e = length-set t key (value ∷ column 1 t key ∷ []) in valued_pairs n (omega arith)

  pub both_is : (k : ℕ) → both_put t n key value k ≡ listed (valued t key value) n k
  both_is k =
      ap (λ (s : Rows). set s n (set (get_or s n []) 1 k)) value_is
      ∙ ap (set (valued t key value) n) (second_set (get_or (valued t key value) n []) k wide)

  pub put_pairs : (k : ℕ) → Pairs (both_put t n key value k)
  put_pairs k = subst Pairs (sym (both_is k)) (set_pairs (valued t key value) n (column 0 (valued t key value) n ∷ k ∷ []) valued_pairs refl)

  pub put_entered : Entered t (both_put t n key value key) n key value
  put_entered = entered_is t (valued t key value) (both_put t n key value key) n key value ln lk (record { is = refl; wide = pairs key lk }) (record { is = both_is key; wide = wide })

-- Taking back one more.
pub undone_more : (t t' : Rows) (mark n : ℕ) → mark ≤ n → removed t' n ≡ t → undone t' mark (n + 1 - mark) ≡ undone t mark (n - mark)
unfolding undone
undone_more t t' mark n l e =
    let p : n + 1 - mark ≡ suc (n - mark) = omega arith in
    let q : mark + (n - mark) ≡ n = omega arith in
    ap (undone t' mark) p ∙ ap (λ (j : ℕ). undone (removed t' j) mark (n - mark)) q ∙ ap (λ (s : Rows). undone s mark (n - mark)) e

pub undone_none : (t : Rows) (mark : ℕ) → undone t mark (mark - mark) ≡ t
unfolding undone
undone_none t mark = let e : mark - mark ≡ 0 = omega arith in ap (undone t mark) e

-- Taking back, step by step: what is left to take back comes to the same rows.
pub record Undoing (t₀ : Rows) (n₀ mark : ℕ) (t : Rows) (n : ℕ) : Type 0 where
  pub above : mark ≤ n
  pub long : length t ≡ length t₀
  pub within : n ≤ length t₀
  pub keys : (i : ℕ) → mark ≤ i → i < n → column 1 t i < length t₀
  pub is : undone t mark (n - mark) ≡ undone t₀ mark (n₀ - mark)

pub undo_start : {t : Rows} {n mark : ℕ} → Undoable t n mark → Undoing t n mark t n
undo_start h = record { above = h.above; long = refl; within = h.within; keys = h.keys; is = refl }

pub undo_step : {t₀ : Rows} {n₀ mark : ℕ} {t : Rows} {n : ℕ} → Undoing t₀ n₀ mark t n → mark < n → Undoing t₀ n₀ mark (removed t (n - 1)) (n - 1)
undo_step {t₀} {n₀} {mark} {t} {n} h l =
    let a = h.long in let b = h.within in let k = h.keys (n - 1) (omega arith) (omega arith) in
    let d = removed_dropped t (n - 1) (omega arith) (omega arith) in
    let q : n - 1 + 1 ≡ n = omega arith in
    let z = undone_more (removed t (n - 1)) t mark (n - 1) (omega arith) refl in
    record {
      above = omega arith;
      long = d.long ∙ h.long;
      within = omega arith;
      keys = λ i p q. let x = d.others i (λ e. omega arith) in let y = h.keys i p (omega arith) in omega arith;
      is = sym z ∙ ap (λ (j : ℕ). undone t mark (j - mark)) q ∙ h.is;
    }

-- The same, as it is written.
pub undo_put : {t₀ : Rows} {n₀ mark : ℕ} {t : Rows} {n : ℕ} → Undoing t₀ n₀ mark t n → (pairs : Pairs t) → mark < n
    → (let s = both_put t (n - 1) (column 1 t (n - 1)) 0 0 in Undoing t₀ n₀ mark s (n - 1) × Pairs s)
unfolding removed
undo_put {t₀} {n₀} {mark} {t} {n} h pairs l =
    let a = h.long in let b = h.within in let k = h.keys (n - 1) (omega arith) (omega arith) in (
      subst (λ (s : Rows). Undoing t₀ n₀ mark s (n - 1)) (sym (both_is t (n - 1) (column 1 t (n - 1)) 0 pairs (omega arith) (omega arith) 0)) (undo_step h l),
      put_pairs t (n - 1) (column 1 t (n - 1)) 0 pairs (omega arith) (omega arith) 0,
    )

pub undo_end : {t₀ : Rows} {n₀ mark : ℕ} {t : Rows} {n : ℕ} → Undoing t₀ n₀ mark t n → n ≤ mark → t ≡ undone t₀ mark (n₀ - mark)
unfolding undone
undo_end {t₀} {n₀} {mark} {t} {n} h l = let a = h.above in let e : n - mark ≡ 0 = omega arith in sym (ap (undone t mark) e) ∙ h.is

pub undo_in : {t₀ : Rows} {n₀ mark : ℕ} {t : Rows} {n : ℕ} → Undoing t₀ n₀ mark t n → mark < n → (n - 1 < length t) × (column 1 t (n - 1) < length t)
undo_in {n = n} h l = let a = h.long in let b = h.within in let k = h.keys (n - 1) (omega arith) (omega arith) in (omega arith, omega arith)

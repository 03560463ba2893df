-- Tables whose keys are below a size and are entered at most once: how many more can be entered, and that all can be taken back.
use Rattle.std.specs.Prelude.{ℕ, zero, suc, ◌+◌, ◌-◌, ◌≤◌, ◌<◌, ◌≡◌, refl, ◌≢◌, length}
use Rattle.std.proofs.Common.{zero-le, arith, not-suc-le-zero, sym, ap, ap₂, ◌∙◌, subst}
use Rattle.terms.specs.Numbers.{by_same}
use Rattle.arena.specs.Rows.{Rows, column}
use Rattle.bindings.specs.Tables.{Empty, undone}
use Rattle.bindings.specs.Promises.{Entered, Undoable}
use Rattle.bindings.specs.Orders.{by_order}
use Rattle.bindings.specs.TableLaws.{Changed, entered_changed, undone_more}

-- One for 0.
abbrev is_zero : ℕ → ℕ
is_zero zero = 1
is_zero (suc n) = 0

-- How many of the first n numbers are 0.
abbrev pub zeros : (ℕ → ℕ) → ℕ → ℕ
zeros f zero = 0
zeros f (suc n) = is_zero (f n) + zeros f n

zeros_above : (f g : ℕ → ℕ) (n p : ℕ) → n ≤ p → ((a : ℕ) → a ≢ p → g a ≡ f a) → zeros g n ≡ zeros f n
zeros_above f g zero p l h = refl
zeros_above f g (suc n) p l h = ap₂ (λ (x y : ℕ). is_zero x + y) (h n (λ e. omega arith)) (zeros_above f g n p (omega arith) h)

-- One number that is no longer 0.
pub zeros_less : (f g : ℕ → ℕ) (n p q : ℕ) → p < n → f p ≡ 0 → g p ≡ suc q → ((a : ℕ) → a ≢ p → g a ≡ f a) → suc (zeros g n) ≡ zeros f n
zeros_less f g zero p q l e e' h = absurd (not-suc-le-zero l)
zeros_less f g (suc n) p q l e e' h = by_same n p
    (λ r _. let a : is_zero (f n) ≡ 1 = ap is_zero (ap f r ∙ e) in let b : is_zero (g n) ≡ 0 = ap is_zero (ap g r ∙ e') in
    let s = zeros_above f g n p (omega arith) h in omega arith)
    (λ r _. let a : is_zero (g n) ≡ is_zero (f n) = ap is_zero (h n r) in let ih = zeros_less f g n p q (omega arith) e e' h in omega arith)

pub zeros_all : (f : ℕ → ℕ) (n : ℕ) → ((a : ℕ) → f a ≡ 0) → zeros f n ≡ n
zeros_all f zero h = refl
zeros_all f (suc n) h = let e : is_zero (f n) ≡ 1 = ap is_zero (h n) in let ih = zeros_all f n h in omega arith

-- The first t positions list the keys that have a value, each once; all are below the size.
pub record Entries (m : Rows) (size t : ℕ) : Type 0 where
  pub count : t + zeros (column 0 m) size ≡ size
  pub filled : (i : ℕ) → i < t → column 0 m (column 1 m i) ≢ 0
  pub all : (y : ℕ) → column 0 m y ≢ 0 → (i : ℕ) × (i < t) × (column 1 m i ≡ y)
  pub low : (y : ℕ) → column 0 m y ≢ 0 → y < size
  pub rest : (i : ℕ) → t ≤ i → column 1 m i ≡ 0

pub entries_none : (m : Rows) (size : ℕ) → Empty m → Entries m size 0
entries_none m size h = record {
  count = let z = zeros_all (column 0 m) size (λ a. h 0 a) in omega arith;
  filled = λ i l. absurd (not-suc-le-zero l);
  all = λ y n. absurd (n (h 0 y));
  low = λ y n. absurd (n (h 0 y));
  rest = λ i l. h 1 i;
}

pub entries_few : {m : Rows} {size t : ℕ} → Entries m size t → t ≤ size
entries_few h = let c = h.count in omega arith

-- Where a key below the size has no value, the list has room.
pub entries_room : {m : Rows} {size t : ℕ} → Entries m size t → (key : ℕ) → key < size → column 0 m key ≡ 0 → t < size
entries_room {m} {size} {t} h key l e = let c = h.count in let z = some (column 0 m) size key l e in omega arith
  where
    some : (f : ℕ → ℕ) (n p : ℕ) → p < n → f p ≡ 0 → 0 < zeros f n
    some f zero p l e = absurd (not-suc-le-zero l)
    some f (suc n) p l e = by_same n p
        (λ r _. let a : is_zero (f n) ≡ 1 = ap is_zero (ap f r ∙ e) in omega arith)
        (λ r _. let ih = some f n p (omega arith) e in omega arith)

-- One entry more.
pub entries_more : {m m' : Rows} {size t : ℕ} → Entries m size t → (key value : ℕ) → key < size → column 0 m key ≡ 0 → Changed m m' t key (suc value) → Entries m' size (t + 1)
entries_more {m} {m'} {size} {t} h key value l e ch = record {
  count = let c = h.count in let z = zeros_less (column 0 m) (column 0 m') size key value l e ch.at ch.off in omega arith;
  filled = λ i p. by_order i t
      (λ q. let o = ch.others i (λ r. omega arith) in
      let n : column 1 m i ≢ key = λ r. h.filled i q (ap (column 0 m) r ∙ e) in
      λ z. h.filled i q (sym (ch.off (column 1 m i) n) ∙ ap (column 0 m') (sym o) ∙ z))
      (λ q z. let it : i ≡ t = omega arith in let w : column 0 m' (column 1 m' i) ≡ suc value = ap (λ (j : ℕ). column 0 m' (column 1 m' j)) it ∙ ap (column 0 m') ch.list ∙ ch.at in omega arith);
  all = λ y n. by_same y key
      (λ p _. (t, omega arith, ch.list ∙ sym p))
      (λ p _. let (i, q, r) = h.all y (λ z. n (ch.off y p ∙ z)) in (i, omega arith, ch.others i (λ s. omega arith) ∙ r));
  low = λ y n. by_same y key (λ p _. omega arith) (λ p _. h.low y (λ z. n (ch.off y p ∙ z)));
  rest = λ i p. ch.others i (λ s. omega arith) ∙ h.rest i (omega arith);
}

-- All entries can be taken back.
pub entries_undoable : {m : Rows} {size t : ℕ} → Entries m size t → size ≤ length m → Undoable m t 0
entries_undoable h l = let f = entries_few h in
    record { above = zero-le; within = omega arith; keys = λ i p q. let z = h.low _ (h.filled i q) in omega arith }

-- After `enter`, where nothing stood.
pub enter_changed : {m m' : Rows} {t key value : ℕ} → Entered m m' t key value → t < length m → key < length m → Changed m m' t key value
enter_changed {m} {m'} {t} {key} {value} h lt lk = subst (λ (s : Rows). Changed m s t key value) (sym h.is) (entered_changed m t key value lt lk)

pub enter_back : {m m' : Rows} {t key value mark : ℕ} → Entered m m' t key value → mark ≤ t → column 0 m key ≡ 0 → column 1 m t ≡ 0 → undone m' mark (t + 1 - mark) ≡ undone m mark (t - mark)
enter_back {m} {m'} {t} {key} {value} {mark} h l zk zt = undone_more m m' mark t l (h.back zk zt)

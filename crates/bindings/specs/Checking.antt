-- The check of stored bindings: its parts hold together exactly where the rows are in form.
use Rattle.std.specs.Bool.{MatchBool}
use Rattle.std.specs.List.{range_with_len, HoldsAt, AllWithin}
use Rattle.std.proofs.lemmas.List.FromFn.{length-range_with_len, get_or-range_with_len}
use Rattle.std.specs.Prelude.{ℕ, zero, suc, ◌+◌, ◌-◌, ◌≤◌, ◌<◌, ◌≡◌, refl, Bool, true, false, ◌≢◌, Result, Ok, Err, List, get_or, length}
use Rattle.std.proofs.Common.{zero-le, arith, not-suc-le-zero, le_refl, sym, ap, subst, ◌∙◌, ⊎_elim}
use Rattle.std.proofs.Math.Option.{none, some}
use Rattle.terms.specs.Numbers.{by_bool, by_same, same_ne, true_false, some_none}
use Rattle.terms.specs.Bindings.{lookup, Acyclic, BelowB}
use Rattle.terms.specs.Order.{Distinct}
use Rattle.arena.specs.Cells.{Cells, cells, headers, denote, Reference, WellFormed, below_denote}
use Rattle.arena.specs.Rows.{Rows, column}
use Rattle.acyclicity.specs.Contract.{binding_of, Held, Stored, Decided}
use Rattle.bindings.specs.Tables.{Empty, undone}
use Rattle.bindings.specs.Stored.{bindings, held, Form}
use Rattle.bindings.specs.Promises.{Entered, Undoable, Tells, Trailed, BindingsChecked}
use Rattle.bindings.specs.Orders.{by_order, same_or_not, not_zero}
use Rattle.bindings.specs.Entries.{Entries, entries_none, entries_room, entries_more, entries_undoable, enter_changed, enter_back}
use Rattle.bindings.specs.Search.{undone_zero}
use Rattle.bindings.specs.Holding.{form_holds, bindings_low, bindings_one, trail_in}

pub tells_no : {P : Type 0} → (P → ⊥) → Tells false P
tells_no n = record { yes = λ e. true_false (sym (sym e)) refl; back = λ p. absurd (n p) }

pub tells_yes : {P : Type 0} → P → Tells true P
tells_yes p = record { yes = λ _. p; back = λ _. refl }

pub tells_false : {answer : Bool} {P : Type 0} → Tells answer P → answer ≡ false → P → ⊥
tells_false h e p = true_false {P = ⊥} (h.back p) e

pub tells_iff : {answer : Bool} {P Q : Type 0} → (P → Q) → (Q → P) → Tells answer P → Tells answer Q
tells_iff f g h = record { yes = λ e. f (h.yes e); back = λ q. h.back (g q) }

-- Where a chain tells that each number has P, or names one that has not, its answer tells so; likewise of the numbers below n.
pub tells_each : (P : ℕ → Type 0) (xs : List ℕ) (answer : Bool) → MatchBool answer (AllWithin P xs 0 (length xs)) ((k : ℕ) × (k < length xs) × HoldsAt (λ x. P x → ⊥) xs k)
    → Tells answer ((k : ℕ) → k < length xs → P (get_or xs k 0))
tells_each P xs true h = tells_yes (λ k l. h k 0 (omega arith) l)
tells_each P xs false h = tells_no (λ f. h.2 0 (f h.0 h.1))

pub tells_below : (P : ℕ → Type 0) (n : ℕ) (answer : Bool)
    → MatchBool answer (AllWithin P (range_with_len 0 n) 0 (length (range_with_len 0 n))) ((k : ℕ) × (k < length (range_with_len 0 n)) × HoldsAt (λ x. P x → ⊥) (range_with_len 0 n) k)
    → Tells answer ((k : ℕ) → k < n → P k)
tells_below P n answer h =
    let long = length-range_with_len 0 n in
    let is : (k : ℕ) → k < n → get_or (range_with_len 0 n) k 0 ≡ k = (λ k l. get_or-range_with_len 0 n k 0 l ∙ (let z : 0 + k ≡ k = omega arith in z)) in
    tells_iff (λ f k l. subst P (is k l) (f k (rw long l))) (λ f k l. let m = rw long at l in subst P (sym (is k m)) (f k m)) (tells_each P (range_with_len 0 n) answer h)

-- The trail entered among the marks.
pub record Entering (b m₀ m : Rows) (variables n : ℕ) : Type 0 where
  pub entries : Entries m variables n
  pub long : length m ≡ length m₀
  pub undo : undone m 0 n ≡ m₀
  pub same : (i : ℕ) → i < n → column 1 m i ≡ column 1 b i
  pub in_use : (i : ℕ) → i < n → column 1 b i < variables
  pub bound : (i : ℕ) → i < n → column 0 b (column 1 b i) ≢ 0
  pub distinct : (i j : ℕ) → i < j → j < n → column 1 b i ≢ column 1 b j

-- How many entries of the trail were entered, of k.
abbrev pub entered : Result (Unit {0}) ℕ → ℕ → ℕ
entered (Ok u) k = k
entered (Err n) k = n

-- n of the first k entries were entered, and where that is not all, the next one is not in use, or not bound, or entered already.
pub record TrailEntered (b m₀ m : Rows) (variables k n : ℕ) : Type 0 where
  pub entering : Entering b m₀ m variables n
  pub le : n ≤ k
  pub stuck : n < k → column 1 b n < variables → column 0 b (column 1 b n) ≢ 0 → column 0 m (column 1 b n) ≡ 0 → ⊥

pub entering_start : (b m : Rows) (variables : ℕ) → Empty m → Entering b m m variables 0
entering_start b m variables z = record {
  entries = entries_none m variables z;
  long = refl;
  undo = undone_zero m 0;
  same = λ i l. absurd (not-suc-le-zero l);
  in_use = λ i l. absurd (not-suc-le-zero l);
  bound = λ i l. absurd (not-suc-le-zero l);
  distinct = λ i j a l. absurd (not-suc-le-zero l);
}

module _ {b m₀ m : Rows} {variables n : ℕ} (h : Entering b m₀ m variables n) (low : column 1 b n < variables) (free : column 0 m (column 1 b n) ≡ 0) where
  pub entering_room : variables ≤ length m₀ → (n < length m) × (column 1 b n < length m)
  entering_room l = let r = entries_room h.entries (column 1 b n) low free in let e = h.long in (omega arith, omega arith)

  pub entering_more : variables ≤ length m₀ → column 0 b (column 1 b n) ≢ 0 → (m' : Rows) → Entered m m' n (column 1 b n) 1 → Entering b m₀ m' variables (n + 1)
  entering_more l bd m' en =
      let (ln, lk) = entering_room l in
      let ch = enter_changed en ln lk in
      let p : n + 1 - 0 ≡ n + 1 = omega arith in let p' : n - 0 ≡ n = omega arith in
      record {
        entries = entries_more h.entries (column 1 b n) 0 low free ch;
        long = ch.long ∙ h.long;
        undo = ap (undone m' 0) (sym p) ∙ enter_back {mark = 0} en zero-le free (h.entries.rest n (le_refl n)) ∙ ap (undone m 0) p' ∙ h.undo;
        same = λ i q. by_same i n (λ e _. subst (λ (j : ℕ). column 1 m' j ≡ column 1 b j) (sym e) ch.list) (λ e _. ch.others i e ∙ h.same i (by_order i n (λ a. a) (λ a. absurd (e (omega arith)))));
        in_use = λ i q. by_order i n (λ a. h.in_use i a) (λ a. let e : i ≡ n = omega arith in subst (λ (j : ℕ). column 1 b j < variables) (sym e) low);
        bound = λ i q. by_order i n (λ a. h.bound i a) (λ a. let e : i ≡ n = omega arith in subst (λ (j : ℕ). column 0 b (column 1 b j) ≢ 0) (sym e) bd);
        distinct = λ i j a q. by_order j n (λ c. h.distinct i j a c)
            (λ c d. let e : j ≡ n = omega arith in h.entries.filled i (omega arith) (ap (column 0 m) (h.same i (omega arith) ∙ d ∙ ap (column 1 b) e) ∙ free));
      }

-- A value in form: its variable is in use and entered.
abbrev pub GoodValue : ℕ → List ℕ → Rows → Rows → ℕ → ℕ → ℕ → Type 0
GoodValue N w b m variables used v = column 0 b v ≢ 0 → (v < variables) × (column 0 m v ≢ 0) × Reference N (cells w) variables used (column 0 b v - 1)

module _ {b m₀ m : Rows} {variables k n : ℕ} (h : TrailEntered b m₀ m variables k n) where
  pub entered_undoable : variables ≤ length m₀ → Undoable m n 0
  entered_undoable l = entries_undoable h.entering.entries (let e = h.entering.long in omega arith)

  pub entered_undone : undone m 0 (n - 0) ≡ m₀
  entered_undone = let e : n - 0 ≡ n = omega arith in ap (undone m 0) e ∙ h.entering.undo

  trail_all : k ≤ n → n ≡ k
  trail_all l = let e = h.le in omega arith

module _ {N : ℕ} {w : List ℕ} {b m₀ m : Rows} {variables used k n : ℕ} (h : TrailEntered b m₀ m variables k n) where
  -- not all of the trail could be entered
  pub trailed_not : n < k → Trailed N w b variables used k → ⊥
  trailed_not l t = h.stuck l (t.in_use n l) (t.bound n l)
      (⊎_elim (λ e. e) (λ e. let (i, li, q) = h.entering.entries.all (column 1 b n) e in absurd (t.distinct i n li l (sym (h.entering.same i li) ∙ q))) (same_or_not (column 0 m (column 1 b n)) 0))

  pub trailed_tells : {answer : Bool} → k ≤ n → Tells answer ((v : ℕ) → GoodValue N w b m variables used v) → Tells answer (Trailed N w b variables used k)
  trailed_tells l g = record {
    yes = λ e. let f = g.yes e in record {
      in_use = λ i p. h.entering.in_use i (omega arith);
      bound = λ i p. h.entering.bound i (omega arith);
      distinct = λ i j a p. h.entering.distinct i j a (omega arith);
      values = λ v ne. let (u, mk, rf) = f v ne in let (i, li, q) = h.entering.entries.all v mk in let nk = trail_all h l in (u, (i, omega arith, sym (h.entering.same i li) ∙ q), rf);
    };
    back = λ t. g.back (λ v ne. let (u, ix, rf) = t.values v ne in let (i, li, q) = ix in let nk = trail_all h l in
        (u, (λ z. h.entering.entries.filled i (omega arith) (ap (column 0 m) (h.entering.same i (omega arith) ∙ q) ∙ z)), rf));
  }

-- a variable that is found is listed
listed_at : (N : ℕ) (w : List ℕ) (b : Rows) (j v : ℕ) → lookup (held N w b j) v ≢ none → (i : ℕ) × (i < j) × (column 1 b i ≡ v)
listed_at N w b zero v n = absurd (n refl)
listed_at N w b (suc j) v n = by_same v (column 1 b j)
    (λ p q. (j, omega arith, sym p))
    (λ p q. let (i, l, e) = listed_at N w b j v (λ z. n (rw q z)) in (i, omega arith, e))

-- What `check_trail` answered.
pub record TrailChecked (N : ℕ) (w : List ℕ) (b m m' : Rows) (variables used k : ℕ) (answer : Bool) : Type 0 where
  pub tells : Tells answer (Trailed N w b variables used k)
  pub marks : m' ≡ m

-- A variable that the trail does not list is unbound.
bindings_none : (N : ℕ) (w values trail : Cells) (k v : ℕ) → ((i : ℕ) → i < k → trail i ≢ v) → lookup (bindings N w values trail k) v ≡ none
bindings_none N w values trail zero v h = refl
bindings_none N w values trail (suc k) v h = rw (same_ne {x = v} {y = trail k} (λ e. h k (omega arith) (sym e))) (bindings_none N w values trail k v (λ i l. h i (omega arith)))

-- The parts make the form.
module _ {N : ℕ} {w : List ℕ} {b : Rows} {variables used k : ℕ} where
  pub trailed_stored : WellFormed N (cells w) variables used → (variables ≤ N) × (N + used ≤ headers) × (used ≤ length w) → variables ≤ length b → Trailed N w b variables used k → Stored w b N variables used
  trailed_stored wf (few, low, lw) lb t = record {
    low = low;
    few = few;
    rows = lb;
    within = lw;
    formed = wf;
    bound = λ v r l e. let z : column 0 b v - 1 ≡ r = omega arith in subst (Reference N (cells w) variables used) z (t.values v (λ q. omega arith)).2;
  }

  -- a listed variable is found
  bindings_some : (j : ℕ) → j ≤ k → Trailed N w b variables used k → (i : ℕ) → i < j → lookup (held N w b j) (column 1 b i) ≡ some (denote N (cells w) (column 0 b (column 1 b i) - 1))
  bindings_some zero lj t i l = absurd (not-suc-le-zero l)
  bindings_some (suc j) lj t i l = by_same (column 1 b i) (column 1 b j)
      (λ p q. rw q (ap (λ (v : ℕ). some (denote N (cells w) (column 0 b v - 1))) (sym p)))
      (λ p q. rw q (bindings_some j (omega arith) t i (by_order i j (λ a. a) (λ a. absurd (p (let e : i ≡ j = omega arith in ap (column 1 b) e))))))

  bindings_distinct : (j : ℕ) → j ≤ k → Trailed N w b variables used k → Distinct (held N w b j)
  bindings_distinct zero l t = tt
  bindings_distinct (suc j) l t = (bindings_none N (cells w) (column 0 b) (column 1 b) j (column 1 b j) (λ i p. t.distinct i j p l), bindings_distinct j (omega arith) t)

  bindings_below : (j : ℕ) → j ≤ k → WellFormed N (cells w) variables used → Trailed N w b variables used k → BelowB variables (held N w b j)
  bindings_below zero l wf t = tt
  bindings_below (suc j) l wf t =
      (t.in_use j l, below_denote N (cells w) variables used wf (column 0 b (column 1 b j) - 1) (t.values (column 1 b j) (t.bound j l)).2, bindings_below j (omega arith) wf t)

  -- the trail's bindings are a list of those that the values hold
  pub trailed_held : Trailed N w b variables used k → Held N (cells w) (column 0 b) variables (held N w b k)
  trailed_held t = record {
    distinct = bindings_distinct k (le_refl k) t;
    below = λ v l. at v (column 0 b v) refl;
    above = λ v l. bindings_none N (cells w) (column 0 b) (column 1 b) k v (λ i p q. let u = t.in_use i p in omega arith);
  }
    where
      at : (v z : ℕ) → column 0 b v ≡ z → lookup (held N w b k) v ≡ binding_of N (cells w) (column 0 b v)
      at v zero e = bindings_none N (cells w) (column 0 b) (column 1 b) k v (λ i l q. t.bound i l (ap (column 0 b) q ∙ e)) ∙ ap (binding_of N (cells w)) (sym e)
      at v (suc r) e =
          let (u, ix, rf) = t.values v (λ q. omega arith) in let (i, li, q) = ix in
          let d : column 0 b v - 1 ≡ r = omega arith in
          subst (λ (y : ℕ). lookup (held N w b k) y ≡ some (denote N (cells w) (column 0 b y - 1))) q (bindings_some k (le_refl k) t i li)
          ∙ ap (λ (y : ℕ). some (denote N (cells w) y)) d ∙ ap (binding_of N (cells w)) (sym e)

  pub form_checked : Stored w b N variables used → Trailed N w b variables used k → ((i : ℕ) → k ≤ i → column 1 b i ≡ 0) → Acyclic (held N w b k) → Form N w b variables used k
  form_checked s t rest acyclic = record {
    words = s.formed;
    few = s.few;
    low = s.low;
    lent_words = s.within;
    lent_rows = s.rows;
    references = s.bound;
    lookups = (trailed_held t).below;
    acyclic = acyclic;
    below = bindings_below k (le_refl k) s.formed t;
    unbound = λ v l. ⊎_elim (λ e. e) (λ e. let u = (t.values v e).0 in absurd (omega arith)) (same_or_not (column 0 b v) 0);
    rest = rest;
  }

  pub form_trailed : Form N w b variables used k → Trailed N w b variables used k
  form_trailed f = record {
    in_use = bindings_low N (cells w) (column 0 b) (column 1 b) variables k f.below;
    bound = (form_holds f).filled;
    distinct = bindings_one N (cells w) (column 0 b) (column 1 b) k f.acyclic;
    values = λ v n. let low : v < variables = by_order v variables (λ a. a) (λ a. absurd (n (f.unbound v a))) in
        let e = not_zero (column 0 b v) n in
        (low, listed_at N w b k v (λ z. some_none {P = ⊥} (f.lookups v low ∙ ap (binding_of N (cells w)) e) z), f.references v (column 0 b v - 1) low e);
  }

  pub form_few : Form N w b variables used k → k ≤ variables
  form_few f = trail_in (form_holds f)

-- The ways out of `check_bindings`.
module _ {N : ℕ} {w : List ℕ} {b m₀ : Rows} {variables used k : ℕ} where
  pub checked_no : (Form N w b variables used k → ⊥) → (m : Rows) → m ≡ m₀ → BindingsChecked N w b m₀ m variables used k false
  checked_no n m e = record { tells = tells_no n; marks = e }

  pub checked_last : {trail rest answer : Bool} {m₁ m₂ : Rows} → WellFormed N (cells w) variables used → (variables ≤ N) × (N + used ≤ headers) × (used ≤ length w) → variables ≤ length b
      → TrailChecked N w b m₀ m₁ variables used k trail → trail ≡ true → Tells rest ((i : ℕ) → k ≤ i → column 1 b i ≡ 0) → rest ≡ true
      → Decided w b N variables m₁ answer m₂ → BindingsChecked N w b m₀ m₂ variables used k answer
  checked_last {answer = answer} wf sizes lb t et r er d =
      let trailed = t.tells.yes et in
      record {
        tells = record {
          yes = λ e. form_checked (trailed_stored wf sizes lb trailed) trailed (r.yes er) (d.accepted e (held N w b k) (trailed_held trailed));
          back = λ f. by_bool answer (λ e. e) (λ e. absurd (d.refused e (held N w b k) (trailed_held trailed) f.acyclic));
        };
        marks = d.restored ∙ t.marks;
      }

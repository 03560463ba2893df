-- The search of the occurs check: a table of marks by reference, whose list is the queue of a search through all that a reference reaches.
use Rattle.std.specs.Prelude.{ℕ, suc, ◌+◌, ◌-◌, ◌≤◌, ◌<◌, ◌≡◌, refl, true, false, ◌⊎◌, ◌≢◌, List, length}
use Rattle.std.proofs.Common.{zero-le, arith, not-suc-le-zero, le_refl, sym, ap, ◌∙◌, inl, inr, ⊎_elim, below_more}
use Rattle.terms.specs.Numbers.{by_bool}
use Rattle.terms.specs.Term.{size}
use Rattle.terms.specs.Bindings.{res, occurs}
use Rattle.arena.specs.Cells.{Cells, cells, arity_of, denote, Reference, reference_argument}
use Rattle.arena.specs.Rows.{Rows, column}
use Rattle.bindings.specs.Tables.{undone}
use Rattle.bindings.specs.Stored.{held, Form, Edge, into, argument, Reaches, here, step}
use Rattle.bindings.specs.Promises.{Entered, Undoable}
use Rattle.bindings.specs.Orders.{low_or_high}
use Rattle.bindings.specs.Entries.{Entries, entries_room, entries_more, entries_undoable, enter_changed, enter_back}
use Rattle.bindings.specs.Holding.{form_holds}
use Rattle.bindings.specs.Occurrence.{reach_mem, mem_reach}

pub undone_zero : (t : Rows) (mark : ℕ) → undone t mark 0 ≡ t
unfolding undone
undone_zero t mark = refl

-- The marks grew by exactly the references of P, and taking all back gives the same rows as before.
pub record Grown (limit : ℕ) (P : ℕ → Type 0) (m : Rows) (t : ℕ) (m' : Rows) (t' : ℕ) : Type 0 where
  pub entries : Entries m' limit t'
  pub long : length m' ≡ length m
  pub up : t ≤ t'
  pub keep : (i : ℕ) → i < t → column 1 m' i ≡ column 1 m i
  pub new : (i : ℕ) → t ≤ i → i < t' → P (column 1 m' i)
  pub hit : (y : ℕ) → P y → column 0 m' y ≢ 0
  pub back : undone m' 0 t' ≡ undone m 0 t

-- One of the first n arguments of the node at address a.
abbrev pub ArgumentOf : List ℕ → ℕ → ℕ → ℕ → Type 0
ArgumentOf w a n y = (i : ℕ) × (i < n) × (y ≡ cells w (suc a + i))

-- one more mark
pub mark_one : {limit : ℕ} (m m' : Rows) (t y : ℕ) → Entries m limit t → y < limit → limit ≤ length m → column 0 m y ≡ 0 → Entered m m' t y 1 → Grown limit (λ z. z ≡ y) m t m' (t + 1)
mark_one {limit} m m' t y h l r e en =
    let t' = entries_room h y l e in
    let ch = enter_changed en (omega arith) (omega arith) in
    let d : t + 1 - 0 ≡ t + 1 = omega arith in
    let d' : t - 0 ≡ t = omega arith in
    let b = enter_back {mark = 0} en zero-le e (h.rest t (le_refl t)) in
    record {
      entries = entries_more h y 0 l e ch;
      long = ch.long;
      up = omega arith;
      keep = λ i p. ch.others i (λ q. omega arith);
      new = λ i p q. let s : i ≡ t = omega arith in ap (column 1 m') s ∙ ch.list;
      hit = λ z s n. let w : column 0 m' z ≡ 1 = ap (column 0 m') s ∙ ch.at in omega arith;
      back = ap (undone m' 0) (sym d) ∙ b ∙ ap (undone m 0) d';
    }

-- no new mark
pub mark_none : {limit : ℕ} (P : ℕ → Type 0) (m : Rows) (t : ℕ) → Entries m limit t → ((y : ℕ) → P y → column 0 m y ≢ 0) → Grown limit P m t m t
mark_none P m t h f = record {
  entries = h;
  long = refl;
  up = omega arith;
  keep = λ i l. refl;
  new = λ i l k. let z : ⊥ = omega arith in absurd z;
  hit = f;
  back = refl;
}

-- the same marks, said otherwise
pub grown_iff : {limit : ℕ} {P Q : ℕ → Type 0} {m m' : Rows} {t t' : ℕ} → ((y : ℕ) → P y → Q y) → ((y : ℕ) → Q y → P y) → Grown limit P m t m' t' → Grown limit Q m t m' t'
grown_iff f g h = record {
  entries = h.entries;
  long = h.long;
  up = h.up;
  keep = h.keep;
  new = λ i l k. f _ (h.new i l k);
  hit = λ y p. h.hit y (g y p);
  back = h.back;
}

-- what was marked stays marked
pub stays : {limit : ℕ} {P : ℕ → Type 0} {m m' : Rows} {t t' : ℕ} (y : ℕ) → Entries m limit t → Grown limit P m t m' t' → column 0 m y ≢ 0 → column 0 m' y ≢ 0
stays {m' = m'} {t = t} y h g n =
    let (i, l, k) = h.all y n in
    let u = g.up in
    let s = g.entries.filled i (omega arith) in
    λ z. s (ap (column 0 m') (g.keep i l ∙ k) ∙ z)

-- one step after another
pub grown_then : {limit : ℕ} {P Q : ℕ → Type 0} {m m' m'' : Rows} {t t' t'' : ℕ} → Grown limit P m t m' t' → Grown limit Q m' t' m'' t'' → Grown limit (λ y. P y ⊎ Q y) m t m'' t''
grown_then {m = m} {m' = m'} {m'' = m''} {t = t} {t' = t'} {t'' = t''} g h =
    let a = g.up in let b = h.up in
    record {
      entries = h.entries;
      long = h.long ∙ g.long;
      up = omega arith;
      keep = λ i l. h.keep i (omega arith) ∙ g.keep i l;
      new = λ i l k. ⊎_elim
          (λ n. inl (rw (h.keep i n) (g.new i l n)))
          (λ n. inr (h.new i n k))
          (low_or_high i t');
      hit = λ y. ⊎_elim (λ p. stays y g.entries h (g.hit y p)) (λ p. h.hit y p);
      back = h.back ∙ g.back;
    }

-- one argument more
pub args_more : {limit : ℕ} (w : List ℕ) (a i : ℕ) {m m' m'' : Rows} {t t' t'' : ℕ} → Grown limit (ArgumentOf w a i) m t m' t'
    → Grown limit (λ y. y ≡ cells w (suc a + i)) m' t' m'' t'' → Grown limit (ArgumentOf w a (i + 1)) m t m'' t''
args_more w a i g h =
    grown_iff
    (λ y. ⊎_elim (λ (j, l, p). (j, omega arith, p)) (λ p. (i, omega arith, p)))
    (λ y (j, l, p). ⊎_elim (λ s. inl (j, s, p)) (λ s. let d : j ≡ i = omega arith in inr (rw (← d) p)) (low_or_high j i))
    (grown_then g h)

pub args_none : {limit : ℕ} (w : List ℕ) (a : ℕ) (m : Rows) (t : ℕ) → Entries m limit t → Grown limit (ArgumentOf w a 0) m t m t
args_none w a m t h = mark_none (ArgumentOf w a 0) m t h (λ y (j, l, p). let z : ⊥ = omega arith in absurd z)

-- One step down.

module _ {N : ℕ} where
  edge_none : {w values : Cells} {r y : ℕ} → r < N → values r ≡ 0 → Edge N w values r y → ⊥
  edge_none l e (into l' e') = omega arith
  edge_none l e (argument i g h) = omega arith

  edge_into : {w values : Cells} {r x y : ℕ} → r < N → values r ≡ suc x → Edge N w values r y → y ≡ x
  edge_into l e (into l' e') = omega arith
  edge_into l e (argument i g h) = let z : ⊥ = omega arith in absurd z

  edge_argument : (w : List ℕ) {values : Cells} {r y : ℕ} → N ≤ r → Edge N (cells w) values r y → ArgumentOf w (r - N) (arity_of (cells w (r - N))) y
  edge_argument w l (into l' e') = let z : ⊥ = omega arith in absurd z
  edge_argument w l (argument i g h) = (i, h, refl)

  argument_edge : (w : List ℕ) (values : Cells) (r y : ℕ) → N ≤ r → ArgumentOf w (r - N) (arity_of (cells w (r - N))) y → Edge N (cells w) values r y
  argument_edge w values r y l (i, h, e) = rw e (argument i l h)

  -- a reference is within the marks
  pub reference_low : {w : Cells} {variables used r : ℕ} → Reference N w variables used r → r < N + used
  reference_low {r = r} h = ⊎_elim (λ l. omega arith) (λ l. h.node l) (low_or_high r N)

  -- and one step down from it is another
  pub edge_reference : {w : List ℕ} {b : Rows} {variables used k r y : ℕ} → Form N w b variables used k → Reference N (cells w) variables used r → Edge N (cells w) (column 0 b) r y → Reference N (cells w) variables used y
  edge_reference s h (into l e) = s.references _ _ (h.variable l) e
  edge_reference {w} {b} {variables} {used} {k} {r} s h (argument i l j) = reference_argument N (cells w) variables used s.words r i h l j

  reaches_more : {w values : Cells} {r s t : ℕ} → Reaches N w values r s → Edge N w values s t → Reaches N w values r t
  reaches_more here e = step e here
  reaches_more (step d h) e = step d (reaches_more h e)

  -- the edges, as they are followed
  module _ {w : List ℕ} {b : Rows} {variables used k r : ℕ} (f : Form N w b variables used k) (h : Reference N (cells w) variables used r) where
    pub edges_free : (m : Rows) (t : ℕ) → Entries m (N + used) t → r < N → column 0 b r ≡ 0 → Grown (N + used) (Edge N (cells w) (column 0 b) r) m t m t
    edges_free m t n l e = mark_none (Edge N (cells w) (column 0 b) r) m t n (λ y d. absurd (edge_none l e d))

    pub edges_bound : (x : ℕ) {m m' : Rows} {t t' : ℕ} → r < N → column 0 b r ≡ suc x → Grown (N + used) (λ z. z ≡ x) m t m' t'
        → Grown (N + used) (Edge N (cells w) (column 0 b) r) m t m' t'
    edges_bound x l e g = grown_iff (λ y d. rw d (into l e)) (λ y d. edge_into l e d) g

    pub edges_arguments : {m m' : Rows} {t t' : ℕ} → N ≤ r
        → Grown (N + used) (ArgumentOf w (r - N) (arity_of (cells w (r - N)))) m t m' t' → Grown (N + used) (Edge N (cells w) (column 0 b) r) m t m' t'
    edges_arguments l g = grown_iff (λ y d. argument_edge w (column 0 b) r y l d) (λ y d. edge_argument w l d) g

    -- what following them asks
    pub row_in : r < N → r < length b
    row_in l = let v = h.variable l in let n = f.lent_rows in omega arith

    pub value_in : (x : ℕ) → r < N → column 0 b r ≡ suc x → x < N + used
    value_in x l e = reference_low (edge_reference f h (into l e))

    pub node_in : N ≤ r → r - N + arity_of (cells w (r - N)) < length w
    node_in l = let n = h.node l in let g = f.words.fits (r - N) (omega arith) (h.header l) in let q = f.lent_words in omega arith

    pub argument_in : N ≤ r → (i : ℕ) → i < arity_of (cells w (r - N)) → cells w (suc (r - N) + i) < N + used
    argument_in l i j = let e : Edge N (cells w) (column 0 b) r (cells w (suc (r - N) + i)) = argument i l j in reference_low (edge_reference f h e)

-- The search: what stands in the queue was reached, and of what stands below h all edges are followed and none is x.
pub record Searched (N : ℕ) (w : List ℕ) (b m₀ m : Rows) (variables used r x h t : ℕ) : Type 0 where
  pub entries : Entries m (N + used) t
  pub long : length m ≡ length m₀
  pub back : undone m 0 t ≡ m₀
  pub le : h ≤ t
  pub start : column 0 m r ≢ 0
  pub queued : (i : ℕ) → i < t → Reference N (cells w) variables used (column 1 m i)
  pub come : (i : ℕ) → i < t → Reaches N (cells w) (column 0 b) r (column 1 m i)
  pub done : (i : ℕ) → i < h → (y : ℕ) → Edge N (cells w) (column 0 b) (column 1 m i) y → column 0 m y ≢ 0
  pub other : (i : ℕ) → i < h → column 1 m i ≢ x

module _ (N : ℕ) (w : List ℕ) (b m₀ : Rows) (variables used r x : ℕ) where
  pub search_start : (m : Rows) (t : ℕ) → Reference N (cells w) variables used r → Grown (N + used) (λ z. z ≡ r) m₀ 0 m t → Searched N w b (undone m 0 t) m variables used r x 0 t
  search_start m t f g = record {
    entries = g.entries;
    long = g.long ∙ ap length (sym (g.back ∙ undone_zero m₀ 0));
    back = refl;
    le = zero-le;
    start = g.hit r refl;
    queued = λ i l. rw (g.new i zero-le l) f;
    come = λ i l. rw (g.new i zero-le l) here;
    done = λ i l. absurd (not-suc-le-zero l);
    other = λ i l. absurd (not-suc-le-zero l);
  }

  pub search_step : {k : ℕ} (m m' : Rows) (h t t' : ℕ) → Form N w b variables used k → Searched N w b m₀ m variables used r x h t → h < t → column 1 m h ≢ x
      → Grown (N + used) (Edge N (cells w) (column 0 b) (column 1 m h)) m t m' t' → Searched N w b m₀ m' variables used r x (h + 1) t'
  search_step m m' h t t' st s l n g =
      let up = g.up in
      record {
        entries = g.entries;
        long = g.long ∙ s.long;
        back = g.back ∙ s.back;
        le = omega arith;
        start = stays r s.entries g s.start;
        queued = λ i k. ⊎_elim (λ o. rw (g.keep i o) (s.queued i o)) (λ o. edge_reference st (s.queued h l) (g.new i o k)) (low_or_high i t);
        come = λ i k. ⊎_elim (λ o. rw (g.keep i o) (s.come i o)) (λ o. reaches_more (s.come h l) (g.new i o k)) (low_or_high i t);
        done = below_more (λ i. (y : ℕ) → Edge N (cells w) (column 0 b) (column 1 m' i) y → column 0 m' y ≢ 0) h
            (λ i k y e. stays y s.entries g (s.done i k y (rw (g.keep i (let a = s.le in omega arith)) at e)))
            (λ y e. g.hit y (rw (g.keep h l) at e));
        other = below_more (λ i. column 1 m' i ≢ x) h
            (λ i k e. s.other i k (sym (g.keep i (let a = s.le in omega arith)) ∙ e))
            (λ e. n (sym (g.keep h l) ∙ e));
      }

  -- at the end what is marked is closed under edges
  closed : (m : Rows) (t : ℕ) → Searched N w b m₀ m variables used r x t t → {y z : ℕ} → Reaches N (cells w) (column 0 b) y z → column 0 m y ≢ 0 → column 0 m z ≢ 0
  closed m t s here e = e
  closed m t s {y} (step {s = v} d c) e =
      let (i, l, k) = s.entries.all y e in
      closed m t s c (s.done i l v (rw k d))

  pub search_end : (m : Rows) (h t : ℕ) → Searched N w b m₀ m variables used r x h t → t ≤ h → Reaches N (cells w) (column 0 b) r x → ⊥
  search_end m h t s l c =
      let a = s.le in let e : h ≡ t = omega arith in
      let s' : Searched N w b m₀ m variables used r x t t = rw e at s in
      let (i, k, d) = s.entries.all x (closed m t s' c s.start) in
      s'.other i k d

-- The marks were s, which are those at entry: all can be taken back, which gives them.
module _ {N : ℕ} {w : List ℕ} {b s m m₁ : Rows} {variables used r x h t : ℕ} (f : Searched N w b s m variables used r x h t) (e : s ≡ m₁) where
  pub searched_lent : N + used ≤ length m₁ → N + used ≤ length m
  searched_lent l = let n : length m ≡ length m₁ = f.long ∙ ap length e in omega arith

  pub searched_undoable : N + used ≤ length m₁ → Undoable m t 0
  searched_undoable l = entries_undoable f.entries (searched_lent l)

  pub searched_back : undone m 0 (t - 0) ≡ m₁
  searched_back = let d : t - 0 ≡ t = omega arith in ap (undone m 0) d ∙ f.back ∙ e

-- What the search says of the theory's occurs check.
module _ {N : ℕ} {w : List ℕ} {b : Rows} {variables used k x r : ℕ} (f : Form N w b variables used k) (g : Reference N (cells w) variables used r) where
  pub occurs_yes : x < variables → column 0 b x ≡ 0 → Reaches N (cells w) (column 0 b) r x → occurs (held N w b k) x (denote N (cells w) r) ≡ true
  occurs_yes l e h = reach_mem f.words (form_holds f) x l e g h

  pub occurs_no : (Reaches N (cells w) (column 0 b) r x → ⊥) → occurs (held N w b k) x (denote N (cells w) r) ≡ false
  occurs_no h = by_bool (occurs (held N w b k) x (denote N (cells w) r))
      (λ e. absurd (h (mem_reach f.words (form_holds f) x (size (res (held N w b k) (denote N (cells w) r))) r g (le_refl _) e))) (λ e. e)

-- The turns of the search's loop, over rows of marks and parents: each keeps the state of a search in depth, and what is left to do falls.
use Prim.Native.Nat.{ℕ, zero, suc, ◌+◌, ◌-◌, ◌*◌, ◌≤◌, ◌<◌}
use native.Mathlib.Omega.{arith}
use mathlib.Core.Path.{◌≡◌, refl, sym, ap, ◌∙◌, subst}
use mathlib.Core.Logic.{◌≢◌}
use mathlib.Core.List.{List, [], ◌∷◌}
use lib.ListN.{get_or, length, set, length-set}
use lib.Seq.{get_or-set_other}
use Rattle.terms.specs.Numbers.{by_less}
use Rattle.terms.specs.Bindings.{Bindings, Acyclic}
use Rattle.arena.specs.Cells.{headers, cells, Reference}
use Rattle.arena.specs.Rows.{Rows, column}
use Rattle.acyclicity.specs.Contract.{Held, Stored}
use Rattle.acyclicity.specs.Edges.{edge, Outside, Searchable}
use Rattle.acyclicity.proofs.Tables.{column_changed, all_changed, total, total_changed, total_most}
use Rattle.acyclicity.proofs.Depth.{State, skip, enter, cycle, begin, away, at_top, follow, close, nothing}
use Rattle.acyclicity.proofs.EdgeLaws.{edge_few, edge_first, reference_within, reference_inside, variable_reference, edge_reference}
use Rattle.acyclicity.proofs.Ranks.{accept, refuse}

-- What holds at each turn: the search stands in order, scratch has changed in rows for references alone, and of the variables below `next` none is new,
-- but for one ahead.
pub record Turn (words : List ℕ) (bindings : Rows) (N variables used : ℕ) (rows₀ rows : Rows) (next top ahead : ℕ) : Type 0 where
  pub stored : Stored words bindings N variables used
  pub room : N + used ≤ length rows
  pub long : length rows ≡ length rows₀
  pub outside : (a : ℕ) → Outside N variables used a → get_or rows a [] ≡ get_or rows₀ a []
  pub few : next ≤ variables
  pub state : State (edge N (cells words) (column 0 bindings)) (Reference N (cells words) variables used) (column 0 rows) (column 1 rows) top ahead
  pub seen : (x : ℕ) → x < next → column 0 rows x ≡ 0 → ahead ≡ suc x

-- 1 for a place that is to be entered.
abbrev pub pending : ℕ → ℕ
pending zero = 0
pending (suc p) = 1

-- What is left to do: two turns for each step that a mark can still rise, one for the place ahead.
abbrev pub left : Rows → ℕ → ℕ
left rows ahead = 2 * (length rows * 33 - total (column 0 rows) (length rows)) + pending ahead

pub pending_most : (p : ℕ) → pending p ≤ 1
pending_most zero = omega arith
pending_most (suc p) = omega arith

pub pending_one : (p : ℕ) → p ≢ 0 → pending p ≡ 1
pending_one zero n = absurd (n refl)
pending_one (suc p) n = refl

-- A mark has risen.
pub risen : (rows : Rows) (x v b : ℕ) (ahead ahead' : ℕ) → x < length rows → ((a : ℕ) → column 0 (set rows x (v ∷ b ∷ [])) a ≤ 33) → column 0 rows x < v
    → left (set rows x (v ∷ b ∷ [])) ahead' < left rows ahead
risen rows x v b ahead ahead' l most g =
    let e = total_changed (length rows) (column_changed 0 rows x (v ∷ b ∷ []) l) l in
    let n = length-set rows x (v ∷ b ∷ []) in
    let c = total_most (column 0 (set rows x (v ∷ b ∷ []))) 33 (length rows) most in
    let q = pending_most ahead' in
    rw n (omega arith)

pub turn_start : {words : List ℕ} {bindings : Rows} {N variables used : ℕ} {rows : Rows} → Searchable words bindings N variables used rows → Turn words bindings N variables used rows rows 0 0 0
turn_start {words} {bindings} {N} {variables} {used} {rows} h = record {
  stored = h.stored;
  room = h.long;
  long = refl;
  outside = λ a o. refl;
  few = omega arith;
  state = nothing (edge N (cells words) (column 0 bindings)) (Reference N (cells words) variables used) (column 0 rows) (column 1 rows) h.unmarked;
  seen = λ x l. let z : ⊥ = omega arith in absurd z;
}

module _ {words : List ℕ} {bindings : Rows} {N variables used : ℕ} {rows₀ rows : Rows} {next top ahead : ℕ} (h : Turn words bindings N variables used rows₀ rows next top ahead) where
  abbrev edges : ℕ → ℕ → ℕ
  edges = edge N (cells words) (column 0 bindings)

  abbrev Vertex : ℕ → Type 0
  Vertex = Reference N (cells words) variables used

  -- Rows for no reference stay as they are when a reference's row is written.
  kept : (x : ℕ) (row : List ℕ) → Vertex x → (a : ℕ) → Outside N variables used a → get_or (set rows x row) a [] ≡ get_or rows₀ a []
  kept x row v a o = get_or-set_other rows x a row [] (reference_inside h.stored v o) ∙ h.outside a o

  top_below : (k : ℕ) → top ≡ k → k ≤ headers
  top_below zero e = omega arith
  top_below (suc t) e =
      let r = reference_within h.stored (at_top edges Vertex (subst (λ (k : ℕ). State edges Vertex (column 0 rows) (column 1 rows) k ahead) e h.state)).0 in
      let b = h.stored.low in omega arith

  -- Where the search is has a number that fits.
  pub top_small : top ≤ headers
  top_small = top_below top refl

  -- A place ahead.
  module _ (node : ℕ) (is : ahead ≡ suc node) where
    abbrev here : State edges Vertex (column 0 rows) (column 1 rows) top (suc node)
    here = subst (λ (k : ℕ). State edges Vertex (column 0 rows) (column 1 rows) top k) is h.state

    pub ahead_row : (node < length rows) × (ahead ≤ headers)
    ahead_row = let r = reference_within h.stored (h.state.target node is) in
        let a = h.room in let b = h.stored.low in (omega arith, omega arith)

    pub turn_skip : column 0 rows node ≡ 33 → Turn words bindings N variables used rows₀ rows next top 0
    turn_skip f = record {
      stored = h.stored;
      room = h.room;
      long = h.long;
      outside = h.outside;
      few = h.few;
      state = skip edges Vertex node here f;
      seen = λ x l q. let a = h.seen x l q in let b : x ≡ node = omega arith in let c : column 0 rows x ≡ 33 = ap (column 0 rows) b ∙ f in let z : ⊥ = omega arith in absurd z;
    }

    pub turn_enter : column 0 rows node ≡ 0 → Turn words bindings N variables used rows₀ (set rows node (1 ∷ top ∷ [])) next (suc node) 0
    turn_enter f =
        let l = ahead_row.0 in
        let m = column_changed 0 rows node (1 ∷ top ∷ []) l in
        record {
          stored = h.stored;
          room = (let k = length-set rows node (1 ∷ top ∷ []) in let r = h.room in omega arith);
          long = length-set rows node (1 ∷ top ∷ []) ∙ h.long;
          outside = kept node (1 ∷ top ∷ []) (h.state.target node is);
          few = h.few;
          state = enter edges Vertex node here f m (column_changed 1 rows node (1 ∷ top ∷ []) l);
          seen = λ x b. all_changed (λ x v. x < next → v ≡ 0 → 0 ≡ suc x) m
              (λ c q. let z : ⊥ = omega arith in absurd z)
              (λ x o c q. let a = h.seen x c q in let z : ⊥ = o (omega arith) in absurd z) x b;
        }

    pub turn_refuse : column 0 rows node ≢ 0 → column 0 rows node ≢ 33 → (β : Bindings) → Held N (cells words) (column 0 bindings) variables β → Acyclic β → ⊥
    turn_refuse a b β held acyclic = refuse h.stored β held acyclic (h.state.target node is) (cycle edges Vertex node here a b)

  -- No place ahead: the search goes on from where it is.
  module _ (z : ahead ≡ 0) (node : ℕ) (is_top : top ≡ suc node) where
    abbrev there : State edges Vertex (column 0 rows) (column 1 rows) (suc node) 0
    there = subst (λ (k : ℕ). State edges Vertex (column 0 rows) (column 1 rows) k 0) is_top (subst (λ (k : ℕ). State edges Vertex (column 0 rows) (column 1 rows) top k) z h.state)

    pub top_row : Reference N (cells words) variables used node × (node < length rows) × (top ≤ headers) × (1 ≤ column 0 rows node) × (column 0 rows node ≤ 32)
    top_row = let (v, a, b) = at_top edges Vertex there in
        let r = reference_within h.stored v in
        let c = h.room in let d = h.stored.low in
        (v, omega arith, omega arith, a, b)

    entered : (v b : ℕ) → v ≢ 0 → (p x : ℕ) → x < next → column 0 (set rows node (v ∷ b ∷ [])) x ≡ 0 → p ≡ suc x
    entered v b o p x l = all_changed (λ x k. x < next → k ≡ 0 → p ≡ suc x) (column_changed 0 rows node (v ∷ b ∷ []) top_row.1)
        (λ c q. absurd (o q)) (λ x m c q. let a = h.seen x c q in let bad : ⊥ = omega arith in absurd bad) x l

    -- The row of where the search is, once it is done with it, and once another edge is followed.
    abbrev pub closed : List ℕ
    closed = 33 ∷ column 1 rows node ∷ []

    abbrev pub followed : List ℕ
    followed = (column 0 rows node - 1 + 2) ∷ column 1 rows node ∷ []

    pub turn_close : (place : ℕ) → place ≡ edge N (cells words) (column 0 bindings) node (column 0 rows node - 1) → place ≡ 0
        → Turn words bindings N variables used rows₀ (set rows node closed) next (column 1 rows node) ahead
    turn_close place f q =
        let (v, l, a, b, c) = top_row in
        record {
          stored = h.stored;
          room = (let k = length-set rows node closed in let r = h.room in omega arith);
          long = length-set rows node closed ∙ h.long;
          outside = kept node closed v;
          few = h.few;
          state = subst (λ (k : ℕ). State edges Vertex (column 0 (set rows node closed)) (column 1 (set rows node closed)) (column 1 rows node) k) (sym z)
              (close edges Vertex (column 0 rows node - 1) there (omega arith)
              (λ j y g. edge_first N (cells words) (column 0 bindings) node (column 0 rows node - 1) j y (sym f ∙ q) g)
              (column_changed 0 rows node closed l)
              (column_changed 1 rows node closed l));
          seen = entered 33 (column 1 rows node) (λ g. let bad : ◌≡◌ {A = ℕ} 33 0 = g in omega arith) ahead;
        }

    pub turn_follow : (place : ℕ) → place ≡ edge N (cells words) (column 0 bindings) node (column 0 rows node - 1) → place ≢ 0
        → Turn words bindings N variables used rows₀ (set rows node followed) next (suc node) place
    turn_follow zero f o = absurd (o refl)
    turn_follow (suc y) f o =
        let (v, l, a, b, c) = top_row in
        record {
          stored = h.stored;
          room = (let k = length-set rows node followed in let r = h.room in omega arith);
          long = length-set rows node followed ∙ h.long;
          outside = kept node followed v;
          few = h.few;
          state = follow edges Vertex (column 0 rows node - 1) y there (omega arith)
              (edge_few N (cells words) (column 0 bindings) node (column 0 rows node - 1) y (sym f)) (sym f)
              (edge_reference h.stored (column 0 rows node - 1) y v (sym f))
              (column_changed 0 rows node followed l)
              (column_changed 1 rows node followed l);
          seen = entered (column 0 rows node - 1 + 2) (column 1 rows node) (λ g. omega arith) (suc y);
        }

  -- The search is nowhere: it starts from the next variable, or has been everywhere.
  module _ (z : ahead ≡ 0) (y : top ≡ 0) where
    abbrev nowhere : State edges Vertex (column 0 rows) (column 1 rows) 0 0
    nowhere = subst (λ (k : ℕ). State edges Vertex (column 0 rows) (column 1 rows) k 0) y (subst (λ (k : ℕ). State edges Vertex (column 0 rows) (column 1 rows) top k) z h.state)

    pub turn_begin : next ≢ variables → Turn words bindings N variables used rows₀ rows (next + 1) top (suc next)
    turn_begin n =
        let a = h.few in
        let s : State edges Vertex (column 0 rows) (column 1 rows) top (suc next) =
        subst (λ (k : ℕ). State edges Vertex (column 0 rows) (column 1 rows) k (suc next)) (sym y) (begin edges Vertex next nowhere (variable_reference h.stored next (omega arith))) in
        record {
          stored = h.stored;
          room = h.room;
          long = h.long;
          outside = h.outside;
          few = omega arith;
          state = s;
          seen = λ x l q. by_less x next (λ m r. let b = h.seen x m q in let bad : ⊥ = omega arith in absurd bad) (λ m r. omega arith);
        }

    pub turn_accept : next ≡ variables → (β : Bindings) → Held N (cells words) (column 0 bindings) variables β → Acyclic β
    turn_accept q = accept h.stored (column 0 rows) h.state.rank h.state.falls
        (λ v l. away edges Vertex v nowhere (λ o. let a = h.seen v (omega arith) o in omega arith))

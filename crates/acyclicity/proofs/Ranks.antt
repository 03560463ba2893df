-- Ranks of references and ranks of variables. Where ranks fall along all edges that the variables lead to, every list of the stored bindings is acyclic;
-- where a path leads back to its start, none is.
use Prim.Native.Nat.{ℕ, zero, suc, ◌+◌, ◌-◌, ◌≤◌, ◌<◌}
use native.Mathlib.Omega.{arith}
use native.Mathlib.Nat.{not-suc-le-zero}
use mathlib.Core.Path.{◌≡◌, refl, sym, ap, ◌∙◌, subst}
use mathlib.Core.Logic.{◌⊎◌, inl, inr, ⊎_elim}
use mathlib.Core.Bool.{true}
use mathlib.Core.Option.{some}
use mathlib.Core.List.{List}
use Rattle.terms.specs.Numbers.{same_refl, same_true, by_bool, by_less, true_false, some_none, none_some, or_left, or_right}
use Rattle.terms.specs.Term.{Kind, Syn, var, app, nil, cons, Term, Terms, mem}
use Rattle.terms.specs.Bindings.{Bindings, lookup, Acyclic}
use Rattle.terms.specs.Order.{ranked_acyclic, acyclic_ranked, rank}
use Rattle.arena.specs.Cells.{Cells, cells, arity_of, args, denote, Reference, low_or_high, reference_below, denote_node, denote_variable}
use Rattle.arena.specs.Rows.{Rows, column}
use Rattle.acyclicity.specs.Contract.{binding_of, Held, Stored}
use Rattle.acyclicity.specs.Edges.{edge}
use Rattle.acyclicity.proofs.EdgeLaws.{edge_variable, edge_argument, by_edge, edge_reference, variable_reference}
use Rattle.acyclicity.proofs.Depth.{Path}

-- The variables of arguments are those of one of them.
mem_args : (g : ℕ → Term) (w : Cells) (p n y : ℕ) → mem y (args g w p n) ≡ true → (i : ℕ) × (i < n) × (mem y (g (w (p + i))) ≡ true)
unfolding mem
mem_args g w p zero y e = true_false e refl
mem_args g w p (suc n) y e = by_bool (mem y (g (w p)))
    (λ m. let d : p ≡ p + 0 = omega arith in (0, omega arith, subst (λ (k : ℕ). mem y (g (w k)) ≡ true) d m))
    (λ m. let (i, l, h) = mem_args g w (suc p) n y (rw m at e) in
    let d : suc p + i ≡ p + suc i = omega arith in
    (suc i, omega arith, subst (λ (k : ℕ). mem y (g (w k)) ≡ true) d h))

args_mem : (g : ℕ → Term) (w : Cells) (p n y i : ℕ) → i < n → mem y (g (w (p + i))) ≡ true → mem y (args g w p n) ≡ true
unfolding mem
args_mem g w p zero y i l e = absurd (not-suc-le-zero l)
args_mem g w p (suc n) y zero l e =
    let d : p + 0 ≡ p = omega arith in
    or_left (mem y (g (w p))) (mem y (args g w (suc p) n)) (subst (λ (k : ℕ). mem y (g (w k)) ≡ true) d e)
args_mem g w p (suc n) y (suc i) l e =
    let d : p + suc i ≡ suc p + i = omega arith in
    or_right (mem y (g (w p))) (mem y (args g w (suc p) n)) (args_mem g w (suc p) n y i (omega arith) (subst (λ (k : ℕ). mem y (g (w k)) ≡ true) d e))

-- One more than the greatest rank of a variable of the term; 0 if it has none.
unfoldable height : {s : Kind} → (ℕ → ℕ) → Syn s → ℕ
height r (var x) = suc (r x)
height r (app f ts) = height r ts
height r nil = 0
height r (cons t ts) = height r t + (height r ts - height r t)

height_mem : {s : Kind} (r : ℕ → ℕ) (t : Syn s) (y : ℕ) → mem y t ≡ true → r y < height r t
unfolding mem height
height_mem r (var x) y e = let d : y ≡ x = same_true e in let k : r y ≡ r x = ap r d in omega arith
height_mem r (app f ts) y e = height_mem r ts y e
height_mem r nil y e = true_false e refl
height_mem r (cons t ts) y e = by_bool (mem y t)
    (λ p. let h = height_mem r t y p in omega arith)
    (λ p. let h = height_mem r ts y (rw p at e) in omega arith)

height_most : {s : Kind} (r : ℕ → ℕ) (t : Syn s) (k : ℕ) → ((y : ℕ) → mem y t ≡ true → r y < k) → height r t ≤ k
unfolding mem height
height_most r (var x) k h = h x (same_refl x)
height_most r (app f ts) k h = height_most r ts k h
height_most r nil k h = omega arith
height_most r (cons t ts) k h =
    let a = height_most r t k (λ y e. h y (or_left (mem y t) (mem y ts) e)) in
    let b = height_most r ts k (λ y e. h y (or_right (mem y t) (mem y ts) e)) in
    omega arith

bound_some : (N : ℕ) (w : Cells) (x : ℕ) {t : Term} → binding_of N w x ≡ some t → (r : ℕ) × (x ≡ suc r) × (denote N w r ≡ t)
bound_some N w zero e = none_some e
bound_some N w (suc r) e = (r, refl, (let q : some (denote N w r) ≡ some _ = e in cc))

module _ {words : List ℕ} {bindings : Rows} {N variables used : ℕ} (s : Stored words bindings N variables used) where
  abbrev w : Cells
  w = cells words

  abbrev bound : Cells
  bound = column 0 bindings

  -- What the arguments of a node denote.
  abbrev arguments : ℕ → Terms
  arguments r = args (denote N w) w (suc (r - N)) (arity_of (w (r - N)))

  -- An argument of a node, as its edge has it.
  argument_place : {r : ℕ} (i : ℕ) → N ≤ r → i < arity_of (w (r - N)) → edge N w bound r i ≡ suc (w (suc (r - N) + i))
  argument_place {r} i l b =
      let d : r - N + suc i ≡ suc (r - N) + i = omega arith in
      edge_argument N w bound r i l b ∙ ap (λ (k : ℕ). suc (w k)) d

  -- A bound variable's term, and its edge.
  binding_edge : (β : Bindings) → Held N w bound variables β → (x : ℕ) (t : Term) → lookup β x ≡ some t
      → (r : ℕ) × (x < variables) × (edge N w bound x 0 ≡ suc r) × (denote N w r ≡ t)
  binding_edge β h x t e = by_less x variables
      (λ l q. let (r, b, d) = bound_some N w (bound x) (sym (h.below x l) ∙ e) in
      let f = s.few in
      (r, l, edge_variable N w bound x 0 (omega arith) refl ∙ b, d))
      (λ l q. some_none e (h.above x l))

  module _ (mark rank' : ℕ → ℕ)
      (falls : (a i y : ℕ) → mark a ≡ 33 → edge N w bound a i ≡ suc y → (mark y ≡ 33) × (rank' y < rank' a)) where
    -- A term's variables have at most the rank of its reference.
    mem_rank : (n r y : ℕ) → r < n → Reference N w variables used r → mark r ≡ 33 → mem y (denote N w r) ≡ true → rank' y ≤ rank' r
    unfolding mem
    mem_rank zero r y b h d m = absurd (not-suc-le-zero b)
    mem_rank (suc n) r y b h d m = ⊎_elim
        (λ l. let e : y ≡ r = same_true (rw (denote_variable N w r l) at m) in
        let k : rank' y ≡ rank' r = ap rank' e in omega arith)
        (λ l. let m' = rw (denote_node N w variables used s.formed r h l) at m in
        let (i, c, g) = mem_args (denote N w) w (suc (r - N)) (arity_of (w (r - N))) y m' in
        let e = argument_place i l c in
        let (d', f) = falls r i (w (suc (r - N) + i)) d e in
        let o = h.node l in
        let p : r - N + suc i ≡ suc (r - N) + i = omega arith in
        let a : Reference N w variables (r - N) (w (r - N + suc i)) = s.formed.arguments (r - N) i (omega arith) (h.header l) c in
        let a' : Reference N w variables (r - N) (w (suc (r - N) + i)) = subst (λ (k : ℕ). Reference N w variables (r - N) (w k)) p a in
        let j = reference_below N l a' in
        let ih = mem_rank n (w (suc (r - N) + i)) y (omega arith) (edge_reference s i (w (suc (r - N) + i)) h e) d' g in
        omega arith)
        (low_or_high N r N)

    -- The search is done with every variable: the bindings are acyclic.
    pub accept : ((v : ℕ) → v < variables → mark v ≡ 33) → (β : Bindings) → Held N w bound variables β → Acyclic β
    accept all β h = ranked_acyclic rank' β h.distinct (λ x t y e m.
        let (r, l, g, d) = binding_edge β h x t e in
        let (k, f) = falls x 0 r (all x l) g in
        let b = mem_rank (suc r) r y (omega arith) (edge_reference s 0 r (variable_reference s x l) g) k (rw (← d) at m) in
        omega arith)

  -- Along a path heights do not rise, and where they stay the references fall.
  module _ (β : Bindings) (held : Held N w bound variables β) (acyclic : Acyclic β) where
    high : ℕ → ℕ
    high r = height (rank β) (denote N w r)

    step_falls : {r : ℕ} (i y : ℕ) → Reference N w variables used r → edge N w bound r i ≡ suc y
        → (high y < high r) ⊎ ((high y ≤ high r) × (y < r))
    unfolding mem height high
    step_falls {r} i y h e = by_edge N w bound r i y e
        (λ l z b. let k = h.variable l in
        let t : lookup β r ≡ some (denote N w y) = held.below r k ∙ ap (binding_of N w) b in
        let f = height_most (rank β) (denote N w y) (rank β r) (λ x m. acyclic_ranked β acyclic r (denote N w y) x t m) in
        let g : height (rank β) (denote N w r) ≡ suc (rank β r) = ap (height (rank β)) (denote_variable N w r l) in
        inl (omega arith))
        (λ l c q. let o = h.node l in
        let p : r - N + suc i ≡ suc (r - N) + i = omega arith in
        let a : Reference N w variables (r - N) (w (r - N + suc i)) = s.formed.arguments (r - N) i (omega arith) (h.header l) c in
        let j : w (r - N + suc i) < r = reference_below N l a in
        let q' : y ≡ w (suc (r - N) + i) = q ∙ ap w p in
        let d : denote N w y ≡ denote N w (w (suc (r - N) + i)) = ap (denote N w) q' in
        let g : height (rank β) (denote N w r) ≡ height (rank β) (arguments r) = ap (height (rank β)) (denote_node N w variables used s.formed r h l) in
        let in-arguments : (x : ℕ) → mem x (denote N w y) ≡ true → mem x (arguments r) ≡ true = (λ x m. args_mem (denote N w) w (suc (r - N)) (arity_of (w (r - N))) x i c (rw d at m)) in
        let f = height_most (rank β) (denote N w y) (height (rank β) (arguments r)) (λ x m. height_mem (rank β) (arguments r) x (in-arguments x m)) in
        inr (omega arith, omega arith))

    path_falls : {r y : ℕ} → Reference N w variables used r → Path (edge N w bound) (Reference N w variables used) r y
        → Reference N w variables used y × ((high y < high r) ⊎ ((high y ≤ high r) × (y < r)))
    path_falls h (Path.step {y = y} i e) = (edge_reference s i y h e, step_falls i y h e)
    path_falls h (Path.more {y = y} p i e) =
        let (k, f) = path_falls h p in
        let g = step_falls i y k e in (
          edge_reference s i y k e,
          ⊎_elim (λ a. ⊎_elim (λ b. inl (omega arith)) (λ b. let (b₁, b₂) = b in inl (omega arith)) g)
              (λ a. let (a₁, a₂) = a in ⊎_elim (λ b. inl (omega arith)) (λ b. let (b₁, b₂) = b in inr (omega arith, omega arith)) g) f,
        )

    pub refuse : {r : ℕ} → Reference N w variables used r → Path (edge N w bound) (Reference N w variables used) r r → ⊥
    refuse h p = let (k, f) = path_falls h p in ⊎_elim (λ a. omega arith) (λ a. let (a₁, a₂) = a in omega arith) f

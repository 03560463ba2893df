-- The bindings that storage holds: where its values lead is where the theory's `walk` leads, an entry more is a binding more, and the trail is no
-- longer than there are variables.
use Rattle.std.specs.Prelude.{ℕ, zero, suc, ◌-◌, ◌≤◌, ◌<◌, ◌≡◌, refl, false, ◌≢◌, List}
use Rattle.std.proofs.Common.{arith, not-suc-le-zero, sym, ap, ap₂, ◌∙◌, subst, ⊎_elim}
use Rattle.std.proofs.Math.Option.{none}
use Rattle.terms.specs.Numbers.{by_same, some_none}
use Rattle.terms.specs.Term.{mem}
use Rattle.terms.specs.Bindings.{Bindings, bind, lookup, walk, res, Acyclic, BelowB}
use Rattle.terms.specs.BindingLaws.{walk_app, walk_unbound, walk_bound}
use Rattle.terms.specs.Loops.{walk_length}
use Rattle.terms.proofs.Loops.{walk_length_bound}
use Rattle.arena.specs.Cells.{Cells, cells, denote, Reference, WellFormed, denote_node, denote_variable, below_denote}
use Rattle.arena.specs.Rows.{Rows, column}
use Rattle.acyclicity.specs.Contract.{binding_of}
use Rattle.bindings.specs.Orders.{by_order, low_or_high, pigeonhole}
use Rattle.bindings.specs.Promises.{Undoable}
use Rattle.bindings.specs.Stored.{bindings, held, Form, WalksTo, free, bound, node}

-- The first k positions hold the bindings β.
pub record Holds (N : ℕ) (w values trail : Cells) (variables used k : ℕ) (β : Bindings) : Type 0 where
  pub is : β ≡ bindings N w values trail k
  pub lookups : (v : ℕ) → v < variables → lookup β v ≡ binding_of N w (values v)
  pub filled : (i : ℕ) → i < k → values (trail i) ≡ 0 → ⊥
  pub references : (v r : ℕ) → v < variables → values v ≡ suc r → Reference N w variables used r
  pub few : variables ≤ N
  pub acyclic : Acyclic β
  pub below : BelowB variables β

module _ (N : ℕ) where
  -- equal cells at the trail's variables give equal bindings
  pub bindings_same : (w values values' trail trail' : Cells) (k : ℕ) → ((i : ℕ) → i < k → trail i ≡ trail' i) → ((i : ℕ) → i < k → values (trail i) ≡ values' (trail i)) → bindings N w values trail k ≡ bindings N w values' trail' k
  bindings_same w values values' trail trail' zero h g = refl
  bindings_same w values values' trail trail' (suc k) h g =
      let ih = bindings_same w values values' trail trail' k (λ i l. h i (omega arith)) (λ i l. g i (omega arith)) in
      let e = h k (omega arith) in let d = g k (omega arith) in
      let d' : values (trail k) ≡ values' (trail' k) = d ∙ ap values' e in
      ap₂ (λ (x : ℕ) (β : Bindings). bind x (denote N w (values (trail k) - 1)) β) e ih ∙ ap (λ (x : ℕ). bind (trail' k) (denote N w (x - 1)) (bindings N w values' trail' k)) d'

  -- what stands on the trail is bound
  pub bindings_has : (w values trail : Cells) (k i : ℕ) → i < k → lookup (bindings N w values trail k) (trail i) ≡ none → ⊥
  bindings_has w values trail zero i l e = not-suc-le-zero l
  bindings_has w values trail (suc k) i l e = by_same (trail i) (trail k)
      (λ p q. some_none refl (rw q at e))
      (λ p q. bindings_has w values trail k i (let z : i ≢ k = (λ ik. p (ap trail ik)) in by_order i k (λ a. a) (λ a. absurd (z (omega arith)))) (rw q at e))

  pub bindings_low : (w values trail : Cells) (variables k : ℕ) → BelowB variables (bindings N w values trail k) → (i : ℕ) → i < k → trail i < variables
  bindings_low w values trail variables zero b i l = absurd (not-suc-le-zero l)
  bindings_low w values trail variables (suc k) b i l = by_order i k (λ a. bindings_low w values trail variables k b.2 i a) (λ a. let e : i ≡ k = omega arith in rw e b.0)

  pub bindings_one : (w values trail : Cells) (k : ℕ) → Acyclic (bindings N w values trail k) → (i j : ℕ) → i < j → j < k → trail i ≡ trail j → ⊥
  bindings_one w values trail zero ac i j l m e = not-suc-le-zero m
  bindings_one w values trail (suc k) ac i j l m e = by_order j k (λ a. bindings_one w values trail k ac.2 i j l a e)
      (λ a. let q : j ≡ k = omega arith in bindings_has w values trail k i (omega arith) (subst (λ (z : ℕ). lookup (bindings N w values trail k) z ≡ none) (sym (e ∙ ap trail q)) ac.0))

module _ {N : ℕ} where
  module _ {w values trail : Cells} {variables used k : ℕ} {β : Bindings} (wf : WellFormed N w variables used) (h : Holds N w values trail variables used k β) where
    pub walks_ref : {r q : ℕ} → Reference N w variables used r → WalksTo N values r q → Reference N w variables used q
    walks_ref rr (free l e) = rr
    walks_ref rr (bound l e p) = walks_ref (h.references _ _ (rr.variable l) e) p
    walks_ref rr (node l) = rr

    pub walks : {r q : ℕ} → Reference N w variables used r → WalksTo N values r q → walk β (denote N w r) ≡ denote N w q
    walks {r} rr (free l e) =
        ap (walk β) (denote_variable N w r l) ∙ walk_unbound β r (h.lookups r (rr.variable l) ∙ ap (binding_of N w) e) ∙ sym (denote_variable N w r l)
    walks {r} {q} rr (bound {x = x} l e p) =
        ap (walk β) (denote_variable N w r l) ∙ walk_bound β h.acyclic r (denote N w x) (h.lookups r (rr.variable l) ∙ ap (binding_of N w) e) ∙ walks (h.references _ _ (rr.variable l) e) p
    walks {r} rr (node l) =
        let e = denote_node N w variables used wf r rr l in
        ap (walk β) e ∙ walk_app β _ _ ∙ sym e

    -- a walk's end is an unbound variable or a node
    pub walks_end : {r q : ℕ} → WalksTo N values r q → q < N → values q ≡ 0
    walks_end (free l e) p = e
    walks_end (bound l e w) p = walks_end w p
    walks_end (node l) p = absurd (omega arith)

    -- one more binding
    pub bindings_more : (values' trail' : Cells) (x z : ℕ) → x < variables → values x ≡ 0 → Reference N w variables used z → mem x (res β (denote N w z)) ≡ false
        → values' x ≡ suc z → ((v : ℕ) → v ≢ x → values' v ≡ values v) → trail' k ≡ x → ((i : ℕ) → i < k → trail' i ≡ trail i)
        → Holds N w values' trail' variables used (suc k) (bind x (denote N w z) β)
    bindings_more values' trail' x z xn e rz m bx bo tk to = record {
      is = let sz : suc z - 1 ≡ z = omega arith in sym (ap₂ (λ (y : ℕ) (γ : Bindings). bind y (denote N w (values' y - 1)) γ) tk
          (sym (bindings_same N w values values' trail trail' k (λ i l. sym (to i l)) (λ i l. sym (bo (trail i) (λ q. h.filled i l (ap values q ∙ e))))) ∙ sym h.is)
          ∙ ap (λ (y : ℕ). bind x (denote N w (y - 1)) β) bx ∙ ap (λ (y : ℕ). bind x (denote N w y) β) sz);
      lookups = λ v l. by_same v x (λ p q. rw q (ap (binding_of N w) (sym (ap values' p ∙ bx)))) (λ p q. rw q (h.lookups v l ∙ ap (binding_of N w) (sym (bo v p))));
      filled = λ i l p. by_order i k
          (λ li. h.filled i li (sym (bo (trail i) (λ q. h.filled i li (ap values q ∙ e))) ∙ ap values' (sym (to i li)) ∙ p))
          (λ li. let ik : i ≡ k = omega arith in let z : values' (trail' k) ≡ 0 = subst (λ n. values' (trail' n) ≡ 0) ik p in let z' : values' (trail' k) ≡ suc _ = ap values' tk ∙ bx in omega arith);
      references = λ v r l p. by_same v x
          (λ q _. let s : suc z ≡ suc r = sym bx ∙ ap values' (sym q) ∙ p in let s' : z ≡ r = omega arith in subst (Reference N w variables used) s' rz)
          (λ q _. h.references v r l (sym (bo v q) ∙ p));
      few = h.few;
      acyclic = (h.lookups x xn ∙ ap (binding_of N w) e, m, h.acyclic);
      below = (xn, below_denote N w variables used wf z rz, h.below);
    }

    -- Walks end: the number of bindings that a walk meets falls.
    -- one step of a walk
    pub walk_falls : (r x : ℕ) → Reference N w variables used r → r < N → values r ≡ suc x → suc (walk_length β (denote N w x)) ≡ walk_length β (denote N w r)
    walk_falls r x rr l e = sym (walk_length_bound β h.acyclic r (denote N w x) (h.lookups r (rr.variable l) ∙ ap (binding_of N w) e)) ∙ ap (walk_length β) (sym (denote_variable N w r l))

    pub walk_is : (n r : ℕ) → Reference N w variables used r → walk_length β (denote N w r) ≤ n → (q : ℕ) × WalksTo N values r q
    walk_is zero r rr l = ⊎_elim (λ v. at (values r) refl v) (λ v. (r, node v)) (low_or_high r N)
      where
        at : (z : ℕ) → values r ≡ z → r < N → (q : ℕ) × WalksTo N values r q
        at zero e v = (r, free v e)
        at (suc x) e v = absurd (let f = walk_falls r x rr v e in omega arith)
    walk_is (suc n) r rr l = ⊎_elim (λ v. at (values r) refl v (λ x rx lx. walk_is n x rx lx)) (λ v. (r, node v)) (low_or_high r N)
      where
        at : (z : ℕ) → values r ≡ z → r < N → ((x : ℕ) → Reference N w variables used x → walk_length β (denote N w x) ≤ n → (q : ℕ) × WalksTo N values x q) → (q : ℕ) × WalksTo N values r q
        at zero e v ih = (r, free v e)
        at (suc x) e v ih = let f = walk_falls r x rr v e in let (q, p) = ih x (h.references r x (rr.variable v) e) (omega arith) in (q, bound v e p)

  -- the trail is no longer than there are variables
  pub trail_in : {w values trail : Cells} {variables used k : ℕ} {β : Bindings} → Holds N w values trail variables used k β → k ≤ variables
  trail_in {w} {values} {trail} {variables} {used} {k} h = pigeonhole variables k trail
      (bindings_low N w values trail variables k (subst (λ (γ : Bindings). BelowB variables γ) h.is h.below))
      (λ i j li lj e. by_order i j (λ ij. absurd (one i j ij lj e)) (λ ij. by_order j i (λ ji. absurd (one j i ji li (sym e))) (λ ji. omega arith)))
    where
      one : (i j : ℕ) → i < j → j < k → trail i ≡ trail j → ⊥
      one = bindings_one N w values trail k (subst (λ (γ : Bindings). Acyclic γ) h.is h.acyclic)

  -- storage in form holds its bindings, and the other way round
  pub form_holds : {w : List ℕ} {b : Rows} {variables used k : ℕ} → Form N w b variables used k → Holds N (cells w) (column 0 b) (column 1 b) variables used k (held N w b k)
  form_holds {w} {b} {variables} {used} {k} h = record {
    is = refl;
    lookups = h.lookups;
    references = h.references;
    few = h.few;
    acyclic = h.acyclic;
    below = h.below;
    filled = λ i l e. bindings_has N (cells w) (column 0 b) (column 1 b) k i l
        (h.lookups (column 1 b i) (bindings_low N (cells w) (column 0 b) (column 1 b) variables k h.below i l) ∙ ap (binding_of N (cells w)) e);
  }

  -- the bindings above a mark can be undone
  pub form_undoable : {w : List ℕ} {b : Rows} {variables used k mark : ℕ} → Form N w b variables used k → mark ≤ k → Undoable b k mark
  form_undoable {w} {b} {variables} {used} {k} h l = let f = trail_in (form_holds h) in let g = h.lent_rows in record {
    above = l;
    within = omega arith;
    keys = λ i p q. let z = bindings_low N (cells w) (column 0 b) (column 1 b) variables k h.below i q in omega arith;
  }

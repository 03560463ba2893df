-- What callers need: words past the used part are of no concern, so where words or variables are added the bindings held are the same and in form;
-- and undoing to an older mark goes by way of a newer one.
use Rattle.std.specs.Prelude.{ℕ, zero, suc, ◌+◌, ◌-◌, ◌≤◌, ◌<◌, ◌≡◌, refl, List, length}
use Rattle.std.proofs.Common.{arith, sym, ap, ap₂, ◌∙◌, subst}
use Rattle.std.proofs.Math.Option.{some}
use Rattle.terms.specs.Term.{Term}
use Rattle.terms.specs.Bindings.{Bindings, bind, lookup, Acyclic, BelowB}
use Rattle.terms.specs.BindingLaws.{lookup_above, below_b_le}
use Rattle.arena.specs.Cells.{Cells, cells, headers, denote, Reference, WellFormed, frame_denote}
use Rattle.arena.specs.Rows.{Rows, column}
use Rattle.acyclicity.specs.Contract.{binding_of}
use Rattle.bindings.specs.Tables.{removed, undone}
use Rattle.bindings.specs.Stored.{bindings, held, Form}
use Rattle.bindings.specs.Orders.{by_order, not_zero}
use Rattle.bindings.specs.Holding.{form_holds, bindings_low}

bindings_frame : (N : ℕ) (w w' values trail : Cells) (k : ℕ) → ((i : ℕ) → i < k → denote N w (values (trail i) - 1) ≡ denote N w' (values (trail i) - 1)) → bindings N w values trail k ≡ bindings N w' values trail k
bindings_frame N w w' values trail zero h = refl
bindings_frame N w w' values trail (suc k) h = ap₂ (λ (t : Term) (β : Bindings). bind (trail k) t β) (h k (omega arith)) (bindings_frame N w w' values trail k (λ i l. h i (omega arith)))

module _ {N : ℕ} {w : List ℕ} {b : Rows} {variables used k : ℕ} (f : Form N w b variables used k) (w' : List ℕ) (same : (i : ℕ) → i < used → cells w i ≡ cells w' i) where
  -- a reference in form denotes the same term
  pub denote_grows : (r : ℕ) → Reference N (cells w) variables used r → denote N (cells w) r ≡ denote N (cells w') r
  denote_grows r h = frame_denote N (cells w) variables used f.words (cells w') same r h

  -- the bindings held are the same
  pub held_grows : held N w b k ≡ held N w' b k
  held_grows = bindings_frame N (cells w) (cells w') (column 0 b) (column 1 b) k
      (λ i l. let low = bindings_low N (cells w) (column 0 b) (column 1 b) variables k f.below i l in
      denote_grows (column 0 b (column 1 b i) - 1) (f.references (column 1 b i) (column 0 b (column 1 b i) - 1) low (not_zero (column 0 b (column 1 b i)) ((form_holds f).filled i l))))

  module _ {variables' used' : ℕ} (vs : variables ≤ variables') (us : used ≤ used') where
    -- a reference in form stays in form
    pub reference_grows : (r : ℕ) → Reference N (cells w) variables used r → Reference N (cells w') variables' used' r
    reference_grows r h = record {
      variable = λ l. let q = h.variable l in omega arith;
      node = λ l. let q = h.node l in omega arith;
      header = λ l. let q = h.node l in let e = same (r - N) (omega arith) in let g = h.header l in omega arith;
    }

    -- and the whole stays in form
    pub form_grows : WellFormed N (cells w') variables' used' → variables' ≤ N → N + used' ≤ headers → used' ≤ length w' → variables' ≤ length b → Form N w' b variables' used' k
    form_grows wf few low lw lb = record {
      words = wf;
      few = few;
      low = low;
      lent_words = lw;
      lent_rows = lb;
      references = λ v r l e. by_order v variables
          (λ a. reference_grows r (f.references v r a e))
          (λ a. absurd (let z = f.unbound v a in omega arith));
      lookups = λ v l. ap (λ (β : Bindings). lookup β v) (sym held_grows) ∙ by_order v variables
          (λ a. f.lookups v a ∙ at v a (column 0 b v) refl)
          (λ a. lookup_above variables (held N w b k) f.below v a ∙ ap (binding_of N (cells w')) (sym (f.unbound v a)));
      acyclic = subst (λ (β : Bindings). Acyclic β) held_grows f.acyclic;
      below = subst (λ (β : Bindings). BelowB variables' β) held_grows (below_b_le vs (held N w b k) f.below);
      unbound = λ v l. f.unbound v (omega arith);
      rest = f.rest;
    }
      where
        at : (v : ℕ) → v < variables → (z : ℕ) → column 0 b v ≡ z → binding_of N (cells w) (column 0 b v) ≡ binding_of N (cells w') (column 0 b v)
        at v l zero e = ap (binding_of N (cells w)) e ∙ ap (binding_of N (cells w')) (sym e)
        at v l (suc r) e = ap (binding_of N (cells w)) e ∙ ap some (denote_grows r (f.references v r l e)) ∙ ap (binding_of N (cells w')) (sym e)

undone_then : (t : Rows) (mark a c : ℕ) → undone t mark (a + c) ≡ undone (undone t (mark + a) c) mark a
unfolding undone
undone_then t mark a zero = let e : a + 0 ≡ a = omega arith in ap (undone t mark) e
undone_then t mark a (suc c) =
    let e : a + suc c ≡ suc (a + c) = omega arith in
    let d : mark + (a + c) ≡ mark + a + c = omega arith in
    ap (undone t mark) e ∙ ap (λ (j : ℕ). undone (removed t j) mark (a + c)) d ∙ undone_then (removed t (mark + a + c)) mark a c

-- Undoing from n to the mark is undoing to m, between them, and then to the mark.
pub undone_marks : (t : Rows) (mark m n : ℕ) → mark ≤ m → m ≤ n → undone t mark (n - mark) ≡ undone (undone t m (n - m)) mark (m - mark)
undone_marks t mark m n l g =
    let e : n - mark ≡ m - mark + (n - m) = omega arith in
    let d : mark + (m - mark) ≡ m = omega arith in
    ap (undone t mark) e ∙ undone_then t mark (m - mark) (n - m) ∙ ap (λ (j : ℕ). undone (undone t j (n - m)) mark (m - mark)) d

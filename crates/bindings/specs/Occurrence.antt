-- The occurs check on storage: an unbound variable occurs in a term with the bindings put in exactly if it is reached from the term's reference.
use Prim.Native.Nat.{ℕ, zero, suc, ◌+◌, ◌-◌, ◌≤◌, ◌<◌}
use native.Mathlib.Omega.{arith}
use Rattle.std.proofs.Common.{not-suc-le-zero, le_refl, sym, ◌∙◌, inl, inr}
use Rattle.std.specs.Prelude.{◌≡◌, Bool, false, ◌||◌, ◌⊎◌}
use Rattle.std.proofs.Math.Path.{refl, ap, subst}
use Rattle.std.proofs.Math.Bool.{true}
use Rattle.std.proofs.Math.Logic.{⊎_elim}
use Rattle.terms.specs.Numbers.{same, same_refl, same_true, true_false, or_left, or_right}
use Rattle.terms.specs.Term.{var, app, Term, Subst, sub, mem, size}
use Rattle.terms.specs.Bindings.{Bindings, full, res}
use Rattle.terms.specs.BindingLaws.{full_unbound, res_walk}
use Rattle.terms.specs.Loops.{walk_length}
use Rattle.arena.specs.Cells.{Cells, args, arity_of, denote, Reference, WellFormed, denote_node, denote_variable, reference_argument}
use Rattle.acyclicity.specs.Contract.{binding_of}
use Rattle.bindings.specs.Orders.{low_or_high}
use Rattle.bindings.specs.Stored.{WalksTo, free, bound, node, into, argument, Reaches, here, step}
use Rattle.bindings.specs.Holding.{Holds, walks, walks_ref, walks_end, walk_is}

or_true : (a b : Bool) → (a || b) ≡ true → (a ≡ true) ⊎ (b ≡ true)
or_true true b e = inl refl
or_true false b e = inr e

module _ (N : ℕ) where
  mem_args : (x : ℕ) (σ : Subst) (w : Cells) (p n i : ℕ) → i < n → mem x (sub σ (denote N w (w (p + i)))) ≡ true → mem x (sub σ (args (denote N w) w p n)) ≡ true
  unfolding mem
  mem_args x σ w p zero i l m = absurd (not-suc-le-zero l)
  mem_args x σ w p (suc n) zero l m = let e : p + 0 ≡ p = omega arith in or_left _ _ (rw e at m)
  mem_args x σ w p (suc n) (suc i) l m = let e : p + suc i ≡ suc p + i = omega arith in
      or_right (mem x (sub σ (denote N w (w p)))) _ (mem_args x σ w (suc p) n i (omega arith) (rw e at m))

  pub args_mem : (x : ℕ) (σ : Subst) (w : Cells) (p n : ℕ) → mem x (sub σ (args (denote N w) w p n)) ≡ true
      → (i : ℕ) × (i < n) × (mem x (sub σ (denote N w (w (p + i)))) ≡ true) × (size (sub σ (denote N w (w (p + i)))) < size (sub σ (args (denote N w) w p n)))
  unfolding mem
  args_mem x σ w p zero m = true_false m refl
  args_mem x σ w p (suc n) m = ⊎_elim
      (λ a. let e : p + 0 ≡ p = omega arith in (0, omega arith, rw e a, rw e (omega arith)))
      (λ a. let (i, l, m', s) = args_mem x σ w (suc p) n a in let e : p + suc i ≡ suc p + i = omega arith in (suc i, omega arith, rw e m', rw e (omega arith)))
      (or_true (mem x (sub σ (denote N w (w p)))) (mem x (sub σ (args (denote N w) w (suc p) n))) m)

module _ {N : ℕ} where
  module _ {w values trail : Cells} {variables used k : ℕ} {β : Bindings} (wf : WellFormed N w variables used) (h : Holds N w values trail variables used k β) where
    res_walks : {r q : ℕ} → Reference N w variables used r → WalksTo N values r q → res β (denote N w r) ≡ res β (denote N w q)
    res_walks {r} rr v = sym (res_walk β h.acyclic (denote N w r)) ∙ ap (res β) (walks wf h rr v)

    pub res_bound : (r x : ℕ) → Reference N w variables used r → r < N → values r ≡ suc x → res β (denote N w r) ≡ res β (denote N w x)
    res_bound r x rr l e = let (q, v) = walk_is wf h (walk_length β (denote N w x)) x (h.references r x (rr.variable l) e) (le_refl _) in
        res_walks rr (bound l e v) ∙ sym (res_walks (h.references r x (rr.variable l) e) v)

    walk_reach : {r q x : ℕ} → WalksTo N values r q → Reaches N w values q x → Reaches N w values r x
    walk_reach (free l e) m = m
    walk_reach (bound l e v) m = step (into l e) (walk_reach v m)
    walk_reach (node l) m = m

    -- an unbound variable that is reached occurs
    pub reach_mem : (x : ℕ) → x < variables → values x ≡ 0 → {r : ℕ} → Reference N w variables used r → Reaches N w values r x → mem x (res β (denote N w r)) ≡ true
    unfolding mem
    reach_mem x l e rr here = let f = h.few in let lx : x < N = omega arith in
        ap (λ (t : Term). mem x (res β t)) (denote_variable N w x lx) ∙ ap (λ (t : Term). mem x t) (full_unbound β x (h.lookups x l ∙ ap (binding_of N w) e)) ∙ same_refl x
    reach_mem x l e {r} rr (step (into {x = y} v b) m) =
        ap (λ (t : Term). mem x t) (res_bound r y rr v b) ∙ reach_mem x l e (h.references r y (rr.variable v) b) m
    reach_mem x l e {r} rr (step (argument i v b) m) =
        ap (λ (t : Term). mem x (res β t)) (denote_node N w variables used wf r rr v)
        ∙ mem_args N x (full β) w (suc (r - N)) (arity_of (w (r - N))) i b (reach_mem x l e (reference_argument N w variables used wf r i rr v b) m)

    -- what occurs is reached
    pub mem_reach : (x n r : ℕ) → Reference N w variables used r → size (res β (denote N w r)) ≤ n → mem x (res β (denote N w r)) ≡ true → Reaches N w values r x
    unfolding mem
    mem_reach x zero r rr l m = absurd (pos (res β (denote N w r)) l)
      where
        pos : (t : Term) → size t ≤ 0 → ⊥
        pos (var y) l = omega arith
        pos (app f ts) l = omega arith
    mem_reach x (suc n) r rr l m =
        let (q, v) = walk_is wf h (walk_length β (denote N w r)) r rr (le_refl _) in
        let rq = walks_ref wf h rr v in
        let e = res_walks rr v in
        walk_reach v (⊎_elim
        (λ lq. let mq : mem x (res β (denote N w q)) ≡ true = ap (λ (t : Term). mem x t) (sym e) ∙ m in
        let f : res β (denote N w q) ≡ var q = ap (res β) (denote_variable N w q lq) ∙ full_unbound β q (h.lookups q (rq.variable lq) ∙ ap (binding_of N w) (walks_end wf h v lq)) in
        let s : same x q ≡ true = ap (λ (t : Term). mem x t) (sym f) ∙ mq in
        subst (λ (z : ℕ). Reaches N w values q z) (sym (same_true s)) here)
        (λ lq. let f = e ∙ ap (res β) (denote_node N w variables used wf q rq lq) in
        let z = ap (λ (t : Term). size t) f in
        let (i, li, mi, taken) = args_mem N x (full β) w (suc (q - N)) (arity_of (w (q - N))) (ap (λ (t : Term). mem x t) (sym f) ∙ m) in
        step (argument i lq li) (mem_reach x n (w (suc (q - N) + i)) (reference_argument N w variables used wf q i rq lq li) (omega arith) mi))
        (low_or_high q N))

-- Links: where they lead is one root, which is found, and two roots are joined.
use Rattle.std.specs.Prelude.{ℕ, zero, suc, ◌+◌, ◌≤◌, ◌<◌, ◌≡◌, refl, length}
use Rattle.std.proofs.Common.{arith, sym, subst, ◌∙◌, inl, inr, min, max}
use Rattle.std.proofs.Math.Nat.{min-eq_left, min-eq_right, max-eq_left, max-eq_right}
use Rattle.terms.specs.Numbers.{by_same}
use Rattle.arena.specs.Cells.{Cells}
use Rattle.arena.specs.Rows.{Rows, column}
use Rattle.unifier.specs.Promises.{LeadsTo, stay, go, Falling, Joined}
use Rattle.bindings.specs.Promises.{Entered}
use Rattle.bindings.specs.Orders.{by_order}

-- There is one root.
pub leads_one : {links : Cells} {a p q : ℕ} → LeadsTo links a p → LeadsTo links a q → p ≡ q
leads_one (stay e) (stay e') = refl
leads_one (stay e) (go e' m) = absurd (omega arith)
leads_one (go e m) (stay e') = absurd (omega arith)
leads_one {links} {q = q} (go {x = x₁} e m) (go {x = x₂} e' m') =
    let z : suc x₂ ≡ suc x₁ = sym e' ∙ e in let z' : x₂ ≡ x₁ = omega arith in leads_one m (subst (λ (a : ℕ). LeadsTo links a q) z' m')

-- Links fall, so they end.
pub lead_is : (links : Cells) → ((a z : ℕ) → links a ≡ suc z → z < a) → (n r : ℕ) → r ≤ n → (p : ℕ) × LeadsTo links r p
lead_is links f zero r l = at (links r) refl
  where
    at : (z : ℕ) → links r ≡ z → (p : ℕ) × LeadsTo links r p
    at zero e = (r, stay e)
    at (suc x) e = absurd (let q = f r x e in omega arith)
lead_is links f (suc n) r l = at (links r) refl (λ x q. lead_is links f n x q)
  where
    at : (z : ℕ) → links r ≡ z → ((x : ℕ) → x ≤ n → (p : ℕ) × LeadsTo links x p) → (p : ℕ) × LeadsTo links r p
    at zero e ih = (r, stay e)
    at (suc x) e ih = let q = f r x e in let (p, m) = ih x (omega arith) in (p, go e m)

-- The loop of `find`.
pub record Finding (links : Rows) (r q : ℕ) : Type 0 where
  pub falls : Falling links
  pub room : r < length links
  pub le : q ≤ r
  pub on : (p : ℕ) → LeadsTo (column 0 links) q p → LeadsTo (column 0 links) r p

pub find_next : {links : Rows} {r q : ℕ} (x : ℕ) → Finding links r q → column 0 links q ≡ suc x → Finding links r x × (x < q)
find_next {links} {r} {q} x h e = let f = h.falls q x e in
    (record { falls = h.falls; room = h.room; le = let z = h.le in omega arith; on = λ p m. h.on p (go e m) }, f)

-- Two roots are linked, the greater to the smaller.
pub join_up : {links links' : Rows} {c x y p q : ℕ} → LeadsTo (column 0 links) x p → LeadsTo (column 0 links) y q → p < q → Entered links links' c q (p + 1) → Joined links links' c x y
join_up {p = p} {q = q} lp lq l e = record { root_x = p; root_y = q; leads_x = lp; leads_y = lq; from = q; to = p; either = inr (refl, refl); falls = inr l; entered = e }

pub join_down : {links links' : Rows} {c x y p q : ℕ} → LeadsTo (column 0 links) x p → LeadsTo (column 0 links) y q → q ≤ p → Entered links links' c p (q + 1) → Joined links links' c x y
join_down {p = p} {q = q} lp lq l e = record {
  root_x = p;
  root_y = q;
  leads_x = lp;
  leads_y = lq;
  from = p;
  to = q;
  either = inl (refl, refl);
  falls = by_same p q (λ d _. inl d) (λ d _. inr (by_order q p (λ a. a) (λ a. absurd (d (omega arith)))));
  entered = e;
}

pub join_roots : {links links' : Rows} {c x y p q : ℕ} → LeadsTo (column 0 links) x p → LeadsTo (column 0 links) y q
    → Entered links links' c (max p q) (min p q + 1) → Joined links links' c x y
join_roots {links} {links'} {c} {p = p} {q = q} lp lq e = by_order p q
    (λ l. let k : p ≤ q = omega arith in join_up lp lq l (rw (max-eq_right k, min-eq_left k) at e))
    (λ l. join_down lp lq l (rw (max-eq_left l, min-eq_right l) at e))

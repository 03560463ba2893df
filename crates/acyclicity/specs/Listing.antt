-- Stored bindings do have a list: the bound variables in order. So the check's answer is never empty of meaning: it is true exactly if this list, and
-- then every other, is acyclic.
use Rattle.std.specs.Prelude.{ℕ, zero, suc, ◌≡◌, refl, ◌≢◌}
use Rattle.std.proofs.Common.{arith, not-suc-le-zero, sym, ap, ◌∙◌}
use Rattle.std.proofs.Math.Option.{Option, none, some}
use Rattle.terms.specs.Numbers.{same_refl, same_ne, by_same, by_less}
use Rattle.terms.specs.Term.{Term}
use Rattle.terms.specs.Bindings.{Bindings, start, bind, lookup}
use Rattle.terms.specs.Order.{Distinct}
use Rattle.arena.specs.Cells.{Cells}
use Rattle.acyclicity.specs.Contract.{binding_of, Held}

-- A variable with what it is bound to, in front of a list.
abbrev pub list_one : ℕ → Option Term → Bindings → Bindings
list_one x none β = β
list_one x (some t) β = bind x t β

-- The bindings of the variables below n, the greatest first.
abbrev pub listed : ℕ → Cells → Cells → ℕ → Bindings
listed N w bound zero = start
listed N w bound (suc n) = list_one n (binding_of N w (bound n)) (listed N w bound n)

lookup_other : (x y : ℕ) (o : Option Term) (β : Bindings) → y ≢ x → lookup (list_one x o β) y ≡ lookup β y
lookup_other x y none β n = refl
lookup_other x y (some t) β n = rw (same_ne n)

lookup_here : (x : ℕ) (o : Option Term) (β : Bindings) → lookup β x ≡ none → lookup (list_one x o β) x ≡ o
lookup_here x none β e = e
lookup_here x (some t) β e = rw (same_refl x)

distinct_one : (x : ℕ) (o : Option Term) (β : Bindings) → lookup β x ≡ none → Distinct β → Distinct (list_one x o β)
distinct_one x none β e d = d
distinct_one x (some t) β e d = (e, d)

pub listed_held : (N : ℕ) (w bound : Cells) (n : ℕ) → Held N w bound n (listed N w bound n)
listed_held N w bound zero = record { distinct = tt; below = λ v l. absurd (not-suc-le-zero l); above = λ v l. refl }
listed_held N w bound (suc n) =
    let ih = listed_held N w bound n in
    let free = ih.above n (omega arith) in
    record {
      distinct = distinct_one n (binding_of N w (bound n)) (listed N w bound n) free ih.distinct;
      below = λ v l. by_same v n
          (λ e q. ap (λ (k : ℕ). lookup (listed N w bound (suc n)) k) e
          ∙ (lookup_here n (binding_of N w (bound n)) (listed N w bound n) free ∙ ap (λ (k : ℕ). binding_of N w (bound k)) (sym e)))
          (λ m q. lookup_other n v (binding_of N w (bound n)) (listed N w bound n) m ∙ ih.below v (by_less v n (λ k r. k) (λ k r. absurd (m (omega arith)))));
      above = λ v l. lookup_other n v (binding_of N w (bound n)) (listed N w bound n) (λ e. let z : ⊥ = omega arith in z) ∙ ih.above v (omega arith);
    }

-- Acyclicity does not depend on the order in which bindings are listed. As a graph, the bindings have an edge from a bound variable to each variable
-- of its term; the graph is acyclic if the variables can be ranked so that ranks fall along the edges. A list is acyclic exactly if each variable is
-- bound once and the graph is acyclic.
use Rattle.std.specs.Prelude.{ℕ, suc, ◌+◌, ◌≤◌, ◌<◌, ◌≡◌, refl, true, false, cond}
use Rattle.std.proofs.Common.{ap, arith, le_refl}
use Rattle.std.proofs.Math.Option.{none, some}
use Rattle.terms.specs.Numbers.{same_refl, same_true, by_same, by_bool, true_false, some_none, none_some}
use Rattle.terms.specs.Term.{Kind, Syn, var, app, nil, cons, Term, upd, mem}
use Rattle.terms.specs.Bindings.{Bindings, start, bind, lookup, full, res, occurs, Acyclic}
use Rattle.terms.specs.TermLaws.{mem_through, through_mem, mem_var}
use Rattle.terms.specs.BindingLaws.{full_unbound, full_solves, solves_lookup}

-- Each variable is bound once.
abbrev pub Distinct : Bindings → Type 0
Distinct start = Unit {0}
Distinct (bind x t β) = (lookup β x ≡ none) × Distinct β

-- The rank falls from a bound variable to the variables of its term.
abbrev pub Ranked : (ℕ → ℕ) → Bindings → Type 0
Ranked r β = (x : ℕ) (t : Term) (y : ℕ) → lookup β x ≡ some t → mem y t ≡ true → r y < r x

-- Every binding of the first list stands in the second.
abbrev pub Within : Bindings → Bindings → Type 0
Within β β' = (y : ℕ) (t : Term) → lookup β y ≡ some t → lookup β' y ≡ some t

pub acyclic_distinct : (β : Bindings) → Acyclic β → Distinct β
acyclic_distinct start h = tt
acyclic_distinct (bind x t β) h = (h.0, acyclic_distinct β h.2)

-- From a rank to acyclicity: ranks do not rise when the bindings are put in.

ranked_tail : (r : ℕ → ℕ) (x : ℕ) (t : Term) (β : Bindings) → lookup β x ≡ none → Ranked r (bind x t β) → Ranked r β
ranked_tail r x t β n h y u z e m = h y u z (by_same y x (λ p q. some_none e (rw p n)) (λ p q. rw q e)) m

ranked_full : (r : ℕ → ℕ) (β : Bindings) → Distinct β → Ranked r β → (y z : ℕ) → mem z (full β y) ≡ true → r z ≤ r y
ranked_full r start d h y z e = rw (mem_var e) (le_refl (r y))
ranked_full r (bind x t β) d h y z e =
    let ih = ranked_full r β d.1 (ranked_tail r x t β d.0 h) in
    let p = mem_through z (upd x (res β t) var) (full β y) e in
    by_same p.y x
    (λ px q. let m : mem z (res β t) ≡ true = rw q at p.there in
    let v = mem_through z (full β) t m in
    let a : r z ≤ r v.y = ih v.y z v.there in
    let b : r v.y < r x = h x t v.y (rw (same_refl x)) v.here in
    let i : r p.y ≤ r y = ih y p.y p.here in
    omega (arith, ap r px))
    (λ px q. let zy : z ≡ p.y = mem_var (rw q at p.there) in
    let i : r p.y ≤ r y = ih y p.y p.here in
    omega (arith, ap r zy))

pub ranked_acyclic : (r : ℕ → ℕ) (β : Bindings) → Distinct β → Ranked r β → Acyclic β
ranked_acyclic r start d h = tt
ranked_acyclic r (bind x t β) d h =
    let k = ranked_tail r x t β d.0 h in (
      d.0,
      by_bool (occurs β x t)
          (λ e. let v = mem_through x (full β) t e in
          let a : r x ≤ r v.y = ranked_full r β d.1 k v.y x v.there in
          let b : r v.y < r x = h x t v.y (rw (same_refl x)) v.here in
          absurd (omega arith))
          (λ e. e),
      ranked_acyclic r β d.1 k,
    )

-- From acyclicity to a rank: a newer binding lifts its variable, and those that lead to it, above the variables of its term.

-- The ranks of all variables of a term together.
abbrev sum : {s : Kind} → (ℕ → ℕ) → Syn s → ℕ
sum r (var x) = r x
sum r (app f ts) = sum r ts
sum r nil = 0
sum r (cons t ts) = sum r t + sum r ts

sum_mem : {s : Kind} (r : ℕ → ℕ) (t : Syn s) (y : ℕ) → mem y t ≡ true → r y ≤ sum r t
unfolding mem
sum_mem r (var x) y e = rw (same_true e) (le_refl (r x))
sum_mem r (app f ts) y e = sum_mem r ts y e
sum_mem r nil y e = true_false e refl
sum_mem r (cons t ts) y e = by_bool (mem y t)
    (λ p. omega (arith, sum_mem r t y p))
    (λ p. omega (arith, sum_mem r ts y (rw p at e)))

-- A rank for acyclic bindings.
abbrev pub rank : Bindings → ℕ → ℕ
rank start z = 0
rank (bind x t β) z = rank β z + cond (mem x (full β z)) (suc (sum (rank β) t)) 0

pub acyclic_ranked : (β : Bindings) → Acyclic β → Ranked (rank β) β
unfolding mem
acyclic_ranked start h v u y e m = none_some e
acyclic_ranked (bind x t β) h v u y e m = by_same v x
    (λ p q. let e' : some t ≡ some u = rw q at e in
    let ut : t ≡ u = cc in
    let my : mem y t ≡ true = rw ut m in
    let no : mem x (full β y) ≡ false = by_bool (mem x (full β y)) (λ k. true_false (through_mem x y (full β) t my k) h.1) (λ k. k) in
    let yes : mem x (full β v) ≡ true = rw (p, full_unbound β x h.0) (same_refl x) in
    rw (no, yes) (omega (arith, sum_mem (rank β) t y my)))
    (λ p q. let e' : lookup β v ≡ some u = rw q at e in
    let ih : rank β y < rank β v = acyclic_ranked β h.2 v u y e' m in
    let vu : full β v ≡ res β u = solves_lookup (full β) β (full_solves β h.2) v u e' in
    by_bool (mem x (full β y))
    (λ k. let k' : mem x (full β v) ≡ true = rw vu (through_mem x y (full β) u m k) in rw (k, k') (omega arith))
    (λ k. rw k (omega arith)))

-- The order does not matter: bindings that stand among acyclic ones, in any order, are acyclic.
pub reorder : (β β' : Bindings) → Acyclic β' → Distinct β → Within β β' → Acyclic β
reorder β β' ac d h = ranked_acyclic (rank β') β d (λ x t y e m. acyclic_ranked β' ac x t y (h x t e) m)

-- What falls with each turn: the links still possible, the room on the stack, the arguments left, and whether a pair is to be made equal. The stack
-- has room, since the left terms on it strictly shrink.
use Rattle.std.specs.Prelude.{ℕ, zero, suc, ◌+◌, ◌-◌, ◌*◌, ◌≤◌, ◌<◌, ◌≡◌, refl, Bool, true, false, ◌≢◌, List}
use Rattle.std.proofs.Common.{arith, not-suc-le-zero, sym, ap, ap₂, ◌∙◌}
use Rattle.terms.specs.Term.{Term, sub, size}
use Rattle.terms.specs.Bindings.{Bindings, full}
use Rattle.terms.specs.Unification.{Eqn}
use Rattle.terms.specs.BindingLaws.{full_solves}
pub use Rattle.terms.specs.TermLists.{bit}
use Rattle.arena.specs.Cells.{Cells, denote}
use Rattle.bindings.specs.Orders.{by_order, pigeonhole}
use Rattle.bindings.specs.Entries.{zeros, zeros_less}
use Rattle.unifier.specs.Pairs.{Stack, bottom, pair, State}

-- Twice the arguments not taken, of the first d open pairs.
abbrev pub untaken : Cells → ℕ → ℕ
untaken taken zero = 0
untaken taken (suc d) = 2 * (32 - taken d) + untaken taken d

-- The number that falls with each turn; `bit` is one where a pair is to be made equal.
abbrev pub measure : ℕ → Cells → Cells → ℕ → ℕ → Bool → ℕ
measure N links taken used d b = 200 * zeros links (N + used) + 100 * (used - d) + untaken taken d + bit b

pub untaken_same : (taken taken' : Cells) (d : ℕ) → ((j : ℕ) → j < d → taken' j ≡ taken j) → untaken taken' d ≡ untaken taken d
untaken_same taken taken' zero h = refl
untaken_same taken taken' (suc d) h = ap₂ (λ (x y : ℕ). 2 * (32 - x) + y) (h d (omega arith)) (untaken_same taken taken' d (λ j l. h j (omega arith)))

module _ (N : ℕ) where
  pub open_falls : (links taken taken' : Cells) (used d : ℕ) → suc d ≤ used → ((j : ℕ) → j < d → taken' j ≡ taken j) → taken' d ≡ 0 → measure N links taken' used (suc d) false < measure N links taken used d true
  open_falls links taken taken' used d l h e = let a = untaken_same taken taken' d h in omega arith

  pub next_falls : (links taken taken' : Cells) (used d : ℕ) → ((j : ℕ) → j < d → taken' j ≡ taken j) → taken' d ≡ suc (taken d) → taken d < 32 → measure N links taken' used (suc d) true < measure N links taken used (suc d) false
  next_falls links taken taken' used d h e l = let a = untaken_same taken taken' d h in omega arith

  pub close_falls : (links links' taken : Cells) (used d P Q : ℕ) → P < N + used → links P ≡ 0 → links' P ≡ suc Q → ((a : ℕ) → a ≢ P → links' a ≡ links a) → measure N links' taken used d false < measure N links taken used (suc d) false
  close_falls links links' taken used d P Q l e e' h = let a = zeros_less links links' (N + used) P Q l e e' h in omega arith

module _ {N : ℕ} where
  -- the stack has room
  pub stack_nodes : {w lefts rights taken : Cells} {β : Bindings} {variables used d : ℕ} {X Y : Term} {es : List Eqn} → Stack N w lefts rights taken β variables used d X Y es → (j : ℕ) → j < d → (N ≤ lefts j) × (lefts j < N + used)
  stack_nodes bottom j l = absurd (not-suc-le-zero l)
  stack_nodes {lefts = lefts} {variables = variables} {used = used} (pair {d = d} a b i ea eb ei f h fs) j l = by_order j d (λ jd. stack_nodes fs j jd)
      (λ jd. let q : lefts j ≡ a = let jj : j ≡ d = omega arith in ap lefts jj ∙ ea in let n = f.left_in.node f.left_node in let m = f.left_node in (omega arith, omega arith))

  pub stack_in : {w values trail links lefts rights taken : Cells} {variables used k d : ℕ} {β : Bindings} {X Y : Term} {es : List Eqn} → State N w values trail links lefts rights taken variables used k d β X Y es → d ≤ used
  stack_in {w} {values} {trail} {links} {lefts} {rights} {taken} {variables} {used} {k} {d} {β} h = pigeonhole used d (λ j. lefts j - N)
      (λ i l. let (a, b) = stack_nodes h.stack i l in omega arith)
      (λ i j li lj e. let (a, b) = stack_nodes h.stack i li in let (a', b') = stack_nodes h.stack j lj in
      let e' : lefts i ≡ lefts j = omega arith in
      by_order i j (λ ij. absurd (no i j ij lj e')) (λ ij. by_order j i (λ ji. absurd (no j i ji li (sym e'))) (λ ji. omega arith)))
    where
      no : (i j : ℕ) → i < j → j < d → lefts i ≡ lefts j → ⊥
      no i j ij lj e =
          let z = h.smaller i j ij lj (full β) (full_solves β h.holds.acyclic) in
          let y = ap (λ (r : ℕ). size (sub (full β) (denote N w r))) e in omega arith

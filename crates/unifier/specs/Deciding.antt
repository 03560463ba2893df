-- What `decide` finds, as its contract says it.
use Rattle.std.specs.Prelude.{ℕ, ◌+◌, ◌-◌, ◌≤◌, ◌<◌, ◌≡◌, ◌≢◌, List, length}
use Rattle.std.proofs.Common.{arith, sym, subst, ◌∙◌}
use Rattle.arena.specs.Cells.{cells, arity_of}
use Rattle.arena.specs.Rows.{Rows, column}
use Rattle.bindings.specs.Stored.{Form, WalksTo}
use Rattle.unifier.specs.Promises.{LeadsTo, Ways, Alike, met, constants, linked, Opening}
use Rattle.bindings.specs.Promises.{Walked}
use Rattle.unifier.specs.Linking.{leads_one}
use Rattle.bindings.specs.Search.{reference_low}

module _ {N : ℕ} {w : List ℕ} {b : Rows} {variables used k x y p q : ℕ} (vx : Walked N w b variables used k x p) (vy : Walked N w b variables used k y q) where
  pub ways : Ways N b x y p q
  ways = record { first = vx.way; second = vy.way }

  pub alike_met : {links : Rows} → p ≡ q → Alike N w b links x y
  alike_met e = met p (record { first = vx.way; second = subst (λ (z : ℕ). WalksTo N (column 0 b) y z) (sym e) vy.way })

  pub alike_constants : {links : Rows} → N ≤ p → N ≤ q → cells w (p - N) ≡ cells w (q - N) → arity_of (cells w (p - N)) ≡ 0 → Alike N w b links x y
  alike_constants lp lq e z = constants p q ways lp lq e z

  pub alike_linked : {links : Rows} {root root' : ℕ} → LeadsTo (column 0 links) p root → LeadsTo (column 0 links) q root' → root ≡ root' → Alike N w b links x y
  alike_linked {links} {root} l l' e = linked p q root ways l (subst (λ (z : ℕ). LeadsTo (column 0 links) q z) (sym e) l')

  pub opened : {links : Rows} {root root' : ℕ} → N ≤ p → N ≤ q → cells w (p - N) ≡ cells w (q - N) → LeadsTo (column 0 links) p root → LeadsTo (column 0 links) q root' → root ≢ root' → Opening N w b links x y p q
  opened lp lq e l l' n = record { ways = ways; first_node = lp; second_node = lq; alike = e; apart = λ r i j. n (leads_one l i ∙ leads_one j l') }

-- The header of a node is among the words.
pub header_in : {N : ℕ} {w : List ℕ} {b : Rows} {variables used k x p : ℕ} → Form N w b variables used k → Walked N w b variables used k x p → N ≤ p → p - N < length w
header_in f v l = let i = reference_low v.in_form in let n = f.lent_words in omega arith

pub root_in : {N : ℕ} {w : List ℕ} {b : Rows} {variables used k x p n : ℕ} → Walked N w b variables used k x p → N + used ≤ n → p < n
root_in v l = let i = reference_low v.in_form in omega arith

-- `is_apart` meets its contract: a node is compared by its header, and a variable fits any value.
use native.Mathlib.Omega.{arith}
use Prim.Native.Nat.{ℕ}
use mathlib.Core.Path.{sym, ap, ◌∙◌}
use lib.ListN.{get_or}
use borrow.Author.Tests.{eq-eqb}
use Rattle.terms.specs.Numbers.{true_false}
use Rattle.clause_matching.proofs.PatternOf.{in_storage, node_is}
use Rattle.clause_matching.proofs.Apart.{first_is, apart}
use Rattle.clause_matching.proofs.choice.is_apart.Goals as goal

pub pattern_at-requires : goal.pattern_at-requires
pattern_at-requires c = let z = c.in-Some.ensures in in_storage (c.requires.patterned (omega arith))

pub returns-in-Node : goal.returns-in-Node
returns-in-Node c =
    let z = c.in-Some.ensures in
    let (v, h, f) = node_is _ _ c.pattern_at.ensures _ _ c.in-Node.is in
    λ e. apart c.requires (omega arith) v (λ q. true_false e (rw (eq-eqb _ _ (h ∙ q ∙ ap (λ (i : ℕ). get_or c.args.words.now i 0) (sym (first_is _ _ c.in-Some.ensures.value))))))

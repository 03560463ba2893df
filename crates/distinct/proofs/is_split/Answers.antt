-- `is_split` meets its contract: where the answer is no, two names were compared.
use Prim.Native.Nat.{◌-◌}
use native.Mathlib.Omega.{arith}
use mathlib.Core.Path.{◌≡◌, sym, ap, ◌∙◌}
use Rattle.std.specs.Ordering.{is_ge}
use Rattle.distinct.specs.Sorting.{name_at}
use Rattle.distinct.proofs.OrderLaws.{not_behind}
use Rattle.distinct.proofs.is_split.Goals as goal

pub returns-else-to-from-eq2 : goal.returns-else-to-from-eq2
unfolding name_at
returns-else-to-from-eq2 c = λ e i q.
    let m : i ≡ c.args.middle - 1 = omega (arith) in
    rw m (not_behind _ _ (ap is_ge (sym c.compare.ensures) ∙ sym c.is_ge.ensures ∙ e))

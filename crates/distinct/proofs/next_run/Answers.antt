-- `next_run` meets its contract: a run at its end has no next name, and otherwise the two names are compared.
use Rattle.distinct.specs.Sorting.{name_at}
use Rattle.distinct.proofs.MergeLaws.{next_second, next_first, next_compared}
use mathlib.Core.Path.{refl}
use Rattle.distinct.proofs.OrderLaws.{compared}
use native.Mathlib.Omega.{arith}
use Rattle.distinct.proofs.next_run.Goals as goal

pub returns-then-i-middle : goal.returns-then-i-middle
returns-then-i-middle c = next_second (omega (arith, c.if-i-middle.true)) (omega (arith, c.if-i-middle.true, c.requires))

pub returns-then-j-to : goal.returns-then-j-to
returns-then-j-to c = next_first (omega (arith, c.if-i-middle.false, c.requires)) (omega (arith, c.if-j-to.true))

pub returns : goal.returns
unfolding name_at
returns c =
    let if1 = c.if-i-middle in
    let pre = c.requires in
    let if2 = c.if-j-to in
    next_compared (omega (arith, if1.false, pre)) (omega (arith, if2.false, pre)) refl refl (rw c.compare.ensures (compared _ _))

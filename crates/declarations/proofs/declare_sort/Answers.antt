-- `declare_sort` meets its contract: the sort is refused, or it is one more.
use mathlib.Core.Path.{refl}
use Rattle.names.specs.UsedLaws.{symbols_used}
use Rattle.refusals.specs.Refused.{handed_on}
use Rattle.declarations.proofs.declare_sort.Goals as goal

pub returns-in_err-enter_sort : goal.returns-in_err-enter_sort
returns-in_err-enter_sort c =
    let a = c.args in
    let known = symbols_used a.symbols.now a.state.symbols c.requires.4 a.source.text.now in
    rw (handed_on c.from_residual.result c.from_residual.ensures.1)
    (record { value = rw (known, c.behind_kind-word.ensures) at c.in_err-enter_sort.ensures.value; sorts_after = rw (known, c.behind_kind-word.ensures) at c.enter_sort.ensures.sorts_after })

pub returns : goal.returns
returns c =
    let a = c.args in
    let known = symbols_used a.symbols.now a.state.symbols c.requires.4 a.source.text.now in
    record { value = (rw (known, c.behind_kind-word.ensures) at c.in_ok-enter_sort.ensures.value, refl); sorts_after = rw (known, c.behind_kind-word.ensures) at c.enter_sort.ensures.sorts_after }

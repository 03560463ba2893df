-- `enter_sort` meets its contract: one law for each way out.
use Rattle.std.proofs.Common.{refl, ◌≤◌, length, arith}
use Rattle.names.specs.SearchLaws.{sorts_length}
use Rattle.names.specs.UsedLaws.{sorts_used}
use Rattle.loader.proofs.EntryLaws.{sort_taken, sort_new, sort_full}
use Rattle.loader.proofs.enter_sort.Goals as goal

pub returns-then-is_taken : goal.returns-then-is_taken
returns-then-is_taken c =
    let a = c.args in
    let lent : a.many ≤ length a.sorts.now = omega arith in
    let told = rw (sorts_used a.sorts.now a.many lent a.text.now, c.part.ensures) at c.is_taken.ensures in
    record { value = (sort_taken _ _ _ told c.if-is_taken.true, omega arith); sorts_after = rw (← sort_taken _ _ _ told c.if-is_taken.true) refl }

pub returns-then-many-lt-SORTS : goal.returns-then-many-lt-SORTS
returns-then-many-lt-SORTS c =
    let a = c.args in
    let lent : a.many ≤ length a.sorts.now = omega arith in
    let told = rw (sorts_used a.sorts.now a.many lent a.text.now, c.part.ensures) at c.is_taken.ensures in
    let long = sorts_length a.text.now a.sorts.now a.many lent in
    let new = sort_new _ _ _ told c.if-is_taken.false (omega (arith, long, c.if-many-lt-SORTS.true)) in
    record { value = new; sorts_after = rw (← new) refl }

pub returns : goal.returns
returns c =
    let a = c.args in
    let lent : a.many ≤ length a.sorts.now = omega arith in
    let told = rw (sorts_used a.sorts.now a.many lent a.text.now, c.part.ensures) at c.is_taken.ensures in
    let long = sorts_length a.text.now a.sorts.now a.many lent in
    let full = sort_full _ _ _ told c.if-is_taken.false (omega (arith, long, c.if-many-lt-SORTS.false)) in
    record { value = (full, omega arith); sorts_after = rw (← full) refl }

-- `is_taken` meets its contract: first the sorts, then the symbols.
use Rattle.loader.proofs.EntryLaws.{is_sort, no_sort}
use Rattle.loader.proofs.is_taken.Goals as goal

pub returns-then-is_some : goal.returns-then-is_some
returns-then-is_some c =
    let k = c.args.known in
    is_sort k.text.now k.sorts.now k.symbols.now c.args.word.now c.find.ensures (rw c.is_some.ensures at c.if-is_some.true)

pub returns : goal.returns
returns c =
    let k = c.args.known in
    rw c.is_some-2.ensures (no_sort k.text.now k.sorts.now k.symbols.now c.args.word.now c.find.ensures (rw c.is_some.ensures at c.if-is_some.false) c.find-2.ensures)

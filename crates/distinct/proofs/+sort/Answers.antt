-- `sort` meets its contract: the part to sort gets shorter. Its halves are sorted one after the other, copied, and merged.
use native.Mathlib.Omega.{arith}
use Rattle.distinct.proofs.SortLaws.{copied_names, sorted_short, sorted_first, sorted_second, first_run, second_run, sorted_joined, sorted_all}
use Rattle.distinct.proofs.+sort.Goals as goal

pub returns-then-to-from-lt2 : goal.returns-then-to-from-lt2
returns-then-to-from-lt2 t c = sorted_short _ c.args.from c.args.to (omega (arith, c.if-to-from-lt2.true))

pub sort-requires : goal.sort-requires
sort-requires t c =
    let pre = c.requires in
    let if1 = c.if-to-from-lt2 in
    (omega (arith, if1.false), (omega arith, omega (arith, pre), omega (arith, pre)))

pub returns-then-not-sort : goal.returns-then-not-sort
returns-then-not-sort t c =
    sorted_first (omega (arith, c.requires)) c.sort.ensures (c.if-not-sort.true)

pub sort-requires-2 : goal.sort-requires-2
sort-requires-2 t c =
    let pre = c.requires in
    let if1 = c.if-to-from-lt2 in
    let sort = c.sort in
    (omega (arith, if1.false), (omega (arith, pre), omega (arith, pre, sort.auto.places), omega (arith, pre, sort.auto.spare)))

pub returns-then-not-sort-2 : goal.returns-then-not-sort-2
returns-then-not-sort-2 t c =
    let pre = c.requires in
    let sort = c.sort in
    let if2 = c.if-not-sort in
    let sort2 = c.sort-2 in
    let if3 = c.if-not-sort-2 in
    sorted_second (omega arith) (omega (arith, pre)) sort.ensures (if2.false) sort2.ensures (if3.true)

pub copy-requires : goal.copy-requires
copy-requires t c =
    let pre = c.requires in
    let sort = c.sort in
    let sort2 = c.sort-2 in
    (pre.0, omega (arith, pre.1, sort.auto.places, sort2.auto.places), omega (arith, pre.2, sort.auto.spare, sort2.auto.spare))

pub merge-requires : goal.merge-requires
merge-requires t c =
    let pre = c.requires in
    let sort = c.sort in
    let sort2 = c.sort-2 in
    let copy = c.copy in
    let if2 = c.if-not-sort in
    let if3 = c.if-not-sort-2 in
    let args = c.args in
    (omega arith, omega (arith), omega (arith, pre.2, sort.auto.spare, sort2.auto.spare, copy.auto.spare), omega (arith, pre.1, sort.auto.places, sort2.auto.places), first_run (omega arith) (omega (arith)) sort.ensures (if2.false) sort2.ensures (if3.false) (copied_names args.text.now sort2.new.places copy.new.spare copy.ensures), second_run (omega arith) (omega (arith)) sort.ensures (if2.false) sort2.ensures (if3.false) (copied_names args.text.now sort2.new.places copy.new.spare copy.ensures))

pub is_split-requires : goal.is_split-requires
is_split-requires t c =
    let pre = c.requires in
    (omega (arith, c.if-to-from-lt2.false), omega (arith, c.if-to-from-lt2.false), omega (arith, pre, c.sort.auto.places, c.sort-2.auto.places))

pub returns-then-is_split : goal.returns-then-is_split
returns-then-is_split t c =
    let pre = c.requires in
    let sort = c.sort in
    let if2 = c.if-not-sort in
    let sort2 = c.sort-2 in
    let if3 = c.if-not-sort-2 in
    let args = c.args in
    let copy = c.copy in
    let merge = c.merge in
    sorted_all (omega arith) (omega (arith)) sort.ensures (if2.false) sort2.ensures (if3.false) (copied_names args.text.now sort2.new.places copy.new.spare copy.ensures) merge.ensures

pub returns : goal.returns
returns t c =
    sorted_joined (omega arith) (omega (arith)) c.sort.ensures c.if-not-sort.false c.sort-2.ensures c.if-not-sort-2.false c.is_split.ensures c.if-is_split.false

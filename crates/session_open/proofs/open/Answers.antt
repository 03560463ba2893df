-- `open` meets its contract: one law for each way out. A row that is a clone of zeros is zeros.
use Rattle.std.proofs.Common.{arith}
use Rattle.std.proofs.lemmas.Grind.{same_number_lists}
use Rattle.load_storage.specs.Storage.{zero_pair}
use Rattle.sessions.specs.Storage.{zero_name, zero_triple}
use Rattle.session_open.proofs.Laws.{opening_short, opening_new}
use Rattle.session_open.proofs.open.Goals as goal

pub returns-then-are_short : goal.returns-then-are_short
returns-then-are_short c =
    let a = c.args in
    opening_short a.limits (record { names = a.names.now; words = a.words.now; bindings = a.bindings.now })
    (record { links = a.links.now; marks = a.marks.now; stack = a.stack.now }) (rw c.of-lengths.ensures at c.are_short.ensures) c.if-are_short.true

pub returns : goal.returns
returns c =
    let a = c.args in
    let names = c.fill.ensures.after (λ y h. same_number_lists y zero_name h.long (λ k l. h.at k 0 0 (omega (arith, h.long)))) in
    let words = c.fill-2.ensures.after (λ y h. h) in
    let bindings = c.fill-3.ensures.after (λ y h. same_number_lists y zero_pair h.long (λ k l. h.at k 0 0 (omega (arith, h.long)))) in
    let links = c.fill-4.ensures.after (λ y h. same_number_lists y zero_pair h.long (λ k l. h.at k 0 0 (omega (arith, h.long)))) in
    let marks = c.fill-5.ensures.after (λ y h. same_number_lists y zero_pair h.long (λ k l. h.at k 0 0 (omega (arith, h.long)))) in
    let stack = c.fill-6.ensures.after (λ y h. same_number_lists y zero_triple h.long (λ k l. h.at k 0 0 (omega (arith, h.long)))) in
    rw (names, words, bindings, links, marks, stack) (opening_new a.limits (record { names = a.names.now; words = a.words.now; bindings = a.bindings.now })
    (record { links = a.links.now; marks = a.marks.now; stack = a.stack.now }) (rw c.of-lengths.ensures at c.are_short.ensures) c.if-are_short.false)

-- `visit` meets its contract: an unmarked reference is entered, and for it the list has room.
use Rattle.bindings.specs.Entries.{entries_room}
use Rattle.bindings.specs.Search.{mark_one}
use native.Mathlib.Omega.{arith}
use Rattle.bindings.proofs.visits.Queue.visit.Goals as goal

pub enter-requires : goal.enter-requires
enter-requires c =
    let pre = c.requires in
    let args = c.args in
    let if1 = c.if-self-y-eq0 in
    let room = entries_room pre.fact_1 args.y pre.fact_2.0 if1.true in
    let a = pre.fact_2.1 in
    (omega arith, omega arith)

pub returns-then-self-y-eq0-clause-grown : goal.returns-then-self-y-eq0-clause-grown
returns-then-self-y-eq0-clause-grown c =
    let args = c.args in
    let pre = c.requires in
    let if1 = c.if-self-y-eq0 in
    let enter = c.enter in
    mark_one _ _ args.self.now.end args.y pre.fact_1 pre.fact_2.0 pre.fact_2.1 if1.true enter.ensures

-- `unify` meets its contract: after the loop the links are undone and the stack is cleared, and without success the bindings are undone.
use Rattle.unifier.specs.Ending.{bindings_undoable, ended_yes, ended_no}
use Rattle.unifier.proofs.unify.Goals as goal

pub returns-then-e-clause-unified : goal.returns-then-e-clause-unified
returns-then-e-clause-unified c =
    let equate = c.equate-e in
    let undo = c.undo in
    let clear = c.clear_before in
    let if1 = c.if-e in
    ended_yes equate.ensures.equated _ _ undo.ensures clear.ensures if1.true

pub undo-requires-2 : goal.undo-requires-2
undo-requires-2 c = bindings_undoable c.equate-e.ensures.equated

pub returns-clause-unified : goal.returns-clause-unified
returns-clause-unified c =
    let equate = c.equate-e in
    let undo = c.undo in
    let clear = c.clear_before in
    let if1 = c.if-e in
    let pre = c.requires in
    let undo2 = c.undo-2 in
    ended_no equate.ensures.equated _ _ undo.ensures clear.ensures if1.false pre.fact_1 _ undo2.ensures

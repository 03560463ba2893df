-- `check_trail` meets its contract: the marks that it makes are taken back on both ways out.
use mathlib.Core.Path.{◌∙◌}
use Rattle.bindings.specs.Checking.{tells_no, entered_undoable, entered_undone, trailed_not, trailed_tells}
use native.Mathlib.Omega.{arith}
use Rattle.bindings.proofs.trails.check_trail.Goals as goal

pub undo-requires-in-Ok : goal.undo-requires-in-Ok
undo-requires-in-Ok c =
    let few = c.requires.fact_1 in
    let lent = c.requires.fact_2.lent in
    entered_undoable (rw c.in-Ok.is at c.enter_trail.ensures.told) (omega arith)

pub returns-in-Err : goal.returns-in-Err
returns-in-Err c =
    let told = rw c.in-Err.is at c.enter_trail.ensures.told in
    let fewer = rw c.in-Err.is at c.enter_trail.ensures.fewer in
    record { tells = tells_no (trailed_not told fewer); marks = c.undo.ensures ∙ entered_undone told }

pub returns-in-Ok : goal.returns-in-Ok
returns-in-Ok c =
    let told = rw c.in-Ok.is at c.enter_trail.ensures.told in
    record { tells = trailed_tells told (omega arith) c.check_values-answer.ensures; marks = c.undo-in-Ok.ensures ∙ entered_undone told }

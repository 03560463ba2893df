-- `undo` meets its contract. The loop's invariant: what is left to take back comes to the rows that taking all back gives.
use Rattle.bindings.specs.TableLaws.{undo_put, undo_end}
use native.Mathlib.Omega.{arith}
use Rattle.bindings.proofs.tables.undo.Goals as goal

pub loop-i-preserved : goal.loop-i-preserved
loop-i-preserved c = undo_put c.loop-i.invariant.0 c.loop-i.invariant.1 c.loop-i-test.true

pub returns : goal.returns
returns c = undo_end c.loop-i.invariant.0 (omega arith)

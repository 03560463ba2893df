-- `undo` meets its contract. The loop's invariant: what is left to take back comes to the rows that taking all back gives.
use Rattle.bindings.specs.TableLaws.{Undoing, Pairs}
use Rattle.bindings.proofs.tables.undo.Given as goal

abbrev pub invariant-loop-i : goal.invariant-loop-i
invariant-loop-i l = Undoing l.initial.t l.n l.mark l.t l.i × Pairs l.t

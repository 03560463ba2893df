-- `meet` meets its contract. The loop's invariant: the words spent and those of what is left are the whole term's, and meeting what is left, from the
-- variables that the table records, comes to meeting the whole. What falls: words left to spend, arguments left on the stack, rows to close.
use Rattle.std.specs.Option.{unwrap_or, is_some}
use Rattle.meeting.proofs.Turns.{Turn, left}
use Rattle.meeting.proofs.meet.Given as goal

abbrev pub invariant-loop-next : goal.invariant-loop-next
invariant-loop-next l = Turn l.words l.reference l.initial.places l.initial.count l.most l.initial.stack l.places l.stack l.count l.spent l.depth (unwrap_or l.waiting 0) (is_some l.waiting)

abbrev pub decreases-loop-next : goal.decreases-loop-next
decreases-loop-next l = left l.most l.stack l.spent l.depth (is_some l.waiting)

-- `pattern` and `node` meet their contracts. What falls: twice the rows left, and 1 more for `node`. The invariant of `node`'s loop: k arguments are done,
-- and the rest comes to what the whole comes to.
use Prim.Native.Nat.{◌+◌, ◌*◌, ◌-◌}
use lib.ListN.{length}
use Rattle.names.specs.Symbols.{symbols_of}
use Rattle.patterns.proofs.Terms.{Looped, inputs_at}
use Rattle.patterns.proofs.+node_pattern.Given as goal

abbrev pub decreases-node : goal.decreases-node
decreases-node l = 2 * (length l.source.rows.now - l.from.next) + 1

abbrev pub decreases-pattern : goal.decreases-pattern
decreases-pattern l = 2 * (length l.source.rows.now - l.from.next)

abbrev pub invariant-node-loop-k : goal.invariant-node-loop-k
invariant-node-loop-k l = Looped l.source.text.now l.source.rows.now l.fn.from.next l.arguments (symbols_of l.source.text.now l.source.symbols.now (length l.source.symbols.now)) (inputs_at l.source.text.now l.source.symbols.now (length l.source.symbols.now) l.i) l.initial.variables l.fn.from.variables l.initial.words l.fn.from.used (l.fn.from.room - 1) l.k l.place.next l.variables l.place.variables l.words l.place.used l.place.room l.refs

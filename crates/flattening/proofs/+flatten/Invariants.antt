-- `flatten` meets its contract: the rows left fall. The loop's invariant: of the arguments, the first i are flattened, and the others are left.
use Prim.Native.Nat.{◌-◌}
use lib.ListN.{length}
use Rattle.names.specs.Symbols.{symbols_of}
use Rattle.flattening.proofs.FlatteningLaws.{Invariant}
use Rattle.flattening.proofs.+flatten.Given as goal

abbrev pub decreases-flatten : goal.decreases-flatten
decreases-flatten l = length l.source.rows.now - l.from.next

abbrev pub invariant-loop-i : goal.invariant-loop-i
invariant-loop-i l = Invariant l.source.text.now l.source.rows.now l.at (symbols_of l.source.text.now l.source.symbols.now (length l.source.symbols.now)) l.n l.initial.out l.top l.initial.calls l.fn.from.end l.fn.from.number l.out l.calls l._i l.place.next l.place.top l.place.end l.place.number

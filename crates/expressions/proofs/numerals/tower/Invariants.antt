-- `tower` meets its contract. The loop's invariant: so many of the n stand, the topmost with its sort, and words that were in form still are.
use lib.ListN.{length}
use Rattle.expressions.proofs.Towers.{Turn}
use Rattle.expressions.proofs.numerals.tower.Given as goal

abbrev pub invariant-loop-k : goal.invariant-loop-k
invariant-loop-k l = Turn l.symbols (length l.symbols) l.succ l.zero l.n l.room.used l.room.limit l.want l.initial.words l.initial.built.used l.words l.built.value l.sort l.built.used l._k

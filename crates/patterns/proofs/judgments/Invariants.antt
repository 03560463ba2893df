-- `judgments` meets its contract. The loop's invariant: k judgments are done, and the rest comes to what the whole comes to.
use mathlib.Core.List.{[]}
use lib.ListN.{length}
use Rattle.names.specs.Symbols.{symbols_of}
use Rattle.patterns.proofs.Terms.{Looped}
use Rattle.patterns.proofs.judgments.Given as goal

abbrev pub invariant-loop-head : goal.invariant-loop-head
invariant-loop-head l = Looped l.source.text.now l.source.rows.now l.fn.from.next (length l.initial.head-items) (symbols_of l.source.text.now l.source.symbols.now (length l.source.symbols.now)) [] l.initial.variables l.fn.from.variables l.initial.words l.fn.from.used l.fn.from.room l.head-index l.place.next l.variables l.place.variables l.words l.place.used l.place.room l.head-items

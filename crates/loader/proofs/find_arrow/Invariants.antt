-- `find_arrow` meets its contract. The loop's invariant: the numbers of the first i names are known, and written as far as there is room.
use Rattle.std.specs.Prelude.{length}
use Rattle.names.specs.Symbols.{sorts_of}
use Rattle.loader.specs.Arrows.{names_at}
use Rattle.loader.proofs.ArrowLaws.{Sofar}
use Rattle.loader.proofs.find_arrow.Given as goal

abbrev pub invariant-loop-i : goal.invariant-loop-i
invariant-loop-i l = Sofar (sorts_of l.text l.sorts (length l.sorts)) (names_at l.text l.fn.part.source.rows.now l.at l.i) l.last l.inputs l.i

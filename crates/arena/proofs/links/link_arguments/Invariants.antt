-- `link_arguments` meets its contract. The loop's invariant: the pairs passed are linked, and there are no links below `floor`.
use mathlib.Core.Bool.{true}
use lib.ListN.{length}
use Rattle.arena.proofs.Linking.{Pairs}
use Rattle.arena.proofs.links.link_arguments.Given as goal

abbrev pub invariant-loop-a : goal.invariant-loop-a
invariant-loop-a l = Pairs l.room l.left l.right l.initial.links l.low l.links (length l.yielded) l.floor true

-- `inst` meets its contract. The loop's invariant: writing the copied words from i on completes the copy.
use mathlib.Core.Path.{◌≡◌}
use Prim.Native.Nat.{◌+◌}
use lib.ListN.{drop}
use lib.Seq.{sets}
use Rattle.arena.specs.Copies.{copied}
use Rattle.arena.proofs.inst.Given as goal

abbrev pub invariant-loop-i : goal.invariant-loop-i
invariant-loop-i l = sets l.words (l.used + l.i) (drop l.i (copied l.part.words.now l.part.from l.part.count l.part.places.now l.room l.used l.counter)) ≡ sets l.initial.words l.used (copied l.part.words.now l.part.from l.part.count l.part.places.now l.room l.used l.counter)

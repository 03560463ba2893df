-- `has_outside` meets its contract. The loop's invariant: the line has a character outside the domain exactly when it has one from `at` on.
use mathlib.Core.Path.{◌≡◌}
use Prim.Native.Nat.{◌≤◌, ◌-◌}
use lib.ListN.{length, drop}
use Rattle.source_text.specs.Characters.{has_outside, outside_after}
use Rattle.source_text.proofs.characters.has_outside.Given as goal

abbrev pub invariant-loop-at : goal.invariant-loop-at
invariant-loop-at l = (l.at ≤ length l.line) × (has_outside l.line ≡ outside_after (drop l.at l.line) 0)

abbrev pub decreases-loop-at : goal.decreases-loop-at
decreases-loop-at l = length l.line - l.at

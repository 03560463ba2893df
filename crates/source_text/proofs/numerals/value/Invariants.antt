-- The loop's invariant: the word's numeral is the one whose first digits make v and whose other bytes stand from the loop's place on.
use mathlib.Core.Path.{◌≡◌}
use Prim.Native.Nat.{◌<◌, ◌^◌}
use lib.ListN.{drop}
use Rattle.source_text.specs.Numerals.{numeral_of}
use Rattle.source_text.proofs.Numbers.{numeral_from}
use Rattle.source_text.proofs.numerals.value.Given as goal

abbrev pub invariant-loop-c : goal.invariant-loop-c
invariant-loop-c l = (l.v < 2 ^ 64) × (numeral_of l.w ≡ numeral_from l.v (drop l.c-index l.w))

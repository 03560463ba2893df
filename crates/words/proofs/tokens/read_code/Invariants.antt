-- `read_code` meets its contract. The loop's invariant: the rows before n, and then the reading of the code from `at` on, come to the whole reading;
-- there is no more than one row for each byte passed.
use mathlib.Core.Path.{◌≡◌}
use Prim.Native.Nat.{◌≤◌, ◌-◌, ◌+◌}
use lib.ListN.{length, drop, take}
use Rattle.words.specs.Tokens.{and_then, read_after}
use Rattle.words.specs.Tokens.Reading.{tokens}
use Rattle.words.proofs.tokens.read_code.Given as goal

abbrev pub invariant-loop-at : goal.invariant-loop-at
invariant-loop-at l = (l.at ≤ length l.bytes) × (l.n ≤ l.at) × (length l.rows ≡ length l.initial.rows) × (and_then (tokens (take 0 l.initial.rows)) (read_after l.bytes 0 l.start l.line) ≡ and_then (tokens (take l.n l.rows)) (read_after (drop l.at l.bytes) 0 (l.start + l.at) l.line))

abbrev pub decreases-loop-at : goal.decreases-loop-at
decreases-loop-at l = length l.bytes - l.at

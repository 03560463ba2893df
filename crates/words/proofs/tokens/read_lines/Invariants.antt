-- The loop's invariant: the rows before `count`, and then the reading of the lines from the next one on, come to the whole reading;
-- there is no more than one row for each byte passed.
use mathlib.Core.Path.{◌≡◌}
use Prim.Native.Nat.{◌≤◌}
use lib.ListN.{length, drop, take}
use Rattle.source_text.specs.Lines.{lines}
use Rattle.words.specs.Tokens.{and_then, read_lines}
use Rattle.words.specs.Tokens.Reading.{tokens}
use Rattle.words.proofs.tokens.read_lines.Given as goal

abbrev pub invariant-loop-code : goal.invariant-loop-code
invariant-loop-code l = (l.code-iterator.text.now ≡ l.fn.all.text.now) × (l.count ≤ l.code-iterator.at) × (l.count ≤ length l.fn.all.text.now) × (length l.rows ≡ length l.initial.rows) × (read_lines (lines (drop l.fn.all.at l.fn.all.text.now)) l.fn.all.at l.fn.all.line ≡ and_then (tokens (take l.count l.rows)) (read_lines (lines (drop l.code-iterator.at l.fn.all.text.now)) l.code-iterator.at l.code-iterator.line))

-- `check_words` meets its contract. The loop's invariant: what is left to be read from `at` on decides as the whole does.
use mathlib.Core.Path.{◌≡◌}
use Prim.Native.Nat.{◌≤◌}
use lib.Seq.{slice}
use Rattle.arena.specs.Form.{nodes}
use Rattle.arena.proofs.check_words.Given as goal

abbrev pub invariant-loop-at : goal.invariant-loop-at
invariant-loop-at l = (l.from ≤ l.node) × (l.node ≤ l.at) × (nodes (record { words = l.terms.words.now; room = l.terms.room; variables = l.terms.variables; from = l.from }) l.arities (slice l.at l.terms.used l.terms.words.now) l.at l.node l.left ≡ nodes (record { words = l.terms.words.now; room = l.terms.room; variables = l.terms.variables; from = l.from }) l.arities (slice l.from l.terms.used l.terms.words.now) l.from l.from 0)

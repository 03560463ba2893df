-- Evaluations of one term agree (document 01, "Evaluated terms" and 37): what succeeds with some depth, calls and words behind it and
-- some limit on words succeeds with less behind it and a greater limit too, with the same value, the same trees and as much spent. So
-- any two that succeed have the same answer.
-- Here are the definitions; the theorems about them are in proofs/AgreementLaws.
use Prim.Native.Nat.{◌+◌, ◌≤◌}
use Rattle.std.specs.Prelude.{◌≡◌}
use Rattle.evaluation.specs.Calls.{Spent}

-- No more was spent at c' than at c.
pub record NoMore (c' c : Spent) : Type 0 where
  pub calls : c'.calls ≤ c.calls
  pub words : c'.words ≤ c.words

-- From c' to d' as much was spent as from c to d.
pub record AsMuch (c d c' d' : Spent) : Type 0 where
  pub calls : d'.calls + c.calls ≡ d.calls + c'.calls
  pub words : d'.words + c.words ≡ d.words + c'.words

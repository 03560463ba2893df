-- Laws of what is told of a sort or a symbol: it is refused, or it is one more.
use Prim.Native.Nat.{ℕ, ◌<◌}
use native.Mathlib.Omega.{arith}
use mathlib.Core.Path.{◌≡◌, ap}
use Rattle.std.specs.Prelude.{Result, Ok, Err}
use Rattle.refusals.specs.declared.Refusal.{Refusal}
use Rattle.refusals.specs.Refused.{Refuses}
use Rattle.declarations.specs.Steps.{GoesTo}
use Rattle.declarations.specs.declared.Progress.{Progress}

pub goes_on : (x : Progress) (r : Result Progress Refusal) → GoesTo 0 x r → r ≡ Ok x
goes_on x (Ok y) h = ap Ok h.1
goes_on x (Err e) h = absurd (omega arith)

pub goes_not : (n : ℕ) (x : Progress) (r : Result Progress Refusal) → 0 < n → GoesTo n x r → Refuses r n
goes_not n x (Ok y) l h = absurd (omega arith)
goes_not n x (Err e) l h = h.0

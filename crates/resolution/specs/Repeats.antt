-- Repeatability: steps and depth no smaller, from the same bindings and goal, repeat "proved" and "none", whatever the limits and wherever fresh numbers
-- start, unless storage refuses.
-- Here are the definitions; the theorems about them are in proofs/Repeats.
use Rattle.std.specs.Prelude.{zero, suc, ◌≡◌, true, false, ◌⊎◌}
use Rattle.resolution.specs.Search.{Result, refused, found, failed, Verdict, refusal, proved, nothing, undecided}

-- Verdicts by their kind alone
-- Proved; none; undecided; refused.
pub data Finding : Type 0 where
  shown excluded unsettled barred : Finding

-- The kind of a verdict.
abbrev pub finding : Verdict → Finding
finding (refusal n) = barred
finding (proved β st u c m) = shown
finding (nothing u c) = excluded
finding (undecided u c) = unsettled

-- The second repeats the first, or storage refuses it.
abbrev pub Repeats : Finding → Finding → Type 0
Repeats v v' = (v ≡ shown → (v' ≡ shown) ⊎ (v' ≡ barred)) × (v ≡ excluded → (v' ≡ excluded) ⊎ (v' ≡ barred))

-- What one bound settles.
abbrev pub kind : Result → Finding
kind refused = barred
kind (found β st b c m) = shown
kind (failed zero cut c) = unsettled
kind (failed (suc b) true c) = unsettled
kind (failed (suc b) false c) = excluded

-- Steps left only fall, and what was cut off stays so. A search that did not exhaust its steps comes to the same with more of them.
-- Here are the definitions; the theorems about them are in proofs/Steps.
use Rattle.std.specs.Prelude.{ℕ, ◌+◌, ◌≤◌, ◌<◌, ◌≡◌, Bool, false, List}
use Rattle.terms.specs.Term.{many}
use Rattle.terms.specs.Bindings.{Bindings}
use Rattle.resolution.specs.Rules.{Tree}
use Rattle.resolution.specs.Search.{Work, Result, refused, found, failed, Search}

-- At most b steps are left, and a result that says nothing was cut off had nothing cut off before.
abbrev pub Falls : ℕ → Bool → Result → Type 0
Falls b cut refused = Unit {0}
Falls b cut (found β st b' c m) = b' < b
Falls b cut (failed b' cut' c) = (b' ≤ b) × (cut' ≡ false → cut ≡ false)

-- Of all that a search comes to.
abbrev pub FallsSearch : Search → Type 0
FallsSearch rec = (b c m : ℕ) (β : Bindings) (w : List Work) (st : Tree many) → Falls b false (rec b c m β w st)

-- A result that did not exhaust its steps, and the same with k more steps left.
abbrev pub StepsLeft : Result → Type 0
StepsLeft refused = ⊥
StepsLeft (found β st b c m) = Unit {0}
StepsLeft (failed b cut c) = 0 < b

-- With k more steps left.
abbrev pub add_steps : ℕ → Result → Result
add_steps k refused = refused
add_steps k (found β st b c m) = found β st (b + k) c m
add_steps k (failed b cut c) = failed (b + k) cut c

-- The second search, with k more steps, comes to the same.
abbrev pub MoreSteps : ℕ → Search → Search → Type 0
MoreSteps k rec rec' = (b b' c m : ℕ) (β : Bindings) (w : List Work) (st : Tree many) → b' ≡ b + k → StepsLeft (rec b c m β w st) → rec' b' c m β w st ≡ add_steps k (rec b c m β w st)

-- Each variable before the loop's is bound to the next one, and the other rows are as before.
use Rattle.std.proofs.Common.{◌≡◌, ℕ, ◌+◌, ◌<◌, ◌≤◌, [], ◌∷◌, get_or}
use Rattle.samples.proofs.rows.bind_chain.Given as goal

abbrev pub invariant-loop-i : goal.invariant-loop-i
invariant-loop-i l = record {
  linked : (v : ℕ) → v < l.i → get_or l.rows v [] ≡ (v + 2) ∷ v ∷ [];
  kept : (v : ℕ) → l.i ≤ v → get_or l.rows v [] ≡ get_or l.fn.rows v [];
}

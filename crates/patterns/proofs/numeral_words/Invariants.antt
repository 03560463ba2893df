-- `numeral_words` meets its contract. The loop's invariant: k times `succ` on `zero` are laid.
use mathlib.Core.Path.{◌≡◌}
use mathlib.Core.List.{List, [], ◌∷◌}
use Prim.Native.Nat.{ℕ, ◌+◌, ◌*◌}
use lib.ListN.{length, set}
use Rattle.patterns.specs.Laying.{lay, laid}
use Rattle.patterns.specs.Promises.{tower}
use Rattle.patterns.proofs.numeral_words.Given as goal

abbrev pub invariant-loop-k : goal.invariant-loop-k
invariant-loop-k l = (length l.words ≡ length l.initial.words) × ((v : List ℕ) → l.initial.words ≡ set v l.used (1048576 + 32 * l.zero) → lay (tower l.succ l.zero l.k) v l.used ≡ laid (l.r ∷ []) l.words (l.used + 1 + 2 * l.k))

-- The storage is as it was.
use Rattle.std.proofs.Common.{◌≡◌}
use Rattle.signature_tests.proofs.damage.test_words.Given as goal

abbrev pub invariant-loop-i : goal.invariant-loop-i
invariant-loop-i l = l.loaded ≡ l.initial.loaded

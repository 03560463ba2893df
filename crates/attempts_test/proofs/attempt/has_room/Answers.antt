-- `has_room` meets its contract: each test is one part of it.
use native.Mathlib.Omega.{arith}
use Rattle.attempts_test.proofs.attempt.has_room.Goals as goal

pub returns : goal.returns
returns c =
    λ e. record {
      scratch = c.is_scratch_zero.ensures.yes e;
      lent_words = omega arith;
      lent_rows = omega arith;
      enough = omega arith;
      low = omega arith;
    }

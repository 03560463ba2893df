-- Random sessions with the answers of the Rust's `Prover`, computed with the definitions.
-- The definitions that it speaks of are in specs/Recorded.
use Rattle.std.specs.Prelude.{◌≡◌, refl}
use Rattle.terms.specs.Numbers.{same, less}
use Rattle.terms.specs.Term.{mem}
use Rattle.resolution.specs.Search.{attempt}
use Rattle.resolution.specs.Cases.{compile_by, passing}
use Rattle.resolution.specs.Recorded.{cases}

-- All of them come out.
pub all_pass : passing cases ≡ 40
unfolding same less mem attempt compile_by cases
all_pass = refl

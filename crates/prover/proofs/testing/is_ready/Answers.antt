-- `is_ready` meets its contract: what fails a test is not ready, and what passes all is.
use native.Mathlib.Omega.{arith}
use Rattle.prover.specs.TestingLaws.{no_term, session_told}
use Rattle.prover.proofs.testing.is_ready.Goals as goal

pub returns-then-is_none : goal.returns-then-is_none
returns-then-is_none c = no_term c.check_term.ensures c.is_none.ensures c.if-is_none.true

pub returns : goal.returns
returns c =
    session_told c.capped-capped.ensures (omega (arith, c.if-proof-capped.false)) c.check_signature.ensures c.if-not-check_signature.false-raw c.check_term.ensures c.is_none.ensures
    c.if-is_none.false c.check_session.ensures

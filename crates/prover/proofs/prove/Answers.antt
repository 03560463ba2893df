-- `prove` meets its contract: what is not ready gets 1 and nothing is written; else the listed entry point answers.
use mathlib.Core.Bool.{not}
use mathlib.Core.Path.{ap}
use Rattle.prover.specs.TestingLaws.{prove_unready, listed_ready, prove_ready}
use Rattle.prover.proofs.prove.Goals as goal

pub returns-then-not-is_ready-clause-proving : goal.returns-then-not-is_ready-clause-proving
returns-then-not-is_ready-clause-proving c =
    prove_unready c.args.query.steps c.args.query.depth c.is_ready.ensures (ap not c.if-not-is_ready.true)

pub prove_listed-requires : goal.prove_listed-requires
prove_listed-requires c =
    listed_ready c.args.query.steps c.args.query.depth c.is_ready.ensures (ap not c.if-not-is_ready.false)

pub returns-clause-proving : goal.returns-clause-proving
returns-clause-proving c =
    prove_ready c.args.query.steps c.args.query.depth c.is_ready.ensures (ap not c.if-not-is_ready.false) c.prove_listed.ensures.left

-- `prove_listed` meets its contract: what lies past the counts does not matter to the session, and is cleared.
use Rattle.prover.specs.ProvingLaws.{listed_cleared, listed_left}
use Rattle.prover.proofs.prove_listed.Goals as goal

pub prove_cleared-requires : goal.prove_cleared-requires
prove_cleared-requires c = listed_cleared c.args.query c.clear_past.ensures.cleared c.requires

pub returns-clause-left : goal.returns-clause-left
returns-clause-left c = listed_left c.args.query c.clear_past.ensures.cleared c.prove_cleared.ensures.left

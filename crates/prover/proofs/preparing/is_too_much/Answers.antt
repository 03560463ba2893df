-- `is_too_much` meets its contract: steps first, then the depth.
use Rattle.std.proofs.Common.{◌∙◌}
use Rattle.terms.specs.Numbers.{less, less_yes}
use Rattle.prover.specs.PreparingLaws.{much_steps, much_depth}
use Rattle.prover.proofs.preparing.is_too_much.Goals as goal

pub returns-then-capped-query : goal.returns-then-capped-query
unfolding less
returns-then-capped-query c =
    less_yes c.if-capped-query.true ∙ much_steps c.args.query.limits c.capped.ensures c.args.query.steps c.args.query.depth c.if-capped-query.true

pub returns-else-capped-query : goal.returns-else-capped-query
returns-else-capped-query c = much_depth c.args.query.limits c.capped.ensures c.args.query.steps c.args.query.depth c.if-capped-query.false

-- `exceeds` meets its contract: each answer is the theory's test.
use Rattle.std.proofs.Common.{◌∙◌}
use Rattle.terms.specs.Numbers.{less, less_yes}
use Rattle.attempts.specs.Heads.{over_variables, over_words}
use Rattle.attempts.proofs.SearchLimits.exceeds.Goals as goal

pub returns-then-self-variables : goal.returns-then-self-variables
unfolding less
returns-then-self-variables c =
    let l = c.args.self in
    less_yes c.if-self-variables.true ∙ over_variables l.variables l.words c.args.variables c.args.words c.if-self-variables.true

pub returns-else-self-variables : goal.returns-else-self-variables
unfolding less
returns-else-self-variables c =
    let l = c.args.self in over_words l.variables l.words c.args.variables c.args.words c.if-self-variables.false

use Rattle.std.proofs.Common.{refl, sym, ◌∙◌}
use Rattle.printing.specs.Stored.{term_in}
use Rattle.printing.proofs.GoalLaws.{next_too_large, next_fits, none_too_large}
use Rattle.printing.proofs.nodes.any_too_large.Goals as goal

pub loop-row-init : goal.loop-row-init
loop-row-init c = refl

pub loop-row-preserved : goal.loop-row-preserved
loop-row-preserved c =
    c.loop-row.invariant
    ∙ next_fits (term_in c.args.printed) c.args.rows.now c.loop-row.row-index c.loop-row-test.true c.is_too_large.ensures c.if-is_too_large.false

pub returns-then-is_too_large : goal.returns-then-is_too_large
returns-then-is_too_large c =
    sym (c.loop-row.invariant
    ∙ next_too_large (term_in c.args.printed) c.args.rows.now c.loop-row.row-index c.loop-row-test.true c.is_too_large.ensures c.if-is_too_large.true)

pub returns : goal.returns
returns c = sym (c.loop-row.invariant ∙ none_too_large (term_in c.args.printed) c.args.rows.now c.loop-row.row-index c.loop-row-test.false)

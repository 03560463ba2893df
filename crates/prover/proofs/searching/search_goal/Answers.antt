-- `search_goal` meets its contract: one law for each answer of the depth bounds.
use Rattle.std.proofs.Common.{ap, ◌∙◌, Ok}
use Rattle.prover.specs.SearchingLaws.{left_refused, left_proved, left_nothing, left_undecided}
use Rattle.prover.proofs.searching.search_goal.Goals as goal

pub returns-in-Err-clause-left : goal.returns-in-Err-clause-left
returns-in-Err-clause-left c =
    left_refused c.args.names.now c.args.goal c.args.session c.prove.ensures.deepened _ c.in-Err.is c.clear_session.ensures.names
    c.clear_session.ensures.words

pub returns-in-Ok-Proved-clause-left : goal.returns-in-Ok-Proved-clause-left
returns-in-Ok-Proved-clause-left c =
    left_proved c.args.names.now c.args.goal c.args.session c.prove.ensures.deepened _ _ _ _ _
    (c.in-Ok-Proved.is ∙ ap Ok c.in-Ok-Proved.field-0-is)

pub returns-in-Ok-Nothing-clause-left : goal.returns-in-Ok-Nothing-clause-left
returns-in-Ok-Nothing-clause-left c =
    rw c.take_back.ensures.counts
    (left_nothing c.args.names.now c.args.goal c.args.session c.prove.ensures.deepened _ _
    (c.in-Ok-Nothing.is ∙ ap Ok c.in-Ok-Nothing.field-0-is) c.take_back.ensures.cleared)

pub returns-in-Ok-Undecided-clause-left : goal.returns-in-Ok-Undecided-clause-left
returns-in-Ok-Undecided-clause-left c =
    rw c.take_back-in-Ok-Undecided.ensures.counts
    (left_undecided c.args.names.now c.args.goal c.args.session c.prove.ensures.deepened _ _
    (c.in-Ok-Undecided.is ∙ ap Ok c.in-Ok-Undecided.field-0-is) c.take_back-in-Ok-Undecided.ensures.cleared)

-- `attempt` meets its contract: each answer of the attempt is one way on.
use native.Mathlib.Omega.{arith}
use Rattle.std.proofs.Common.{Ok, set, ap, ◌∙◌}
use Rattle.arena.specs.Rows.{Rows}
use Rattle.search_machine.specs.Ways.{framed_stepped, stepped_as, step_refused, step_missed, step_put}
use Rattle.search_machine.proofs.attempt.Goals as goal

pub returns-in-Err-clause-stepped : goal.returns-in-Err-clause-stepped
returns-in-Err-clause-stepped c =
    framed_stepped c.try_stored.ensures.frames
    (stepped_as c.at_stop.ensures (step_refused c.requires.ready c.requires.choice c.try_stored.ensures.tried _ c.in-Err.is))

pub returns-in-Ok-Missed-clause-stepped : goal.returns-in-Ok-Missed-clause-stepped
returns-in-Ok-Missed-clause-stepped c =
    framed_stepped c.try_stored.ensures.frames
    (stepped_as c.at_rule.ensures (step_missed c.requires.ready c.requires.choice c.try_stored.ensures.tried _ (c.in-Ok-Missed.is ∙ ap Ok c.in-Ok-Missed.field-0-is)))

pub returns-in-Ok-Entered-clause-stepped : goal.returns-in-Ok-Entered-clause-stepped
returns-in-Ok-Entered-clause-stepped c =
    let e = c.max-high.ensures in
    step_put c.requires.ready c.requires.choice c.try_stored.ensures.tried _ _ (c.in-Ok-Entered.is ∙ ap Ok c.in-Ok-Entered.field-0-is) (omega arith) (omega arith)
    c.frame.ensures (ap (λ (F : Rows). set F c.args.m.frames c.into-row.result) c.try_stored.ensures.frames
    ∙ ap (set c.args.store.now.frames.now c.args.m.frames) c.into-row.ensures) c.at_body.ensures

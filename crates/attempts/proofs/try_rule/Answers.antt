-- `try_rule` meets its contract: each way out of the attempt with the conclusion, and of the copying of the premises, is one way of the theory's attempt.
use mathlib.Core.Path.{ap, ◌∙◌}
use Rattle.std.specs.Prelude.{Ok}
use Rattle.refusals.specs.Refused.{handed_on}
use Rattle.attempts.specs.Outcomes.{head_asked, small_counts, refused_way, missed_way, body_asked, exceeded_way, entered_way}
use native.Mathlib.Omega.{arith}
use Rattle.attempts.proofs.try_rule.Goals as goal

pub overflow_add-met : goal.overflow_add-met
overflow_add-met c = let s = small_counts c.requires in omega arith

pub try_head-requires : goal.try_head-requires
try_head-requires c = head_asked c.requires

pub returns-in_err-unified-clause-tried : goal.returns-in_err-unified-clause-tried
returns-in_err-unified-clause-tried c =
    rw (handed_on c.from_residual.result c.from_residual.ensures.1) (refused_way c.requires c.try_head.ensures.tried _ c.in_err-unified.was)

pub returns-in_err-try_body-in-Some-clause-tried : goal.returns-in_err-try_body-in-Some-clause-tried
returns-in_err-try_body-in-Some-clause-tried c =
    rw (handed_on c.from_residual-in_err-try_body-in-Some.result c.from_residual-in_err-try_body-in-Some.ensures.1)
    (exceeded_way c.requires c.try_head.ensures.tried _ (c.in_ok-unified.was ∙ ap Ok c.in-Some.is) c.try_head.auto.bindings c.try_body.ensures _ c.in_err-try_body-in-Some.was)

pub returns-in-None-clause-tried : goal.returns-in-None-clause-tried
returns-in-None-clause-tried c = missed_way c.requires c.try_head.ensures.tried (c.in_ok-unified.was ∙ ap Ok c.in-None.is)

pub try_body-requires : goal.try_body-requires
try_body-requires c = body_asked c.requires c.try_head.ensures.tried _ (c.in_ok-unified.was ∙ ap Ok c.in-Some.is) c.try_head.auto.bindings

pub returns-in_ok-try_body-in-Some-clause-tried : goal.returns-in_ok-try_body-in-Some-clause-tried
returns-in_ok-try_body-in-Some-clause-tried c =
    entered_way c.requires c.try_head.ensures.tried _ (c.in_ok-unified.was ∙ ap Ok c.in-Some.is) c.try_head.auto.bindings c.try_body.ensures c.in_ok-try_body-in-Some.was

-- `prove_cleared` meets its contract: 38 first, then what the goal's preparation refuses, then what the search leaves.
use mathlib.Core.Path.{sym, ◌∙◌}
use Rattle.refusals.specs.Refused.{handed_on}
use Rattle.names.specs.UsedLaws.{used_length}
use Rattle.prover.specs.ProvingLaws.{at_answer, rules_there, prepared_refused, search_asked, search_left}
use Rattle.prover.specs.UsedLaws.{allowed_used, asked_used, left_used}
use Rattle.prover.proofs.prove_cleared.Goals as goal

pub search_goal-requires : goal.search_goal-requires
search_goal-requires c =
    let lent = rules_there c.requires in
    rw c.rules_in_use.ensures
    (asked_used _ _ _ (used_length _ _ lent) lent
    (search_asked c.requires (sym c.is_too_much.ensures ∙ c.if-is_too_much.false) _
    (at_answer c.prepare.ensures c.in_ok-goal.was) (allowed_used _ _ lent _ c.search_limits.ensures c.capped.ensures)))

pub returns-in_err-goal-clause-left : goal.returns-in_err-goal-clause-left
returns-in_err-goal-clause-left c =
    rw (handed_on c.from_residual.result c.from_residual.ensures.1)
    (prepared_refused c.requires (sym c.is_too_much.ensures ∙ c.if-is_too_much.false)
    (at_answer c.prepare.ensures c.in_err-goal.was))

pub returns-clause-left : goal.returns-clause-left
returns-clause-left c =
    let lent = rules_there c.requires in
    search_left c.requires (sym c.is_too_much.ensures ∙ c.if-is_too_much.false) _
    (at_answer c.prepare.ensures c.in_ok-goal.was) (allowed_used _ _ lent _ c.search_limits.ensures c.capped.ensures)
    (left_used _ _ _ (used_length _ _ lent) lent (rw c.rules_in_use.ensures at c.search_goal.ensures.left))

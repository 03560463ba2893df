-- `attempt` is safe: the rule is in form, and the test before the call is what `try_rule` asks.
use Rattle.attempts_test.proofs.Laws.{state_kept}
use Rattle.attempts_test.proofs.Rule.{stored_rule}
use Rattle.attempts_test.proofs.attempt.attempt.Goals as goal

pub try_rule-tried-requires : goal.try_rule-tried-requires
try_rule-tried-requires c =
    let told = c.is_state.ensures.told in
    let yes = c.if-not-is_state.false in
    rw (c.is_state.ensures.links, c.is_state.ensures.stack)
    (record { rule = stored_rule; state = state_kept told.kept (told.state yes); refers = told.refers yes })

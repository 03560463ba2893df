-- `compile` meets its contract: one law for each way out.
use Rattle.std.proofs.Common.{sym, ◌∙◌, arith}
use Rattle.refusals.specs.Refused.{handed_on}
use Rattle.rules.specs.KnownLaws.{known_rows}
use Rattle.goals.specs.CompilingLaws.{copied, goal_failed, goal_unknown, goal_done}
use Rattle.goals.proofs.compile.Goals as goal

pub returns-in_err-compiled-clause-goal_made : goal.returns-in_err-compiled-clause-goal_made
returns-in_err-compiled-clause-goal_made c =
    rw (handed_on c.from_residual.result c.from_residual.ensures.1)
    (goal_failed c.args.names.now (copied _ c.args.names.now _ (omega (arith, c.put_parts.auto.parts, c.requires.variables, c.requires.entered)) c.put_parts.ensures) c.pattern.ensures _ c.in_err-compiled.was)

pub returns-then-not-all_known-clause-goal_made : goal.returns-then-not-all_known-clause-goal_made
returns-then-not-all_known-clause-goal_made c =
    goal_unknown c.args.names.now (copied _ c.args.names.now _ (omega (arith, c.put_parts.auto.parts, c.requires.variables, c.requires.entered)) c.put_parts.ensures) c.pattern.ensures c.in_ok-compiled.was
    (sym (known_rows c.args.source.text.now _ _) ∙ sym c.all_known.ensures ∙ c.if-not-all_known.true)

pub returns-clause-goal_made : goal.returns-clause-goal_made
returns-clause-goal_made c =
    goal_done c.args.names.now (copied _ c.args.names.now _ (omega (arith, c.put_parts.auto.parts, c.requires.variables, c.requires.entered)) c.put_parts.ensures) c.pattern.ensures c.in_ok-compiled.was
    (sym (known_rows c.args.source.text.now _ _) ∙ sym c.all_known.ensures ∙ c.if-not-all_known.false)

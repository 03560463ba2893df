-- `prepare` meets its contract: one law for each way out.
use native.Mathlib.Omega.{arith}
use native.Mathlib.Nat.{le_refl}
use mathlib.Core.Path.{sym, ◌∙◌}
use Rattle.refusals.specs.Refused.{handed_on}
use Rattle.prover.specs.PreparingLaws.{over_told, prepare_refused, prepare_over, store_asked, prepare_stored}
use Rattle.prover.proofs.preparing.prepare.Goals as goal

pub returns-then-exceeds : goal.returns-then-exceeds
returns-then-exceeds c =
    let compile = c.compile in
    let lent = compile.auto.variables in
    let made = rw c.symbols_in_use.ensures at compile.ensures.goal_made in
    prepare_over c.requires (omega (arith, lent)) (le_refl 2048) compile.ensures.bounds made _ c.in_ok-goal.was
    (sym (over_told c.args.query.limits _ _ c.search_limits.ensures c.exceeds.ensures) ∙ c.if-exceeds.true)

pub store-node-requires : goal.store-node-requires
store-node-requires c =
    let compile = c.compile in
    let lent = compile.auto.variables in
    let made = rw c.symbols_in_use.ensures at compile.ensures.goal_made in
    store_asked c.requires (omega (arith, lent)) (le_refl 2048) compile.ensures.bounds made _ c.in_ok-goal.was
    (sym (over_told c.args.query.limits _ _ c.search_limits.ensures c.exceeds.ensures) ∙ c.if-exceeds.false)

pub returns-in_err-goal : goal.returns-in_err-goal
returns-in_err-goal c =
    let compile = c.compile in
    let lent = compile.auto.variables in
    let made = rw c.symbols_in_use.ensures at compile.ensures.goal_made in
    rw (handed_on c.from_residual.result c.from_residual.ensures.1)
    (prepare_refused c.requires (omega (arith, lent)) (le_refl 2048) compile.ensures.bounds made _
    c.in_err-goal.was)

pub returns : goal.returns
returns c =
    let compile = c.compile in
    let lent = compile.auto.variables in
    let made = rw c.symbols_in_use.ensures at compile.ensures.goal_made in
    prepare_stored c.requires (omega (arith, lent)) (le_refl 2048) compile.ensures.bounds made _ c.in_ok-goal.was
    (sym (over_told c.args.query.limits _ _ c.search_limits.ensures c.exceeds.ensures) ∙ c.if-exceeds.false)
    c.store-node.ensures

-- `next_candidate` meets its contract: each rule before the one chosen is passed over as its attempt would be.
-- The loop keeps that the meaning stays with the rule and the counter that it has come to.
use native.Mathlib.Omega.{arith}
use mathlib.Core.Path.{sym, ap, ◌∙◌}
use Rattle.search_machine.specs.Moves.{to_fail, to_stop}
use Rattle.search_machine.specs.ChoosingLaws.{passing_small}
use Rattle.search_machine.specs.ChoosingLaws.{passing_next, passing_over, passing_found, passing_end, chosen_as}
use Rattle.search_machine.specs.declared.Machine.{Machine}
use Rattle.search_machine.specs.declared.Mode.TheVariants.{Refused}
use Rattle.search_machine.proofs.candidates.next_candidate.Goals as goal

pub returns-then-is_candidate : goal.returns-then-is_candidate
returns-then-is_candidate c =
    chosen_as c.at_rule.ensures (passing_found c.requires c.loop-rule.invariant c.max-top.result c.loop-rule-test.true
    (let e = c.max-top.ensures in omega arith) (let e = c.max-top.ensures in omega arith))

pub overflow_add-met : goal.overflow_add-met
overflow_add-met c = let l = (passing_small c.requires c.loop-rule.invariant c.loop-rule-test.true).2 in omega arith

pub returns-then-exceeds : goal.returns-then-exceeds
returns-then-exceeds c =
    chosen_as (c.at_stop.ensures ∙ ap (λ (n : Machine). to_stop n Refused c.args.m.steps) c.at_rule-then-exceeds.ensures)
    (passing_over c.requires c.loop-rule.invariant c.loop-rule-test.true (sym c.exceeds.ensures ∙ c.if-exceeds.true))

pub loop-rule-preserved : goal.loop-rule-preserved
loop-rule-preserved c =
    let t = c.terms-terms.ensures in
    let b = c.bindings-held.ensures in
    let clash = c.is_candidate.ensures c.if-is_candidate.false in
    passing_next c.requires c.loop-rule.invariant c.loop-rule-test.true (rw (t.0, b.0, b.1, c.in_use-in_use.ensures) at clash)
    (sym c.exceeds.ensures ∙ c.if-exceeds.false)

pub returns : goal.returns
returns c =
    chosen_as (c.at_fail.ensures ∙ ap (λ (n : Machine). to_fail n c.args.m.steps c.args.m.cut) c.at_rule-2.ensures)
    (passing_end c.requires c.loop-rule.invariant c.loop-rule-test.false)

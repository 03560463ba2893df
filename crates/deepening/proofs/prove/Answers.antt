-- `prove` meets its contract: bound by bound, each from the session at entry; each way out is the theory's.
-- The loop keeps that every buffer is as at entry, and what the bounds from here on come to.
use Rattle.std.proofs.Common.{arith, ap, sym, ◌∙◌, Ok}
use Rattle.std.proofs.lemmas.Result.{err_from_is_err_and}
use Rattle.search_machine.specs.Groups.{lent_start, lent_on}
use Rattle.deepening.specs.Deepening.{deepening_start, deepening_over, deepening_refused}
use Rattle.deepening.specs.Deepening.{found_left, deepening_proved, failed_left, deepening_nothing, deepening_on}
use Rattle.deepening.proofs.prove.Goals as goal

pub loop-depth-init : goal.loop-depth-init
loop-depth-init c = record { deepening = deepening_start c.args.largest c.requires.asking; lent = lent_start }

pub returns-in_err-came-clause-deepened : goal.returns-in_err-came-clause-deepened
returns-in_err-came-clause-deepened c =
    let p = err_from_is_err_and c.from_residual.result c.from_residual.ensures.1 in
    rw (p.1, p.2)
    (deepening_refused c.loop-depth.invariant.deepening c.loop-depth-test.true c.at_bound.ensures.bounded _ c.in_err-came.was)

pub overflow_sub-result : goal.overflow_sub-result
overflow_sub-result c =
    let l = found_left c.loop-depth.invariant.deepening c.loop-depth-test.true c.at_bound.ensures.bounded _ _ _ _ _
    (c.in_ok-came.was ∙ ap Ok c.in-Found.is) in omega arith

pub returns-in-Found-clause-deepened : goal.returns-in-Found-clause-deepened
returns-in-Found-clause-deepened c =
    deepening_proved c.loop-depth.invariant.deepening c.loop-depth-test.true c.at_bound.ensures.bounded _ _ _ _ _
    (c.in_ok-came.was ∙ ap Ok c.in-Found.is)

pub overflow_sub-taken : goal.overflow_sub-taken
overflow_sub-taken c =
    let l = failed_left c.loop-depth.invariant.deepening c.loop-depth-test.true c.at_bound.ensures.bounded _ _ _
    (c.in_ok-came.was ∙ ap Ok c.in-Failed.is) in omega arith

pub returns-then-is_settled-clause-deepened : goal.returns-then-is_settled-clause-deepened
returns-then-is_settled-clause-deepened c =
    deepening_nothing c.loop-depth.invariant.deepening c.loop-depth-test.true c.at_bound.ensures.bounded _ _ _
    (c.in_ok-came.was ∙ ap Ok c.in-Failed.is) (sym c.is_settled.ensures ∙ c.if-is_settled.true)

pub loop-depth-preserved : goal.loop-depth-preserved
loop-depth-preserved c = record {
  deepening = deepening_on c.loop-depth.invariant.deepening c.loop-depth-test.true c.at_bound.ensures.bounded _ _ _
      (c.in_ok-came.was ∙ ap Ok c.in-Failed.is) (sym c.is_settled.ensures ∙ c.if-is_settled.false);
  lent = lent_on c.loop-depth.invariant.lent c.at_bound.ensures.lent;
}

pub returns-clause-deepened : goal.returns-clause-deepened
returns-clause-deepened c = deepening_over c.loop-depth.invariant.deepening (omega arith)

-- `tower` meets its contract.
use mathlib.Core.Path.{refl, ◌∙◌}
use Rattle.refusals.specs.Refused.{handed_on}
use Rattle.expressions.proofs.Towers.{first_refused, turn_start, tower_refused, tower_done, wrong_sort, next_refused, turn_next}
use Rattle.expressions.proofs.numerals.tower.Goals as goal

pub returns-in_err-built : goal.returns-in_err-built
returns-in_err-built c =
    rw (handed_on c.from_residual.result c.from_residual.ensures.1) (first_refused c.args.numerals.inside.1 c.args.numerals.inside.0 c.requires refl c.build.ensures c.in_err-built.was)

pub loop-k-init : goal.loop-k-init
loop-k-init c = turn_start c.args.numerals.inside.1 c.args.numerals.inside.0 c.requires refl c.build.ensures c.in_ok-built.was refl refl

pub returns-then-sort-want : goal.returns-then-sort-want
returns-then-sort-want c =
    tower_refused c.args.numerals.inside.1 c.args.numerals.inside.0 c.requires refl c.build.ensures c.in_ok-built.was (wrong_sort c.loop-k.invariant c.loop-k-test.true c.if-sort-want.true) c.loop-k-test.true
    c.loop-k.invariant.kept

pub returns-in_err-built-2 : goal.returns-in_err-built-2
returns-in_err-built-2 c =
    rw (handed_on c.from_residual-in_err-built-2.result c.from_residual-in_err-built-2.ensures.1)
    (tower_refused c.args.numerals.inside.1 c.args.numerals.inside.0 c.requires refl c.build.ensures c.in_ok-built.was
    (next_refused c.loop-k.invariant c.loop-k-test.true c.if-sort-want.false c.build-in-loop-k.ensures c.in_err-built-2.was) c.loop-k-test.true
    (c.build-in-loop-k.ensures.kept ∙ c.loop-k.invariant.kept))

pub loop-k-preserved : goal.loop-k-preserved
loop-k-preserved c = turn_next c.loop-k.invariant c.loop-k-test.true c.if-sort-want.false c.build-in-loop-k.ensures c.in_ok-built-2.was refl

pub returns : goal.returns
returns c = tower_done c.args.numerals.inside.1 c.args.numerals.inside.0 c.requires refl c.build.ensures c.in_ok-built.was c.loop-k.invariant c.loop-k-test.false

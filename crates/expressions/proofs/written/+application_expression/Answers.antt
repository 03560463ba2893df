-- `expression` and `application` meet their contracts. What falls is 130 less the depth. The loop's invariant of `application`: the values so far, in front of what the
-- arguments that are left come to, are what all of them come to, and the rows list the trees of those so far.
use native.Mathlib.Omega.{arith}
use mathlib.Core.Path.{refl, sym, ◌∙◌}
use Rattle.forward_calls.proofs.Forwarding.{some_symbol, no_symbol}
use Rattle.function_calls.proofs.Lending.{lent_start, lent_on}
use mathlib.Core.List.{[]}
use Rattle.refusals.specs.Refused.{handed_on, none_is}
use Rattle.expressions.proofs.Misuses.{found_wrong, found_nothing}
use Rattle.expressions.proofs.Reading.{inside, too_deep, number_refused, number_built, of_meta, of_unknown, of_misuse, application_asked, applied_to}
use Rattle.names.specs.Symbols.{row_at}
use Rattle.patterns.proofs.Terms.{part_long, part_at}
use Rattle.expressions.proofs.Walking.{few, inside_part, turn_start, expression_asked, argument_refused, value_inside, wrong_sort, turn_next, apply_refused, apply_done}
use Rattle.expressions.proofs.written.+application_expression.Goals as goal

pub application-loop-k-init : goal.application-loop-k-init
application-loop-k-init t c = record { turn = turn_start c.requires refl; lent = lent_start }

pub application-expression-requires : goal.application-expression-requires
application-expression-requires t c = (
  let d = c.requires.deep in omega arith,
  rw c.from_row-term.ensures (expression_asked c.loop-k.invariant.turn (inside_part (row_at c.args.program.symbols.now c.args.i) c.args.arguments c.loop-k-test.true)),
)

pub application-returns-in_err-argument-clause-answered : goal.application-returns-in_err-argument-clause-answered
application-returns-in_err-argument-clause-answered t c =
    rw (handed_on c.from_residual.result c.from_residual.ensures.1)
    (argument_refused c.loop-k.invariant.turn (inside_part (row_at c.args.program.symbols.now c.args.i) c.args.arguments c.loop-k-test.true) (rw c.from_row-term.ensures at c.expression.ensures.answered) c.in_err-argument.was)

pub application-bounds-store-value : goal.application-bounds-store-value
application-bounds-store-value t c =
    let (a, b, d) = value_inside c.loop-k.invariant.turn (inside_part (row_at c.args.program.symbols.now c.args.i) c.args.arguments c.loop-k-test.true) (rw c.from_row-term.ensures at c.expression.ensures.answered) c.in_ok-argument.was in omega arith

pub application-returns-then-sort_of-sort-clause-answered : goal.application-returns-then-sort_of-sort-clause-answered
application-returns-then-sort_of-sort-clause-answered t c =
    let m = inside_part (row_at c.args.program.symbols.now c.args.i) c.args.arguments c.loop-k-test.true in
    wrong_sort c.loop-k.invariant.turn m (rw c.from_row-term.ensures at c.expression.ensures.answered) c.in_ok-argument.was c.sort_of.ensures
    (λ e. c.if-sort_of-sort.true (e ∙ sym (part_at (row_at c.args.program.symbols.now c.args.i) c.args.arguments c.loop-k.k m)))

pub application-loop-k-preserved : goal.application-loop-k-preserved
application-loop-k-preserved t c =
    let m = inside_part (row_at c.args.program.symbols.now c.args.i) c.args.arguments c.loop-k-test.true in
    record {
      turn = turn_next c.loop-k.invariant.turn m (rw c.from_row-term.ensures at c.expression.ensures.answered) c.in_ok-argument.was c.sort_of.ensures
          (c.if-sort_of-sort.false ∙ part_at (row_at c.args.program.symbols.now c.args.i) c.args.arguments c.loop-k.k m)
          c.expression.ensures.lent.trees_kept c.expression.ensures.lent.stack_kept;
      lent = lent_on c.loop-k.invariant.lent c.expression.ensures.lent;
    }

pub application-returns-in_err-outcome-clause-answered : goal.application-returns-in_err-outcome-clause-answered
application-returns-in_err-outcome-clause-answered t c =
    let f = few c.loop-k.invariant.turn in
    let l = part_long (row_at c.args.program.symbols.now c.args.i) c.args.arguments (omega arith) in
    rw (handed_on c.from_residual-in_err-outcome.result c.from_residual-in_err-outcome.ensures.1)
    (apply_refused c.loop-k.invariant.turn (omega (arith, c.loop-k-test.false)) c.apply.ensures.answered c.in_err-outcome.was)

pub application-returns-clause-answered : goal.application-returns-clause-answered
application-returns-clause-answered t c =
    let f = few c.loop-k.invariant.turn in
    let l = part_long (row_at c.args.program.symbols.now c.args.i) c.args.arguments (omega arith) in
    apply_done c.loop-k.invariant.turn (omega (arith, c.loop-k-test.false)) c.apply.ensures.answered c.in_ok-outcome.was

pub expression-returns-then-depth-gt-MAX_DEPTH-clause-answered : goal.expression-returns-then-depth-gt-MAX_DEPTH-clause-answered
expression-returns-then-depth-gt-MAX_DEPTH-clause-answered t c = too_deep c.requires c.if-depth-gt-MAX_DEPTH.true

pub expression-offset_bounds-term-term : goal.expression-offset_bounds-term-term
expression-offset_bounds-term-term t c = let i = inside c.requires in omega arith

pub expression-bounds-term-term : goal.expression-bounds-term-term
expression-bounds-term-term t c = inside c.requires

pub expression-returns-in_err-built-in-14-clause-answered : goal.expression-returns-in_err-built-in-14-clause-answered
expression-returns-in_err-built-in-14-clause-answered t c =
    rw (handed_on c.from_residual.result c.from_residual.ensures.1)
    (number_refused c.requires c.if-depth-gt-MAX_DEPTH.false c.in-14.is (rw c.room.ensures at c.numeral.ensures) c.in_err-built-in-14.was)

pub expression-returns-in_ok-built-in-14-clause-answered : goal.expression-returns-in_ok-built-in-14-clause-answered
expression-returns-in_ok-built-in-14-clause-answered t c =
    rw c.of_built.ensures (number_built c.requires c.if-depth-gt-MAX_DEPTH.false c.in-14.is (rw c.room.ensures at c.numeral.ensures) c.in_ok-built-in-14.was)

pub expression-returns-in-13-clause-answered : goal.expression-returns-in-13-clause-answered
expression-returns-in-13-clause-answered t c = of_meta c.requires c.if-depth-gt-MAX_DEPTH.false c.in-13.is

pub expression-returns-in_err-i-in_default-clause-answered : goal.expression-returns-in_err-i-in_default-clause-answered
expression-returns-in_err-i-in_default-clause-answered t c =
    rw (handed_on c.from_residual-in_err-i-in_default.result c.from_residual-in_err-i-in_default.ensures.1, none_is c.find_at.result c.in_err-i-in_default.ensures.ok_part c.in_err-i-in_default.ensures.value)
    (of_unknown c.requires c.if-depth-gt-MAX_DEPTH.false (λ e. omega (arith, c.in_default)) (λ e. omega (arith, c.in_default)) refl (no_symbol c.args.term.text.now c.args.program.symbols.now _ c.in_err-i-in_default.ensures.ok_part (rw c.behind_kind-word.ensures at c.find_at.ensures)))

pub expression-returns-in_err-check_use-in_default-clause-answered : goal.expression-returns-in_err-check_use-in_default-clause-answered
expression-returns-in_err-check_use-in_default-clause-answered t c =
    rw (handed_on c.from_residual-in_err-check_use-in_default.result c.from_residual-in_err-check_use-in_default.ensures.1)
    (of_misuse c.requires c.if-depth-gt-MAX_DEPTH.false (λ e. omega (arith, c.in_default)) (λ e. omega (arith, c.in_default)) (some_symbol c.args.term.text.now c.args.program.symbols.now _ _ c.in_ok-i-in_default.ensures.ok_part (rw c.behind_kind-word.ensures at c.find_at.ensures)).0 (some_symbol c.args.term.text.now c.args.program.symbols.now _ _ c.in_ok-i-in_default.ensures.ok_part (rw c.behind_kind-word.ensures at c.find_at.ensures)).1 refl
    (λ x. (found_wrong (c.check_use.ensures x) c.in_err-check_use-in_default.was).0) refl
    (λ z. let w = found_wrong (c.check_use.ensures []) c.in_err-check_use-in_default.was in omega arith))

pub expression-application-requires : goal.expression-application-requires
expression-application-requires t c = (
  let d = c.if-depth-gt-MAX_DEPTH.false in omega arith,
  rw c.from_row-first.ensures (application_asked c.requires c.if-depth-gt-MAX_DEPTH.false (λ e. omega (arith, c.in_default)) (λ e. omega (arith, c.in_default)) (some_symbol c.args.term.text.now c.args.program.symbols.now _ _ c.in_ok-i-in_default.ensures.ok_part (rw c.behind_kind-word.ensures at c.find_at.ensures)).0 (some_symbol c.args.term.text.now c.args.program.symbols.now _ _ c.in_ok-i-in_default.ensures.ok_part (rw c.behind_kind-word.ensures at c.find_at.ensures)).1 refl
      (λ x. sym (found_nothing (c.check_use.ensures x) c.in_ok-check_use-in_default.was)) refl),
)

pub expression-returns-in_ok-check_use-in_default-clause-answered : goal.expression-returns-in_ok-check_use-in_default-clause-answered
expression-returns-in_ok-check_use-in_default-clause-answered t c =
    applied_to c.requires c.if-depth-gt-MAX_DEPTH.false (λ e. omega (arith, c.in_default)) (λ e. omega (arith, c.in_default)) (some_symbol c.args.term.text.now c.args.program.symbols.now _ _ c.in_ok-i-in_default.ensures.ok_part (rw c.behind_kind-word.ensures at c.find_at.ensures)).0 (some_symbol c.args.term.text.now c.args.program.symbols.now _ _ c.in_ok-i-in_default.ensures.ok_part (rw c.behind_kind-word.ensures at c.find_at.ensures)).1 refl
    (λ x. sym (found_nothing (c.check_use.ensures x) c.in_ok-check_use-in_default.was)) refl (rw c.from_row-first.ensures at c.application.ensures.answered)

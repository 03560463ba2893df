-- `call`, `follow` and `premise` meet their contracts. What falls is 130 less the depth. The loop's invariant of `follow`: the premises that are left, from the values that
-- the environment holds, come to all of them.
use native.Mathlib.Omega.{arith}
use mathlib.Core.Path.{refl, ◌∙◌}
use Rattle.refusals.specs.Refused.{handed_on, none_is}
use Rattle.function_calls.proofs.Premising.{part_asked, part_whole, part_length, arguments_refused, call_asked, call_failed, bind_asked, result_failed, result_fitted}
use Rattle.function_calls.proofs.Following.{part_long, part_cell, turn_start, referable, no_variable_lem, premise_asked, premise_refused, turn_next, conclusion_asked, conclusion_refused, result_inside, conclusion_built}
use Rattle.function_calls.proofs.Calling.{too_deep, too_many, clause_asked, no_clause, follow_asked, followed}
use Rattle.function_calls.proofs.Lending.{lent_start, lent_on}
use Prim.Native.Nat.{◌≤◌}
use Rattle.function_calls.proofs.calls.+call_follow_premise.Goals as goal

pub call-returns-then-level-gt-MAX_DEPTH-clause-answered : goal.call-returns-then-level-gt-MAX_DEPTH-clause-answered
call-returns-then-level-gt-MAX_DEPTH-clause-answered t c = too_deep c.requires c.if-level-gt-MAX_DEPTH.true

pub call-returns-then-spent-ge-MAX_CALLS-clause-answered : goal.call-returns-then-spent-ge-MAX_CALLS-clause-answered
call-returns-then-spent-ge-MAX_CALLS-clause-answered t c = too_many c.requires c.if-level-gt-MAX_DEPTH.false c.if-spent-ge-MAX_CALLS.true

pub call-find_clause-requires : goal.call-find_clause-requires
call-find_clause-requires t c = clause_asked c.requires c.if-level-gt-MAX_DEPTH.false c.if-spent-ge-MAX_CALLS.false _ (let z : 64 ≤ 64 = omega arith in z)

pub call-returns-in_err-place-clause-answered : goal.call-returns-in_err-place-clause-answered
call-returns-in_err-place-clause-answered t c =
    rw (handed_on c.from_residual.result c.from_residual.ensures.1, none_is c.find_clause.result c.in_err-place.ensures.ok_part c.in_err-place.ensures.value)
    (no_clause c.requires c.if-level-gt-MAX_DEPTH.false c.if-spent-ge-MAX_CALLS.false c.find_clause.ensures c.in_err-place.ensures.ok_part)

pub call-follow-requires : goal.call-follow-requires
call-follow-requires t c = (
  let d = c.if-level-gt-MAX_DEPTH.false in omega arith,
  follow_asked c.requires c.if-level-gt-MAX_DEPTH.false c.if-spent-ge-MAX_CALLS.false c.find_clause.ensures _ c.in_ok-place.ensures.ok_part (let z : 64 ≤ 64 = omega arith in z) _
      c.find_clause.auto.stack,
)

pub call-returns-clause-answered : goal.call-returns-clause-answered
call-returns-clause-answered t c = followed c.requires c.if-level-gt-MAX_DEPTH.false c.if-spent-ge-MAX_CALLS.false c.find_clause.ensures _ c.in_ok-place.ensures.ok_part c.follow.ensures.answered

pub follow-loop-reference-init : goal.follow-loop-reference-init
follow-loop-reference-init t c = record { turn = turn_start c.requires; lent = lent_start }

pub follow-pattern_at-requires : goal.follow-pattern_at-requires
follow-pattern_at-requires t c =
    let l = rw (c.premises-reference-items.ensures, part_long c.loop-reference.invariant.turn) at c.loop-reference-test.true in
    rw (c.premises-reference-items.ensures, part_cell c.loop-reference.invariant.turn l) (referable c.loop-reference.invariant.turn l)

pub follow-unreachable-requires : goal.follow-unreachable-requires
follow-unreachable-requires t c =
    let l = rw (c.premises-reference-items.ensures, part_long c.loop-reference.invariant.turn) at c.loop-reference-test.true in
    let p = rw (c.premises-reference-items.ensures, part_cell c.loop-reference.invariant.turn l) at c.pattern_at.ensures in
    no_variable_lem c.loop-reference.invariant.turn l _ _ p c.in_default.is

pub follow-premise-requires : goal.follow-premise-requires
follow-premise-requires t c =
    let l = rw (c.premises-reference-items.ensures, part_long c.loop-reference.invariant.turn) at c.loop-reference-test.true in
    let p = rw (c.premises-reference-items.ensures, part_cell c.loop-reference.invariant.turn l) at c.pattern_at.ensures in
    (let d = c.loop-reference.invariant.turn.asked.deep in omega arith, premise_asked c.loop-reference.invariant.turn l _ _ _ p c.in-Node.is)

pub follow-returns-in_err-outcome-clause-answered : goal.follow-returns-in_err-outcome-clause-answered
follow-returns-in_err-outcome-clause-answered t c =
    let l = rw (c.premises-reference-items.ensures, part_long c.loop-reference.invariant.turn) at c.loop-reference-test.true in
    let p = rw (c.premises-reference-items.ensures, part_cell c.loop-reference.invariant.turn l) at c.pattern_at.ensures in
    rw (handed_on c.from_residual.result c.from_residual.ensures.1)
    (premise_refused c.loop-reference.invariant.turn l _ _ _ p c.in-Node.is c.premise.ensures.answered _ c.in_err-outcome.was)

pub follow-loop-reference-preserved : goal.follow-loop-reference-preserved
follow-loop-reference-preserved t c =
    let l = rw (c.premises-reference-items.ensures, part_long c.loop-reference.invariant.turn) at c.loop-reference-test.true in
    let p = rw (c.premises-reference-items.ensures, part_cell c.loop-reference.invariant.turn l) at c.pattern_at.ensures in
    record {
      turn = turn_next c.loop-reference.invariant.turn l _ _ _ p c.in-Node.is c.premise.ensures.answered _ _ _ c.in_ok-outcome.was _
          c.premise.ensures.lent.trees_kept c.premise.ensures.lent.stack_kept;
      lent = lent_on c.loop-reference.invariant.lent c.premise.ensures.lent;
    }

pub follow-instantiate-requires : goal.follow-instantiate-requires
follow-instantiate-requires t c =
    rw c.room.ensures (conclusion_asked c.loop-reference.invariant.turn (rw (c.premises-reference-items.ensures, part_long c.loop-reference.invariant.turn) at c.loop-reference-test.false))

pub follow-bounds-store-built : goal.follow-bounds-store-built
follow-bounds-store-built t c =
    let (x, y, z) = result_inside c.loop-reference.invariant.turn (rw (c.premises-reference-items.ensures, part_long c.loop-reference.invariant.turn) at c.loop-reference-test.false) (rw c.room.ensures at c.instantiate.ensures) _ _ c.in_ok-built.was in omega arith

pub follow-overflow_add-result : goal.follow-overflow_add-result
follow-overflow_add-result t c =
    let (x, y, z) = result_inside c.loop-reference.invariant.turn (rw (c.premises-reference-items.ensures, part_long c.loop-reference.invariant.turn) at c.loop-reference-test.false) (rw c.room.ensures at c.instantiate.ensures) _ _ c.in_ok-built.was in
    let e = c.arity_of.ensures in omega arith

pub follow-bounds-store-built-2 : goal.follow-bounds-store-built-2
follow-bounds-store-built-2 t c =
    let (x, y, z) = result_inside c.loop-reference.invariant.turn (rw (c.premises-reference-items.ensures, part_long c.loop-reference.invariant.turn) at c.loop-reference-test.false) (rw c.room.ensures at c.instantiate.ensures) _ _ c.in_ok-built.was in
    let e = c.arity_of.ensures in omega arith

pub follow-returns-in_err-built-clause-answered : goal.follow-returns-in_err-built-clause-answered
follow-returns-in_err-built-clause-answered t c =
    rw (handed_on c.from_residual-in_err-built.result c.from_residual-in_err-built.ensures.1)
    (conclusion_refused c.loop-reference.invariant.turn (rw (c.premises-reference-items.ensures, part_long c.loop-reference.invariant.turn) at c.loop-reference-test.false) (rw c.room.ensures at c.instantiate.ensures) _ c.in_err-built.was)

pub follow-returns-clause-answered : goal.follow-returns-clause-answered
follow-returns-clause-answered t c =
    rw (c.row.ensures, c.of_built.ensures, c.arity_of.ensures)
    (conclusion_built c.loop-reference.invariant.turn (rw (c.premises-reference-items.ensures, part_long c.loop-reference.invariant.turn) at c.loop-reference-test.false) (rw c.room.ensures at c.instantiate.ensures) _ _ c.in_ok-built.was)

pub premise-instantiate_arguments-requires : goal.premise-instantiate_arguments-requires
premise-instantiate_arguments-requires t c = rw (c.room.ensures, c.arity_of.ensures) (part_asked c.requires _ refl)

pub premise-returns-in_err-before-clause-answered : goal.premise-returns-in_err-before-clause-answered
premise-returns-in_err-before-clause-answered t c =
    let a = part_whole c.requires _ refl (rw c.arity_of.ensures at c.instantiate_arguments.auto.values) (rw (c.room.ensures, c.arity_of.ensures) at c.instantiate_arguments.ensures) in
    rw (handed_on c.from_residual.result c.from_residual.ensures.1)
    (arguments_refused c.requires a _ c.in_err-before.was)

pub premise-call-requires : goal.premise-call-requires
premise-call-requires t c =
    let a = part_whole c.requires _ refl (rw c.arity_of.ensures at c.instantiate_arguments.auto.values) (rw (c.room.ensures, c.arity_of.ensures) at c.instantiate_arguments.ensures) in
    let n = part_length c.requires _ _ refl (rw c.arity_of.ensures at c.instantiate_arguments.auto.values) in (
      let d = c.requires.deep in omega arith,
      rw (c.symbol_of-symbol.ensures, c.arity_of.ensures) (call_asked c.requires a _ c.in_ok-before.was n _ c.instantiate_arguments.auto.stack),
    )

pub premise-returns-in_err-outcome-clause-answered : goal.premise-returns-in_err-outcome-clause-answered
premise-returns-in_err-outcome-clause-answered t c =
    let a = part_whole c.requires _ refl (rw c.arity_of.ensures at c.instantiate_arguments.auto.values) (rw (c.room.ensures, c.arity_of.ensures) at c.instantiate_arguments.ensures) in
    let n = part_length c.requires _ _ refl (rw c.arity_of.ensures at c.instantiate_arguments.auto.values) in
    rw (handed_on c.from_residual-in_err-outcome.result c.from_residual-in_err-outcome.ensures.1)
    (call_failed c.requires a _ c.in_ok-before.was n (rw (c.symbol_of-symbol.ensures, c.arity_of.ensures) at c.call.ensures.answered) _ c.in_err-outcome.was)

pub premise-bind-requires : goal.premise-bind-requires
premise-bind-requires t c =
    let a = part_whole c.requires _ refl (rw c.arity_of.ensures at c.instantiate_arguments.auto.values) (rw (c.room.ensures, c.arity_of.ensures) at c.instantiate_arguments.ensures) in
    let n = part_length c.requires _ _ refl (rw c.arity_of.ensures at c.instantiate_arguments.auto.values) in
    rw c.arity_of.ensures
    (bind_asked c.requires a _ c.in_ok-before.was n (rw (c.symbol_of-symbol.ensures, c.arity_of.ensures) at c.call.ensures.answered) _ _ _ c.in_ok-outcome.was _
    (c.call.ensures.lent.stack_kept ∙ c.instantiate_arguments.auto.stack))

pub premise-returns-then-not-bind-clause-answered : goal.premise-returns-then-not-bind-clause-answered
premise-returns-then-not-bind-clause-answered t c =
    let a = part_whole c.requires _ refl (rw c.arity_of.ensures at c.instantiate_arguments.auto.values) (rw (c.room.ensures, c.arity_of.ensures) at c.instantiate_arguments.ensures) in
    let n = part_length c.requires _ _ refl (rw c.arity_of.ensures at c.instantiate_arguments.auto.values) in
    result_failed c.requires a _ c.in_ok-before.was n (rw (c.symbol_of-symbol.ensures, c.arity_of.ensures) at c.call.ensures.answered) _ _ _ c.in_ok-outcome.was
    (rw c.arity_of.ensures at c.bind.ensures) c.if-not-bind.true

pub premise-returns-clause-answered : goal.premise-returns-clause-answered
premise-returns-clause-answered t c =
    let a = part_whole c.requires _ refl (rw c.arity_of.ensures at c.instantiate_arguments.auto.values) (rw (c.room.ensures, c.arity_of.ensures) at c.instantiate_arguments.ensures) in
    let n = part_length c.requires _ _ refl (rw c.arity_of.ensures at c.instantiate_arguments.auto.values) in
    result_fitted c.requires a _ c.in_ok-before.was n (rw (c.symbol_of-symbol.ensures, c.arity_of.ensures) at c.call.ensures.answered) _ _ _ c.in_ok-outcome.was
    (rw c.arity_of.ensures at c.bind.ensures) c.if-not-bind.false

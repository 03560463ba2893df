-- `instantiate_node` meets its contract. The loop's invariant: going on from what is built and what is open comes to building the whole. What falls: the size of what
-- is left of the pattern, then the open rows. A turn that takes an argument is two steps of the laws: it waits, and then it is put in or opened.
use Prim.Native.Nat.{◌+◌, ◌-◌, ◌≤◌}
use mathlib.Core.List.{[], ◌∷◌}
use Rattle.arena.specs.Copies.{pattern_room}
use native.Mathlib.Omega.{arith}
use mathlib.Core.Path.{◌≡◌, refl}
use lib.ListN.{length-set}
use Rattle.refusals.specs.Refused.{handed_on}
use Rattle.clause_matching.proofs.PatternOf.{is_low, is_high}
use Rattle.clause_matching.proofs.Variables.{held_is, held_none}
use Rattle.clause_matching.proofs.BuildTurns.{turn_start, turn_lent, variable_unbound, less_value, turn_value, free_row, less_enter, turn_enter, turn_done, facts, less_next, turn_next, node_refused, push_room, turn_build}
use Rattle.clause_matching.proofs.building.instantiate_node.Goals as goal

pub loop-row-init : goal.loop-row-init
loop-row-init c =
    let high : pattern_room ≤ c.args.root + pattern_room = omega arith in
    let same : c.args.root + pattern_room - pattern_room ≡ c.args.root = omega arith in
    (c.args.root + pattern_room, turn_lent _ (length-set c.args.stack.now 0 (c.args.root ∷ 0 ∷ c.args.room.limit ∷ [])) (rw same at (turn_enter (turn_start c.requires) refl high)))

pub bounds-stack-row : goal.bounds-stack-row
bounds-stack-row c =
    let q : c.in-Some.row ≡ c.loop-row.depth - 1 = omega (arith, c.in-Some.ensures) in
    let f = facts c.loop-row.invariant.1 refl (omega (arith, c.in-Some.ensures)) in
    omega arith

pub bounds-stack-row-in-Some : goal.bounds-stack-row-in-Some
bounds-stack-row-in-Some c =
    let q : c.in-Some.row ≡ c.loop-row.depth - 1 = omega (arith, c.in-Some.ensures) in
    let f = facts c.loop-row.invariant.1 refl (omega (arith, c.in-Some.ensures)) in
    omega arith

pub bounds-stack-row-in-Some-2 : goal.bounds-stack-row-in-Some-2
bounds-stack-row-in-Some-2 c =
    let q : c.in-Some.row ≡ c.loop-row.depth - 1 = omega (arith, c.in-Some.ensures) in
    let f = facts c.loop-row.invariant.1 refl (omega (arith, c.in-Some.ensures)) in
    omega arith

pub bounds-stack-row-then-taken-arity : goal.bounds-stack-row-then-taken-arity
bounds-stack-row-then-taken-arity c =
    let q : c.in-Some.row ≡ c.loop-row.depth - 1 = omega (arith, c.in-Some.ensures) in
    let f = facts c.loop-row.invariant.1 refl (omega (arith, c.in-Some.ensures)) in
    let o = c.if-taken-arity.true in
    omega arith

pub returns-in_err-value-in-None : goal.returns-in_err-value-in-None
returns-in_err-value-in-None c =
    let q : c.in-Some.row ≡ c.loop-row.depth - 1 = omega (arith, c.in-Some.ensures) in
    let more = rw (c.arity_of-arity.ensures, q) at c.if-taken-arity.true in
    let low = is_low _ (rw q at c.checked_sub-then-taken-arity.ensures) c.in-None.is in
    let (z, e) = held_none (rw q at c.value_of.ensures) c.in_err-value-in-None.was in
    rw (handed_on c.from_residual.result c.from_residual.ensures.1, e)
    (variable_unbound (turn_next c.loop-row.invariant.1 refl (omega (arith, c.in-Some.ensures)) more) refl low z)

pub loop-row-smaller-in-None : goal.loop-row-smaller-in-None
loop-row-smaller-in-None c =
    let q : c.in-Some.row ≡ c.loop-row.depth - 1 = omega (arith, c.in-Some.ensures) in
    let more = rw (c.arity_of-arity.ensures, q) at c.if-taken-arity.true in
    let low = is_low _ (rw q at c.checked_sub-then-taken-arity.ensures) c.in-None.is in
    let x = less_next c.loop-row.invariant.1 refl (omega (arith, c.in-Some.ensures)) more in
    let y = less_value (turn_next c.loop-row.invariant.1 refl (omega (arith, c.in-Some.ensures)) more) refl low
    (held_is (rw q at c.value_of.ensures) c.in_ok-value-in-None.was).0 in
    rw q (omega arith)

pub loop-row-preserved-in-None : goal.loop-row-preserved-in-None
loop-row-preserved-in-None c =
    let q : c.in-Some.row ≡ c.loop-row.depth - 1 = omega (arith, c.in-Some.ensures) in
    let more = rw (c.arity_of-arity.ensures, q) at c.if-taken-arity.true in
    let low = is_low _ (rw q at c.checked_sub-then-taken-arity.ensures) c.in-None.is in
    let (n, z) = held_is (rw q at c.value_of.ensures) c.in_ok-value-in-None.was in
    rw q (rw z (_, turn_value (turn_next c.loop-row.invariant.1 refl (omega (arith, c.in-Some.ensures)) more) refl low n))

pub bounds-stack-depth : goal.bounds-stack-depth
bounds-stack-depth c =
    let q : c.in-Some.row ≡ c.loop-row.depth - 1 = omega (arith, c.in-Some.ensures) in
    let more = rw (c.arity_of-arity.ensures, q) at c.if-taken-arity.true in
    rw q (free_row (turn_next c.loop-row.invariant.1 refl (omega (arith, c.in-Some.ensures)) more) refl (is_high _ (rw q at c.checked_sub-then-taken-arity.ensures) c.in-Some-checked_sub.is).0)

pub loop-row-smaller-in-Some-checked_sub : goal.loop-row-smaller-in-Some-checked_sub
loop-row-smaller-in-Some-checked_sub c =
    let q : c.in-Some.row ≡ c.loop-row.depth - 1 = omega (arith, c.in-Some.ensures) in
    let more = rw (c.arity_of-arity.ensures, q) at c.if-taken-arity.true in
    let (high, e) = is_high _ (rw q at c.checked_sub-then-taken-arity.ensures) c.in-Some-checked_sub.is in
    let x = less_next c.loop-row.invariant.1 refl (omega (arith, c.in-Some.ensures)) more in
    let y = less_enter (turn_next c.loop-row.invariant.1 refl (omega (arith, c.in-Some.ensures)) more) refl high in
    rw q (rw e (omega arith))

pub loop-row-preserved-in-Some-checked_sub : goal.loop-row-preserved-in-Some-checked_sub
loop-row-preserved-in-Some-checked_sub c =
    let q : c.in-Some.row ≡ c.loop-row.depth - 1 = omega (arith, c.in-Some.ensures) in
    let more = rw (c.arity_of-arity.ensures, q) at c.if-taken-arity.true in
    let (high, e) = is_high _ (rw q at c.checked_sub-then-taken-arity.ensures) c.in-Some-checked_sub.is in
    rw q (rw e (_, turn_enter (turn_next c.loop-row.invariant.1 refl (omega (arith, c.in-Some.ensures)) more) refl high))

pub returns-then-room-spent : goal.returns-then-room-spent
returns-then-room-spent c =
    let q : c.in-Some.row ≡ c.loop-row.depth - 1 = omega (arith, c.in-Some.ensures) in
    let all = rw (c.arity_of-arity.ensures, q) at c.if-taken-arity.false in
    let full = rw (c.arity_of-arity.ensures, q) at c.if-room-spent.true in
    node_refused c.loop-row.invariant.1 refl (omega (arith, c.in-Some.ensures)) all full

pub push_values-requires : goal.push_values-requires
push_values-requires c =
    let q : c.in-Some.row ≡ c.loop-row.depth - 1 = omega (arith, c.in-Some.ensures) in
    let all = rw (c.arity_of-arity.ensures, q) at c.if-taken-arity.false in
    let room = rw (c.arity_of-arity.ensures, q) at c.if-room-spent.false in
    rw (c.arity_of-arity.ensures, q) (push_room c.loop-row.invariant.1 refl (omega (arith, c.in-Some.ensures)) all room)

pub loop-row-preserved : goal.loop-row-preserved
loop-row-preserved c =
    let q : c.in-Some.row ≡ c.loop-row.depth - 1 = omega (arith, c.in-Some.ensures) in
    let all = rw (c.arity_of-arity.ensures, q) at c.if-taken-arity.false in
    let room = rw (c.arity_of-arity.ensures, q) at c.if-room-spent.false in
    let pushed = rw (c.arity_of-arity.ensures, q) at c.push_values.ensures in
    rw (c.arity_of-arity.ensures, q) (_, turn_build c.loop-row.invariant.1 refl (omega (arith, c.in-Some.ensures)) all room _ pushed)

pub returns : goal.returns
returns c = turn_done c.loop-row.invariant.1 refl (omega (arith, c.in_default.ensures))

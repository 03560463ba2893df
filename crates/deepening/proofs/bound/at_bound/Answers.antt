-- `at_bound` meets its contract: no step, a goal that is cut off, or what is left of the machine's last state.
use Rattle.std.proofs.Common.{◌≡◌, ◌-◌, arith}
use Rattle.deepening.specs.Bounding.{bound_cut, bound_ready, bound_leaving, bound_left, bounded_on}
use Rattle.deepening.proofs.bound.at_bound.Goals as goal

pub returns-in_default-checked_sub-clause-bounded : goal.returns-in_default-checked_sub-clause-bounded
returns-in_default-checked_sub-clause-bounded c =
    let s : c.in-Some.steps ≡ c.args.question.steps - 1 = omega (arith, c.in-Some.ensures) in
    rw s (bound_cut c.requires c.args.depth (omega (arith, c.in-Some.ensures)) (omega arith))

pub run-m-requires : goal.run-m-requires
run-m-requires c =
    let s : c.in-Some.steps ≡ c.args.question.steps - 1 = omega (arith, c.in-Some.ensures) in
    let d : c.in-Some-checked_sub.below ≡ c.args.depth - 1 = omega (arith, c.in-Some-checked_sub.ensures) in
    bound_ready c.requires c.args.depth (omega (arith, c.in-Some.ensures)) (omega (arith, c.in-Some-checked_sub.ensures))
    (rw (s, d) at c.at_start-first.ensures)

pub leave-requires : goal.leave-requires
leave-requires c =
    let s : c.in-Some.steps ≡ c.args.question.steps - 1 = omega (arith, c.in-Some.ensures) in
    let d : c.in-Some-checked_sub.below ≡ c.args.depth - 1 = omega (arith, c.in-Some-checked_sub.ensures) in
    bound_leaving c.requires c.args.depth (omega (arith, c.in-Some.ensures)) (omega (arith, c.in-Some-checked_sub.ensures))
    (rw (s, d) at c.at_start-first.ensures) c.run-m.ensures.searched

pub returns-clause-bounded : goal.returns-clause-bounded
returns-clause-bounded c =
    let s : c.in-Some.steps ≡ c.args.question.steps - 1 = omega (arith, c.in-Some.ensures) in
    let d : c.in-Some-checked_sub.below ≡ c.args.depth - 1 = omega (arith, c.in-Some-checked_sub.ensures) in
    let l = c.leave.ensures.left in
    bounded_on l.links l.marks l.stack
    (bound_left c.requires c.args.depth (omega (arith, c.in-Some.ensures)) (omega (arith, c.in-Some-checked_sub.ensures))
    (rw (s, d) at c.at_start-first.ensures) c.run-m.ensures.searched l.left)

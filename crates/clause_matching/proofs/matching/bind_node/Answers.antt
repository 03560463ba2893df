-- `bind_node` meets its contract. The loop's invariant: matching what is left, from the values that the environment holds, comes to matching the whole. What falls: the
-- size of what is left of the pattern, then the open rows. A turn that takes an argument is two steps of the laws: it waits, and then it is matched or opened.
use Prim.Native.Nat.{◌-◌}
use native.Mathlib.Omega.{arith}
use mathlib.Core.Path.{◌≡◌, refl}
use Rattle.arena.specs.Rows.{column}
use Rattle.clause_matching.proofs.PatternOf.{variable_is, node_is}
use Rattle.clause_matching.proofs.BindTurns.{read_waits, turn_start, referable, take_lent, variable_misfits, waits_misfits, waits_free, turn_waits, turn_done, less_close, turn_close, turn_next, less_taken, turn_taken, node_inside, opened_misfits, opened_free, less_opened, turn_opened}
use Rattle.clause_matching.proofs.matching.bind_node.Goals as goal

pub returns-then-header-values : goal.returns-then-header-values
returns-then-header-values c = waits_misfits (c.requires.0, c.requires.1) (turn_start c.requires.2) refl c.if-header-values.true

pub bounds-stack-0 : goal.bounds-stack-0
bounds-stack-0 c = waits_free (c.requires.0, c.requires.1) (turn_start c.requires.2) refl c.if-header-values.false

pub loop-row-init : goal.loop-row-init
loop-row-init c = rw c.arity_of.ensures (turn_waits (c.requires.0, c.requires.1) (turn_start c.requires.2) refl c.if-header-values.false)

pub loop-row-preserved-in_default-checked_sub : goal.loop-row-preserved-in_default-checked_sub
loop-row-preserved-in_default-checked_sub c =
    let q : c.in-Some.row ≡ c.loop-row.depth - 1 = omega (arith, c.in-Some.ensures) in
    let d = rw q at c.in_default-checked_sub.ensures in
    rw q (turn_close c.loop-row.invariant refl (omega (arith, c.in-Some.ensures)) (omega (arith, d)))

pub pattern_at-requires : goal.pattern_at-requires
pattern_at-requires c =
    let q : c.in-Some.row ≡ c.loop-row.depth - 1 = omega (arith, c.in-Some.ensures) in
    let d = rw q at c.in-Some-checked_sub.ensures in
    let s : c.in-Some-checked_sub.rest ≡ column 2 c.loop-row.stack (c.loop-row.depth - 1) - 1 = omega (arith, d) in
    rw q (referable (turn_next c.loop-row.invariant refl (omega (arith, c.in-Some.ensures)) (omega (arith, d))) refl)

pub take-requires : goal.take-requires
take-requires c =
    let q : c.in-Some.row ≡ c.loop-row.depth - 1 = omega (arith, c.in-Some.ensures) in
    let d = rw q at c.in-Some-checked_sub.ensures in
    let s : c.in-Some-checked_sub.rest ≡ column 2 c.loop-row.stack (c.loop-row.depth - 1) - 1 = omega (arith, d) in
    let (v, e) = variable_is _ _ (rw q at c.pattern_at.ensures) _ c.in-Variable.is in
    rw q (rw e (take_lent (turn_next c.loop-row.invariant refl (omega (arith, c.in-Some.ensures)) (omega (arith, d))) refl v))

pub returns-then-not-take : goal.returns-then-not-take
returns-then-not-take c =
    let q : c.in-Some.row ≡ c.loop-row.depth - 1 = omega (arith, c.in-Some.ensures) in
    let d = rw q at c.in-Some-checked_sub.ensures in
    let s : c.in-Some-checked_sub.rest ≡ column 2 c.loop-row.stack (c.loop-row.depth - 1) - 1 = omega (arith, d) in
    let (v, e) = variable_is _ _ (rw q at c.pattern_at.ensures) _ c.in-Variable.is in
    variable_misfits (turn_next c.loop-row.invariant refl (omega (arith, c.in-Some.ensures)) (omega (arith, d))) refl v _ _ _ (rw (q, e) at c.take.ensures) c.if-not-take.true

pub loop-row-smaller-else-not-take : goal.loop-row-smaller-else-not-take
loop-row-smaller-else-not-take c =
    let q : c.in-Some.row ≡ c.loop-row.depth - 1 = omega (arith, c.in-Some.ensures) in
    let d = rw q at c.in-Some-checked_sub.ensures in
    let s : c.in-Some-checked_sub.rest ≡ column 2 c.loop-row.stack (c.loop-row.depth - 1) - 1 = omega (arith, d) in
    let (v, e) = variable_is _ _ (rw q at c.pattern_at.ensures) _ c.in-Variable.is in
    rw (q, s) (less_taken c.loop-row.invariant (omega (arith, c.in-Some.ensures)) (omega (arith, d)) v)

pub loop-row-preserved-else-not-take : goal.loop-row-preserved-else-not-take
loop-row-preserved-else-not-take c =
    let q : c.in-Some.row ≡ c.loop-row.depth - 1 = omega (arith, c.in-Some.ensures) in
    let d = rw q at c.in-Some-checked_sub.ensures in
    let s : c.in-Some-checked_sub.rest ≡ column 2 c.loop-row.stack (c.loop-row.depth - 1) - 1 = omega (arith, d) in
    let (v, e) = variable_is _ _ (rw q at c.pattern_at.ensures) _ c.in-Variable.is in
    rw (q, s) (turn_taken c.loop-row.invariant (omega (arith, c.in-Some.ensures)) (omega (arith, d)) v _ _ _ (rw (q, e) at c.take.ensures) c.if-not-take.false)

pub bounds-values-other : goal.bounds-values-other
bounds-values-other c =
    let q : c.in-Some.row ≡ c.loop-row.depth - 1 = omega (arith, c.in-Some.ensures) in
    let d = rw q at c.in-Some-checked_sub.ensures in
    let s : c.in-Some-checked_sub.rest ≡ column 2 c.loop-row.stack (c.loop-row.depth - 1) - 1 = omega (arith, d) in
    let (v, h, f) = node_is _ _ (rw q at c.pattern_at.ensures) _ _ c.in-Node.is in
    rw q ((node_inside c.loop-row.invariant (omega (arith, c.in-Some.ensures)) (omega (arith, d)) (read_waits c.args.pattern.now v h f)).0)

pub returns-then-wanted-values : goal.returns-then-wanted-values
returns-then-wanted-values c =
    let q : c.in-Some.row ≡ c.loop-row.depth - 1 = omega (arith, c.in-Some.ensures) in
    let d = rw q at c.in-Some-checked_sub.ensures in
    let s : c.in-Some-checked_sub.rest ≡ column 2 c.loop-row.stack (c.loop-row.depth - 1) - 1 = omega (arith, d) in
    let (v, h, f) = node_is _ _ (rw q at c.pattern_at.ensures) _ _ c.in-Node.is in
    opened_misfits c.loop-row.invariant (omega (arith, c.in-Some.ensures)) (omega (arith, d)) (read_waits c.args.pattern.now v h f) (rw q at c.if-wanted-values.true)

pub overflow_add-stack-in-Node : goal.overflow_add-stack-in-Node
overflow_add-stack-in-Node c =
    let q : c.in-Some.row ≡ c.loop-row.depth - 1 = omega (arith, c.in-Some.ensures) in
    let d = rw q at c.in-Some-checked_sub.ensures in
    let s : c.in-Some-checked_sub.rest ≡ column 2 c.loop-row.stack (c.loop-row.depth - 1) - 1 = omega (arith, d) in
    let (v, h, f) = node_is _ _ (rw q at c.pattern_at.ensures) _ _ c.in-Node.is in
    let l = (node_inside c.loop-row.invariant (omega (arith, c.in-Some.ensures)) (omega (arith, d)) (read_waits c.args.pattern.now v h f)).1 in
    rw q (omega arith)

pub bounds-stack-depth : goal.bounds-stack-depth
bounds-stack-depth c =
    let q : c.in-Some.row ≡ c.loop-row.depth - 1 = omega (arith, c.in-Some.ensures) in
    let d = rw q at c.in-Some-checked_sub.ensures in
    let s : c.in-Some-checked_sub.rest ≡ column 2 c.loop-row.stack (c.loop-row.depth - 1) - 1 = omega (arith, d) in
    let (v, h, f) = node_is _ _ (rw q at c.pattern_at.ensures) _ _ c.in-Node.is in
    rw (q, s) (opened_free c.loop-row.invariant (omega (arith, c.in-Some.ensures)) (omega (arith, d)) (read_waits c.args.pattern.now v h f) (rw q at c.if-wanted-values.false))

pub loop-row-smaller : goal.loop-row-smaller
loop-row-smaller c =
    let q : c.in-Some.row ≡ c.loop-row.depth - 1 = omega (arith, c.in-Some.ensures) in
    let d = rw q at c.in-Some-checked_sub.ensures in
    let s : c.in-Some-checked_sub.rest ≡ column 2 c.loop-row.stack (c.loop-row.depth - 1) - 1 = omega (arith, d) in
    let (v, h, f) = node_is _ _ (rw q at c.pattern_at.ensures) _ _ c.in-Node.is in
    rw (q, s) (rw c.arity_of-in-Node.ensures
    (less_opened c.loop-row.invariant (omega (arith, c.in-Some.ensures)) (omega (arith, d)) (read_waits c.args.pattern.now v h f) (rw q at c.if-wanted-values.false)))

pub loop-row-preserved : goal.loop-row-preserved
loop-row-preserved c =
    let q : c.in-Some.row ≡ c.loop-row.depth - 1 = omega (arith, c.in-Some.ensures) in
    let d = rw q at c.in-Some-checked_sub.ensures in
    let s : c.in-Some-checked_sub.rest ≡ column 2 c.loop-row.stack (c.loop-row.depth - 1) - 1 = omega (arith, d) in
    let (v, h, f) = node_is _ _ (rw q at c.pattern_at.ensures) _ _ c.in-Node.is in
    rw (q, s) (rw c.arity_of-in-Node.ensures
    (turn_opened c.loop-row.invariant (omega (arith, c.in-Some.ensures)) (omega (arith, d)) (read_waits c.args.pattern.now v h f) (rw q at c.if-wanted-values.false)))

pub returns : goal.returns
returns c = turn_done c.loop-row.invariant refl (omega (arith, c.in_default.ensures))

-- `find_clause` meets its contract.
use Prim.Native.Nat.{◌+◌, ◌-◌}
use native.Mathlib.Omega.{arith}
use mathlib.Core.Path.{◌∙◌}
use lib.ListN.{length, take, drop, length-append}
use Rattle.std.proofs.lemmas.Slice.Zip.{zip_turn, zip_end}
use Rattle.clause_matching.proofs.PatternOf.{part_long, part_cell}
use Rattle.clause_matching.proofs.Choosing.{part_inside, is_no_variable, first_is, trying_start, bind_asked, apart_asked, choosing_apart, choosing_next, trying_next, none_fits, clause_fits}
use Rattle.clause_matching.proofs.choice.find_clause.Goals as goal

pub unreachable-requires : goal.unreachable-requires
unreachable-requires c = is_no_variable c.clauses.invariant c.clauses-test.true _ _ c.pattern_at.ensures c.in_default.is

pub is_apart-requires : goal.is_apart-requires
is_apart-requires c =
    apart_asked c.clauses.invariant c.clauses-test.true _ (first_is c.clauses.invariant c.clauses-test.true _ _ _ c.pattern_at.ensures c.in-Node.is)

pub clauses-preserved-then-is_apart : goal.clauses-preserved-then-is_apart
clauses-preserved-then-is_apart c =
    choosing_apart c.clauses.invariant c.clauses-test.true _ (first_is c.clauses.invariant c.clauses-test.true _ _ _ c.pattern_at.ensures c.in-Node.is)
    (c.is_apart.ensures c.if-is_apart.true)

pub loop-reference-init : goal.loop-reference-init
loop-reference-init c =
    trying_start c.clauses.invariant c.clauses-test.true _ _ (c.fill.ensures.after (λ y e. e)) (first_is c.clauses.invariant c.clauses-test.true _ _ _ c.pattern_at.ensures c.in-Node.is)

pub bind-requires : goal.bind-requires
bind-requires c =
    let b = c.in-Node.first in
    let n = length c.args.arguments.now in
    let p = take (b + n - b) (drop b c.args.clauses.pattern.now) in
    let z = zip_turn p c.args.arguments.now c.loop-reference.yielded c.into_iter-reference-iterator.result c.loop-reference.reference-iterator c.next.new.self c.next.result (cc) (cc) c.loop-reference.yielded_by _ c.in-Some.is c.next.ensures.steps in
    rw (z.2 0 ∙ part_cell c.args.clauses.pattern.now b n (length c.loop-reference.yielded) z.1, z.3 0)
    (bind_asked c.clauses.invariant c.clauses-test.true c.fill.auto.self c.loop-reference.invariant z.1)

pub clauses-preserved : goal.clauses-preserved
clauses-preserved c =
    let b = c.in-Node.first in
    let n = length c.args.arguments.now in
    let p = take (b + n - b) (drop b c.args.clauses.pattern.now) in
    let z = zip_turn p c.args.arguments.now c.loop-reference.yielded c.into_iter-reference-iterator.result c.loop-reference.reference-iterator c.next.new.self c.next.result (cc) (cc) c.loop-reference.yielded_by _ c.in-Some.is c.next.ensures.steps in
    let m = rw (z.2 0 ∙ part_cell c.args.clauses.pattern.now b n (length c.loop-reference.yielded) z.1, z.3 0) at c.bind.ensures in
    choosing_next c.clauses.invariant c.clauses-test.true c.fill.auto.self c.loop-reference.invariant z.1 m c.bind.auto.stack c.if-not-bind.true

pub loop-reference-preserved : goal.loop-reference-preserved
loop-reference-preserved c =
    let b = c.in-Node.first in
    let n = length c.args.arguments.now in
    let p = take (b + n - b) (drop b c.args.clauses.pattern.now) in
    let z = zip_turn p c.args.arguments.now c.loop-reference.yielded c.into_iter-reference-iterator.result c.loop-reference.reference-iterator c.next.new.self c.next.result (cc) (cc) c.loop-reference.yielded_by _ c.in-Some.is c.next.ensures.steps in
    let m = rw (z.2 0 ∙ part_cell c.args.clauses.pattern.now b n (length c.loop-reference.yielded) z.1, z.3 0) at c.bind.ensures in
    rw (length-append c.loop-reference.yielded _) (trying_next c.clauses.invariant c.clauses-test.true c.fill.auto.self c.loop-reference.invariant z.1 m c.bind.auto.stack c.if-not-bind.false)

pub returns-in-clauses : goal.returns-in-clauses
returns-in-clauses c =
    let b = c.in-Node.first in
    let n = length c.args.arguments.now in
    let p = take (b + n - b) (drop b c.args.clauses.pattern.now) in
    let z = zip_end p c.args.arguments.now c.loop-reference.yielded c.into_iter-reference-iterator.result c.loop-reference.reference-iterator c.next.new.self c.next.result (cc) (cc) c.loop-reference.yielded_by c.in-None.is c.next.ensures.steps in
    let w = part_long c.args.clauses.pattern.now b n (part_inside c.clauses.invariant c.clauses-test.true b c.loop-reference.invariant.starts) in
    clause_fits c.clauses.invariant c.clauses-test.true c.fill.auto.self c.loop-reference.invariant (let e = rw w at z in omega arith)

pub returns : goal.returns
returns c = none_fits c.clauses.invariant c.clauses-test.false

-- `visit_args` meets its contract. The loop's invariant: the marks grew by the arguments that were passed.
use Prim.Native.Nat.{◌-◌}
use mathlib.Core.Path.{◌≡◌, ◌∙◌}
use native.Mathlib.Omega.{arith}
use Rattle.arena.specs.Cells.{cells, arity_of}
use Rattle.arena.specs.Arguments.{arguments_long, argument_in}
use Rattle.bindings.specs.Search.{args_more}
use Rattle.bindings.proofs.visits.Queue.visit_args.Goals as goal

pub visit-requires-clause-fact_2 : goal.visit-requires-clause-fact_2
visit-requires-clause-fact_2 c =
    let w = c.args.terms.words.now in
    let a = c.args.r - c.args.terms.room in
    let l = rw (c.arguments-y-items.ensures, arguments_long w a c.requires.fact_2.1) at c.loop-y-test.true in
    (rw (c.arguments-y-items.ensures, argument_in w a _ l) (c.requires.fact_3 _ l), omega (arith, c.loop-y.invariant.0.long))

pub loop-y-preserved : goal.loop-y-preserved
loop-y-preserved c =
    let w = c.args.terms.words.now in
    let a = c.args.r - c.args.terms.room in
    let l = rw (c.arguments-y-items.ensures, arguments_long w a c.requires.fact_2.1) at c.loop-y-test.true in
    let grown = rw (c.arguments-y-items.ensures, argument_in w a _ l) at c.visit.ensures.grown in
    (args_more w _ c.loop-y.y-index c.loop-y.invariant.0 grown, c.visit.ensures.lent ∙ c.loop-y.invariant.1)

pub returns-clause-grown : goal.returns-clause-grown
returns-clause-grown c =
    let w = c.args.terms.words.now in
    let a = c.args.r - c.args.terms.room in
    let e : c.loop-y.y-index ≡ arity_of (cells w a) = omega (arith, rw (c.arguments-y-items.ensures, arguments_long w a c.requires.fact_2.1) at c.loop-y-test.false, rw (c.arguments-y-items.ensures, arguments_long w a c.requires.fact_2.1) at c.loop-y.auto.y-index-end) in
    rw e at c.loop-y.invariant.0

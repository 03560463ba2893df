-- `visit_edges` meets its contract: an unbound variable has no edge, a bound one has one, and a node has one for each argument.
use Rattle.arena.specs.Rows.{one_more}
use native.Mathlib.Omega.{arith}
use Rattle.bindings.specs.Search.{edges_free, edges_bound, edges_arguments, value_in, argument_in}
use Rattle.bindings.proofs.visits.Queue.visit_edges.Goals as goal

pub visit-requires-clause-fact_2 : goal.visit-requires-clause-fact_2
visit-requires-clause-fact_2 c =
    (value_in c.requires.fact_1 c.requires.fact_2 _ c.if-r-terms.true (one_more c.in-Some.ensures), c.requires.fact_4)

pub returns-then-r-terms-clause-grown : goal.returns-then-r-terms-clause-grown
returns-then-r-terms-clause-grown c =
    edges_bound c.requires.fact_1 c.requires.fact_2 _ c.if-r-terms.true (one_more c.in-Some.ensures) c.visit.ensures.grown

pub visit_args-requires-clause-fact_3 : goal.visit_args-requires-clause-fact_3
visit_args-requires-clause-fact_3 c = argument_in c.requires.fact_1 c.requires.fact_2 c.if-r-terms.false

pub returns-clause-grown : goal.returns-clause-grown
returns-clause-grown c =
    edges_arguments c.requires.fact_1 c.requires.fact_2 c.if-r-terms.false c.visit_args.ensures.grown

pub returns-in_default-clause-grown : goal.returns-in_default-clause-grown
returns-in_default-clause-grown c =
    let none = c.in_default.ensures in
    edges_free c.requires.fact_1 c.requires.fact_2 _ _ c.requires.fact_3 c.if-r-terms.true (omega arith)

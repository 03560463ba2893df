-- `heading` meets its contract: the rows of the patterns are copied behind the function's.
use lib.ListN.{length-set}
use Rattle.clauses.proofs.ClauseLaws.{few_patterns, skipped_within, headed}
use native.Mathlib.Omega.{arith}
use Rattle.clauses.proofs.heading.Goals as goal

pub skip-end-requires : goal.skip-end-requires
skip-end-requires c = let f = few_patterns c.requires in (c.requires.short, f)

pub overflow_cast-out : goal.overflow_cast-out
overflow_cast-out c = let f = few_patterns c.requires in omega arith

pub overflow_add-out : goal.overflow_add-out
overflow_add-out c = let f = few_patterns c.requires in omega arith

pub slice_bounds-copy-end : goal.slice_bounds-copy-end
slice_bounds-copy-end c =
    let w = skipped_within c.requires c.skip-end.result c.skip-end.ensures in
    let p = c.requires in
    simp length-set (omega arith)

pub slice_bounds-copy-end-2 : goal.slice_bounds-copy-end-2
slice_bounds-copy-end-2 c = let w = skipped_within c.requires c.skip-end.result c.skip-end.ensures in omega arith

pub returns : goal.returns
returns c = headed c.requires c.args.word.start c.args.word.size c.skip-end.result _ _ c.skip-end.ensures (omega arith) c.copy.ensures.after

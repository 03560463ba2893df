-- `occurs` meets its contract. The loop's invariant: what stands in the queue was reached from r, the edges of its first h are followed, none of them
-- is x, and taking all marks back gives the marks at entry.
use mathlib.Core.Path.{refl, sym, ◌∙◌}
use native.Mathlib.Omega.{arith}
use Rattle.bindings.specs.Entries.{entries_none}
use Rattle.bindings.specs.Search.{search_start, search_step, search_end, searched_back, searched_undoable, searched_lent, undone_zero, occurs_yes, occurs_no}
use borrow.Author.Rules.{rules}
use Rattle.bindings.proofs.occurs.Goals as goal
use Rattle.bindings.proofs.occurs.Goals.{then-h-queue, else-h-queue+then-y-x}

pub visit-requires-clause-fact_1 : goal.visit-requires-clause-fact_1
visit-requires-clause-fact_1 c = entries_none _ _ c.requires.fact_4.empty

pub loop-h-init : goal.loop-h-init
loop-h-init c =
    let args = c.args in
    let grown = c.visit.ensures.grown in
    let start = search_start args.terms.room args.terms.words.now args.bindings.rows.now _ args.terms.variables args.terms.used args.r args.x _ _ c.requires.fact_2 grown in
    (rw (grown.back ∙ undone_zero _ 0) at start, refl)

pub loop-h-preserved : goal.loop-h-preserved
loop-h-preserved c =
    let args = c.args in
    let loop = c.loop-h in
    let pre = c.requires in
    let if1 = c.if-y-x in
    let visit-edges = c.visit_edges in
    (search_step args.terms.room args.terms.words.now args.bindings.rows.now _ args.terms.variables args.terms.used args.r args.x _ _ loop.h _ _ pre.fact_1 loop.invariant.0 (search rules) if1.false visit-edges.ensures.grown, visit-edges.ensures.lent ∙ loop.invariant.1)

pub returns : goal.returns
returns c =
    let pre = c.requires in
    let args = c.args in
    let loop = c.loop-h in
    record {
      is = elim c.if-h-queue.branch [
        | then-h-queue w ↦ w.found-is ∙ sym (occurs_no pre.fact_1 pre.fact_2 (search_end args.terms.room args.terms.words.now args.bindings.rows.now _ args.terms.variables args.terms.used args.r args.x _ _ _ loop.invariant.0 (let e = w.if-h-queue.true in omega arith)))
        | else-h-queue+then-y-x w ↦ w.found-is ∙ sym (occurs_yes pre.fact_1 pre.fact_2 pre.fact_3.0 pre.fact_3.1 (rw w.if-y-x.true at (loop.invariant.0.come loop.h (let n = w.if-h-queue.false in let le = loop.invariant.0.le in omega arith))))
      ];
      marks = rw (sym (c.undo.ensures ∙ searched_back loop.invariant.0 refl)) (search (rules, loop.invariant.1, c.visit.ensures.lent));
    }

pub bounds-queue-h : goal.bounds-queue-h
bounds-queue-h c = let u = searched_undoable c.loop-h.invariant.0 refl c.requires.fact_4.lent in let w = u.within in let s = c.loop-h.invariant.0.le in omega arith

pub undo-requires : goal.undo-requires
undo-requires c = searched_undoable c.loop-h.invariant.0 refl c.requires.fact_4.lent

pub visit_edges-requires-clause-fact_4 : goal.visit_edges-requires-clause-fact_4
visit_edges-requires-clause-fact_4 c = searched_lent c.loop-h.invariant.0 refl c.requires.fact_4.lent

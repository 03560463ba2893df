-- `edge_at` meets its contract: each way out is one case of the definition, and a reference's words are within the slices.
use mathlib.Core.Path.{sym, ap, ◌∙◌}
use Rattle.arena.specs.Cells.{cells}
use Rattle.arena.specs.Rows.{column}
use Rattle.acyclicity.proofs.EdgeLaws.{edge_variable, edge_second, edge_looked_up, held_place}
use Rattle.acyclicity.specs.Edges.{number}
use Rattle.acyclicity.proofs.edge_at.Goals as goal

pub returns-then-i-eq0 : goal.returns-then-i-eq0
returns-then-i-eq0 c =
    let args = c.args in
    let if1 = c.if-reference-terms in
    let if2 = c.if-i-eq0 in
    held_place _ _ c.checked_sub.ensures ∙ sym (edge_variable args.terms.room (cells args.terms.words.now) (column 0 args.bindings.now) args.reference args.i if1.true if2.true)

pub returns-then-reference-terms : goal.returns-then-reference-terms
returns-then-reference-terms c =
    let args = c.args in
    let if1 = c.if-reference-terms in
    let if2 = c.if-i-eq0 in
    sym (edge_second args.terms.room (cells args.terms.words.now) (column 0 args.bindings.now) args.reference args.i if1.true if2.false)

pub returns : goal.returns
returns c =
    ap number c.copied.ensures
    ∙ edge_looked_up c.requires.stored c.args.i c.get.result c.requires.reference c.if-reference-terms.false (rw c.arguments.ensures at c.get.ensures.lookup)

-- `put_parts` meets its contract: the row's columns are written, and the other parts are as they were.
use Rattle.std.proofs.Common.{ℕ, ◌≡◌, ◌≤◌, ◌+◌, ◌∙◌, [], ap, length, arith}
use Rattle.names.specs.SearchLaws.{get_d_any, part_columns}
use Rattle.names.specs.Symbols.{row_at, columns}
use Rattle.signature.proofs.Laws.{written_next}
use Rattle.signature.proofs.put_parts.Goals as goal

pub loop-i-preserved : goal.loop-i-preserved
loop-i-preserved g c =
    let rows = c.args.rows.now in
    let i = c.loop-i.i in
    let row : c.index-rows-i.result ≡ row_at rows i = c.index-rows-i.is ∙ get_d_any rows i _ _ (omega arith) in
    let long : c.args.at + g.row.M ≤ length c.index-rows-i.result = omega (arith, c.requires) in
    let part : c.copy_from_slice.new.self ≡ columns (row_at rows i) c.args.at g.row.M =
    c.copy_from_slice.ensures.after ∙ part_columns c.index-rows-i.result c.args.at g.row.M long ∙ ap (λ r. columns r c.args.at g.row.M) row in
    rw part (written_next [] c.loop-i.parts i (λ j. columns (row_at rows j) c.args.at g.row.M) (omega arith) c.loop-i.invariant)

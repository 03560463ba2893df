-- `write_rows` meets its contract: the lines of the rows, in order.
use mathlib.Core.Path.{refl, sym, ap}
use lib.ListN.{length}
use Rattle.std.proofs.lemmas.List.{take_all}
use Rattle.byte_output.specs.OutputLaws.{written_on, said_as, length_kept}
use Rattle.listing.specs.Listing.{token_lines}
use Rattle.listing.specs.ListingLaws.{lines_next, line_room}
use native.Mathlib.Omega.{arith}
use Rattle.listing.proofs.write_rows.Goals as goal

pub loop-row-init : goal.loop-row-init
unfolding token_lines
loop-row-init c = record { written = record { buffer = refl; place = omega arith }; lent = refl }

pub write_token-requires : goal.write_token-requires
write_token-requires c =
    let p = c.loop-row.invariant.written.place in
    let k = length_kept c.loop-row.invariant in
    let q = line_room c.args.text.now c.args.rows.now c.loop-row.row-index (length c.args.rows.now) c.loop-row-test.true (omega arith) in
    let a = ap (λ (l : _). length (token_lines c.args.text.now l)) (take_all (length c.args.rows.now) c.args.rows.now (omega arith)) in
    let h = c.requires in
    omega arith

pub loop-row-preserved : goal.loop-row-preserved
loop-row-preserved c = said_as (written_on c.loop-row.invariant c.write_token.ensures) (sym (lines_next c.args.text.now c.args.rows.now c.loop-row.row-index c.loop-row-test.true))

pub returns : goal.returns
returns c = said_as c.loop-row.invariant (ap (token_lines c.args.text.now) (take_all _ _ c.loop-row-test.false))

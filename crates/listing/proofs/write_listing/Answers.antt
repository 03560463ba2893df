-- `write_listing` meets its contract: a buffer of the size has room for the listing, and what `lex` answers is listed.
use mathlib.Core.Path.{sym, ap, ◌∙◌}
use lib.ListN.{length}
use lib.Seq.{length-take-le}
use Rattle.byte_output.specs.OutputLaws.{written_as}
use Rattle.listing.specs.ListingLaws.{tokens_listed, tokens_counted, refusal_listed, listing_refused, listing_done}
use Rattle.listing.specs.SizeLaws.{listing_fits}
use native.Mathlib.Omega.{arith}
use Rattle.listing.proofs.write_listing.Goals as goal

pub returns-then-out-size : goal.returns-then-out-size
returns-then-out-size c =
    let args = c.args in
    let size = c.size in
    listing_refused (args.text.now) (args.limits) (args.rows.now) (args.out.now) (let s = size.ensures in
    omega arith)

pub slice_bounds-write_tokens-end-in-Ok : goal.slice_bounds-write_tokens-end-in-Ok
slice_bounds-write_tokens-end-in-Ok c = let h = tokens_counted c.args.text.now c.args.limits c.args.rows.now c.lex.ensures.rows (sym c.in-Ok.is ∙ c.lex.ensures.answer) in let t = length-take-le c.in-Ok.count c.lex.new.tokens h in omega arith

pub write_tokens-end-requires : goal.write_tokens-end-requires
write_tokens-end-requires c =
    let e = sym c.in-Ok.is ∙ c.lex.ensures.answer in
    let l = ap length (tokens_listed c.args.text.now c.args.limits c.args.rows.now c.lex.ensures.rows e) in
    let f = listing_fits c.args.text.now c.args.limits (length c.args.rows.now) in
    let s = c.size.ensures in
    omega arith

pub write_refused-end-requires : goal.write_refused-end-requires
write_refused-end-requires c =
    let e = sym c.in-Err.is ∙ c.lex.ensures.answer in
    let l = ap length (refusal_listed c.args.text.now c.args.limits c.args.rows.now c.lex.ensures.rows e) in
    let f = listing_fits c.args.text.now c.args.limits (length c.args.rows.now) in
    let s = c.size.ensures in
    rw c.from-number.ensures (omega arith)

pub returns-in-Ok : goal.returns-in-Ok
returns-in-Ok c =
    let left = c.lex.ensures.rows in
    let e = sym c.in-Ok.is ∙ c.lex.ensures.answer in
    let s = c.size.ensures in
    listing_done c.args.text.now c.args.limits c.args.rows.now c.args.out.now (omega arith) (written_as c.write_tokens-end.ensures (tokens_listed c.args.text.now c.args.limits c.args.rows.now left e)) left

pub returns-in-Err : goal.returns-in-Err
returns-in-Err c =
    let left = c.lex.ensures.rows in
    let e = sym c.in-Err.is ∙ c.lex.ensures.answer in
    let s = c.size.ensures in
    listing_done c.args.text.now c.args.limits c.args.rows.now c.args.out.now (omega arith) (written_as (rw c.from-number.ensures at c.write_refused-end.ensures) (refusal_listed c.args.text.now c.args.limits c.args.rows.now left e)) left

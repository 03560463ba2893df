-- `sort_of` meets its contract: a symbol of the table has its row's output, another one none.
use native.Mathlib.Omega.{arith}
use mathlib.Core.Path.{◌≡◌, sym, ap, ◌∙◌}
use Prim.Native.Nat.{◌<◌, ◌≤◌}
use lib.ListN.{length}
use borrow.Author.Tests.{ltb-true}
use Rattle.names.specs.Symbols.{Symbol, row_at}
use Rattle.names.specs.SearchLaws.{get_d_any}
use Rattle.forward_calls.proofs.Tables.{output_at, symbol_past}
use Rattle.expressions.proofs.nodes.sort_of.Goals as goal

pub returns-in-Some : goal.returns-in-Some
returns-in-Some c =
    let rows = c.args.symbols.now in
    let l : c.symbol_of.result < length rows = ltb-true _ _ (sym c.in-Some.ensures.lookup.0) in
    let e : c.in-Some.row.now ≡ row_at rows c.symbol_of.result = c.in-Some.ensures.lookup.1 ∙ get_d_any rows _ _ _ l in
    λ text. rw (← c.symbol_of.ensures, e) (sym (output_at text rows (length rows) (omega arith) _ l))

pub returns-in-None : goal.returns-in-None
returns-in-None c =
    let rows = c.args.symbols.now in
    let l : length rows ≤ c.symbol_of.result = search (arith, c.in-None.ensures.lookup.0) in
    λ text. rw (← c.symbol_of.ensures) (sym (ap (λ (f : Symbol). f.output) (symbol_past text rows (length rows) (omega arith) _ l)))

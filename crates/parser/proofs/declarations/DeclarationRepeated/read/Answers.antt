-- A declaration is read as its contract says.
use mathlib.Core.Path.{refl}
use native.Mathlib.Omega.{arith}
use Rattle.parser.specs.Rows.{declared_rows}
use Rattle.term_parser.proofs.Readers.{none_there}
use Rattle.parser.proofs.DeclarationLaws.{declared, no_declaration}
use Rattle.parser.proofs.declarations.DeclarationRepeated.read.Goals as goal

pub returns-then-from-input : goal.returns-then-from-input
returns-then-from-input c =
    let args = c.args in
    none_there 1 declared_rows _ args.input.tokens.now args.from.at args.from.used args.out.now (no_declaration args.input.text.now args.input.tokens.now args.from.at (let e = c.if-from-input.true in omega (arith, e)))

pub returns : goal.returns
returns c =
    let h = c.requires.here in
    let n = c.if-from-input.false in
    rw c.present.ensures (declared c.args.input.text.now c.args.input.tokens.now c.args.from.at (omega (arith, h, n)) c.peek-t.ensures _ refl c.body.ensures)

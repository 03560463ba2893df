-- `callee` meets its contract: the symbol that is found, or none, is what the row calls if its mark is a function's.
use Rattle.std.proofs.Common.{List, ℕ, sym, ◌∙◌}
use Rattle.source_text.specs.Parts.{part_of}
use Rattle.names.specs.Symbols.{column}
use Rattle.flattening.proofs.SymbolLaws.{callee_unknown, callee_other, callee_found}
use Rattle.flattening.proofs.callee.Goals as goal

-- The name of a row.
abbrev name : List ℕ → List ℕ → List ℕ
name text row = part_of text (column row 1) (column row 2)

pub returns-in_err-i : goal.returns-in_err-i
returns-in_err-i c =
    c.from_residual.ensures
    ∙ callee_unknown c.args.source.text.now c.args.source.symbols.now (column c.args.row.now 0) (name c.args.source.text.now c.args.row.now) c.if-row-eq-METAVARIABLE.false c.if-row-eq-NUMERAL.false
    (sym c.in_err-i.was ∙ rw (c.part-name.ensures, c.behind_kind.ensures) at c.find.ensures)

pub returns-then-source-i-ne-FUNCTION : goal.returns-then-source-i-ne-FUNCTION
returns-then-source-i-ne-FUNCTION c =
    callee_other c.args.source.text.now c.args.source.symbols.now (column c.args.row.now 0) (name c.args.source.text.now c.args.row.now) c.if-row-eq-METAVARIABLE.false c.if-row-eq-NUMERAL.false
    (sym c.in_ok-i.was ∙ rw (c.part-name.ensures, c.behind_kind.ensures) at c.find.ensures) c.if-source-i-ne-FUNCTION.true

pub returns : goal.returns
returns c =
    callee_found c.args.source.text.now c.args.source.symbols.now (column c.args.row.now 0) (name c.args.source.text.now c.args.row.now) c.if-row-eq-METAVARIABLE.false c.if-row-eq-NUMERAL.false
    (sym c.in_ok-i.was ∙ rw (c.part-name.ensures, c.behind_kind.ensures) at c.find.ensures) c.if-source-i-ne-FUNCTION.false

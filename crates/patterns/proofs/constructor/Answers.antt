-- `constructor` meets its contract: a symbol with an output.
use mathlib.Core.Path.{sym, ◌∙◌}
use lib.ListN.{length}
use native.Mathlib.Omega.{arith}
use Rattle.names.specs.UsedLaws.{some_symbol, no_symbol}
use Rattle.patterns.proofs.Numerals.{is_told, is_nothing}
use Rattle.patterns.proofs.constructor.Goals as goal

pub returns-in_err-i : goal.returns-in_err-i
returns-in_err-i c =
    let l = no_symbol c.args.text.now c.args.symbols.now c.args.w.now (sym c.in_err-i.was ∙ c.find.ensures) in
    c.from_residual.ensures ∙ is_nothing c.args.text.now c.args.symbols.now (length c.args.symbols.now) (omega arith) c.args.w.now l

pub returns : goal.returns
returns c =
    let (e, l) = some_symbol c.args.text.now c.args.symbols.now c.args.w.now c.in_ok-i.i (sym c.in_ok-i.was ∙ c.find.ensures) in
    c.then_some.ensures ∙ is_told c.args.text.now c.args.symbols.now (length c.args.symbols.now) (omega arith) c.args.w.now c.in_ok-i.i e l

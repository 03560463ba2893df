-- `check_symbol` meets its contract: one law for each way out.
use Rattle.std.proofs.Common.{length, arith, le_refl}
use Rattle.patterns.proofs.Terms.{symbols_length}
use Rattle.loader.proofs.EntryLaws.{symbol_new, symbol_full}
use Rattle.loader.proofs.check_symbol.Goals as goal

pub returns-then-count-lt-SYMBOLS : goal.returns-then-count-lt-SYMBOLS
returns-then-count-lt-SYMBOLS c =
    let k = c.args.known in
    let long = symbols_length k.text.now k.symbols.now (length k.symbols.now) (le_refl _) in
    symbol_new _ _ _ c.is_taken.ensures c.if-is_taken.false c.args.k c.if-k.false (omega (arith, long, c.if-count-lt-SYMBOLS.true))

pub returns : goal.returns
returns c =
    let k = c.args.known in
    let long = symbols_length k.text.now k.symbols.now (length k.symbols.now) (le_refl _) in
    (symbol_full _ _ _ c.is_taken.ensures c.if-is_taken.false c.args.k c.if-k.false (omega (arith, long, c.if-count-lt-SYMBOLS.false)), omega arith)

-- `find` meets its contract: each number is that of the constructor with its name.
use native.Mathlib.Omega.{arith}
use Rattle.names.specs.Symbols.{symbols_of}
use lib.ListN.{length}
use Rattle.patterns.specs.Patterns.{zero_name, succ_name}
use Rattle.patterns.proofs.Terms.{symbols_length}
use Rattle.patterns.proofs.Numerals.{constructor_at}
use Rattle.patterns.proofs.numeral_symbols.NumeralSymbols.find.Goals as goal

pub invariant_of-result : goal.invariant_of-result
invariant_of-result c =
    let s = c.args.symbols.now in
    let symbols = symbols_of c.args.text.now s (length s) in
    let e = symbols_length c.args.text.now s (length s) (omega arith) in
    let z = constructor_at symbols zero_name c.in_ok-zero.zero c.constructor.result c.constructor.ensures c.in_ok-zero.ensures.value in
    let y = constructor_at symbols succ_name c.in_ok-succ.succ c.constructor-2.result c.constructor-2.ensures c.in_ok-succ.ensures.value in
    record { inside = (rw e at z.2, rw e at y.2) }

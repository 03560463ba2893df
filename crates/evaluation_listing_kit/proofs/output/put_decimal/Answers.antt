-- `put_decimal` meets its contract: a number has at most ten digits.
use Rattle.byte_output.specs.NumeralLaws.{numeral_short}
use Rattle.byte_output.specs.OutputLaws.{length_kept}
use native.Mathlib.Omega.{arith}
use Rattle.evaluation_listing_kit.proofs.output.put_decimal.Goals as goal

pub write_decimal-requires : goal.write_decimal-requires
write_decimal-requires c = let h = numeral_short c.args.number in omega arith

pub returns-clause-moved : goal.returns-clause-moved
returns-clause-moved c =
    let h = numeral_short c.args.number in
    let p = c.write_decimal.ensures.written.place in
    let k = length_kept c.write_decimal.ensures in
    (omega arith, k)

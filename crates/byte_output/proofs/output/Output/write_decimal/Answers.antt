-- `write_decimal` meets its contract: the library's digits are the number in decimal.
use native.Mathlib.Omega.{arith}
use mathlib.Core.Path.{◌≡◌, ◌∙◌}
use Rattle.byte_output.specs.Output.{numeral}
use Rattle.byte_output.specs.OutputLaws.{said_as}
use Rattle.byte_output.specs.NumeralLaws.{numeral_decimal}
use Rattle.byte_output.proofs.output.Output.write_decimal.Goals as goal

pub write-requires : goal.write-requires
write-requires c =
    let e : c.as_bytes.result.now ≡ numeral c.args.number = c.as_bytes.ensures.value ∙ c.format.ensures.text ∙ numeral_decimal c.args.number (omega arith) in
    rw e c.requires

pub returns : goal.returns
returns c = said_as c.write.ensures (c.as_bytes.ensures.value ∙ c.format.ensures.text ∙ numeral_decimal c.args.number (omega arith))

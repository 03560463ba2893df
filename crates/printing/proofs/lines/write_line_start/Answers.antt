use Rattle.std.proofs.Common.{arith, [], ◌∷◌, ◌++◌}
use Rattle.byte_output.specs.Output.{numeral}
use Rattle.byte_output.specs.OutputLaws.{room_left, written_on}
use Rattle.printing.specs.Terms.{space}
use Rattle.printing.proofs.lines.write_line_start.Goals as goal

pub write_byte-requires : goal.write_byte-requires
write_byte-requires c =
    let last = room_left c.write_decimal.ensures (space ∷ []) (room_left c.write.ensures (numeral c.args.line ++ (space ∷ [])) c.requires) in
    omega arith

pub returns : goal.returns
returns c = written_on c.write.ensures (written_on c.write_decimal.ensures c.write_byte.ensures)

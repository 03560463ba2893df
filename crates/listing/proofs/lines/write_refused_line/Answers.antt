-- `write_refused_line` meets its contract: each part stands behind the one before, and there is room for it.
use mathlib.Core.List.{◌++◌}
use native.Mathlib.Omega.{arith}
use Rattle.byte_output.specs.Output.{numeral}
use Rattle.byte_output.specs.OutputLaws.{room_first, room_left, written_on}
use Rattle.listing.specs.Listing.{refused_word, line_word, line_end}
use Rattle.listing.proofs.lines.write_refused_line.Goals as goal

pub write-requires : goal.write-requires
write-requires c = room_first refused_word (numeral c.args.number ++ (line_word ++ (numeral c.args.line ++ line_end))) _ _ c.requires

pub write_decimal-requires : goal.write_decimal-requires
write_decimal-requires c =
    let number = numeral c.args.number in
    let line = numeral c.args.line in
    let room = room_left c.write.ensures (number ++ (line_word ++ (line ++ line_end))) c.requires in
    room_first number (line_word ++ (line ++ line_end)) _ _ room

pub write-requires-2 : goal.write-requires-2
write-requires-2 c =
    let number = numeral c.args.number in
    let line = numeral c.args.line in
    let room = room_left c.write.ensures (number ++ (line_word ++ (line ++ line_end))) c.requires in
    room_first line_word (line ++ line_end) _ _ (room_left c.write_decimal.ensures (line_word ++ (line ++ line_end)) room)

pub write_decimal-requires-2 : goal.write_decimal-requires-2
write_decimal-requires-2 c =
    let number = numeral c.args.number in
    let line = numeral c.args.line in
    let room = room_left c.write.ensures (number ++ (line_word ++ (line ++ line_end))) c.requires in
    let after = room_left c.write_decimal.ensures (line_word ++ (line ++ line_end)) room in
    room_first line line_end _ _ (room_left c.write-2.ensures (line ++ line_end) after)

pub write_byte-requires : goal.write_byte-requires
write_byte-requires c =
    let number = numeral c.args.number in
    let line = numeral c.args.line in
    let room = room_left c.write.ensures (number ++ (line_word ++ (line ++ line_end))) c.requires in
    let after = room_left c.write_decimal.ensures (line_word ++ (line ++ line_end)) room in
    let last = room_left c.write_decimal-2.ensures line_end (room_left c.write-2.ensures (line ++ line_end) after) in
    omega arith

pub returns : goal.returns
returns c = written_on c.write.ensures (written_on c.write_decimal.ensures (written_on c.write-2.ensures (written_on c.write_decimal-2.ensures c.write_byte.ensures)))

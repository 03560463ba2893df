-- `write_token` meets its contract: each part stands behind the one before, and there is room for it.
use lib.ListN.{get_or}
use mathlib.Core.List.{◌++◌}
use native.Mathlib.Omega.{arith}
use Rattle.source_text.specs.Parts.{part_of}
use Rattle.byte_output.specs.OutputLaws.{room_first, room_left, written_on, said_as}
use Rattle.listing.specs.Listing.{kind_word, line_end}
use Rattle.listing.proofs.lines.write_token.Goals as goal

pub write-requires : goal.write-requires
write-requires c =
    let kind = kind_word (get_or c.args.row 0 0) in
    let token = part_of c.args.text.now (get_or c.args.row 1 0) (get_or c.args.row 2 0) in
    let room = room_left c.write_decimal.ensures (kind ++ (token ++ line_end)) c.requires in
    rw c.kind_word.ensures (room_first kind (token ++ line_end) _ _ room)

pub write-requires-2 : goal.write-requires-2
write-requires-2 c =
    let kind = kind_word (get_or c.args.row 0 0) in
    let token = part_of c.args.text.now (get_or c.args.row 1 0) (get_or c.args.row 2 0) in
    let room = room_left c.write_decimal.ensures (kind ++ (token ++ line_end)) c.requires in
    rw c.word.ensures (room_first token line_end _ _ (room_left (said_as c.write.ensures c.kind_word.ensures) (token ++ line_end) room))

pub write_byte-requires : goal.write_byte-requires
write_byte-requires c =
    let kind = kind_word (get_or c.args.row 0 0) in
    let token = part_of c.args.text.now (get_or c.args.row 1 0) (get_or c.args.row 2 0) in
    let room = room_left c.write_decimal.ensures (kind ++ (token ++ line_end)) c.requires in
    let last = room_left (said_as c.write-2.ensures c.word.ensures) line_end (room_left (said_as c.write.ensures c.kind_word.ensures) (token ++ line_end) room) in
    omega arith

pub returns : goal.returns
returns c = written_on c.write_decimal.ensures (written_on (said_as c.write.ensures c.kind_word.ensures) (written_on (said_as c.write-2.ensures c.word.ensures) c.write_byte.ensures))

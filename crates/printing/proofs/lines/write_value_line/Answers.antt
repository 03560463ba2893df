use Rattle.std.proofs.Common.{arith, ◌++◌}
use Rattle.byte_output.specs.OutputLaws.{room_first, room_left, written_on}
use Rattle.listing.specs.Listing.{line_end}
use Rattle.printing.specs.Terms.{term_bytes}
use Rattle.printing.specs.Listing.{value_word}
use Rattle.printing.specs.Stored.{term_in}
use Rattle.printing.specs.Written.{symbols_in}
use Rattle.printing.proofs.lines.write_value_line.Goals as goal

pub write-requires : goal.write-requires
write-requires c =
    let term = term_bytes (symbols_in c.args.printed) (term_in c.args.printed c.args.reference) in
    room_first value_word (term ++ line_end) _ _ (room_left c.write_line_start.ensures (value_word ++ (term ++ line_end)) c.requires.room)

pub write_term-requires-clause-room : goal.write_term-requires-clause-room
write_term-requires-clause-room c =
    let term = term_bytes (symbols_in c.args.printed) (term_in c.args.printed c.args.reference) in
    let room = room_left c.write_line_start.ensures (value_word ++ (term ++ line_end)) c.requires.room in
    room_first term line_end _ _ (room_left c.write.ensures (term ++ line_end) room)

pub write_byte-requires : goal.write_byte-requires
write_byte-requires c =
    let term = term_bytes (symbols_in c.args.printed) (term_in c.args.printed c.args.reference) in
    let room = room_left c.write_line_start.ensures (value_word ++ (term ++ line_end)) c.requires.room in
    let last = room_left c.write_term.ensures line_end (room_left c.write.ensures (term ++ line_end) room) in
    omega arith

pub returns : goal.returns
returns c = written_on c.write_line_start.ensures (written_on c.write.ensures (written_on c.write_term.ensures c.write_byte.ensures))

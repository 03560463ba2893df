use Rattle.std.proofs.Common.{arith, ◌++◌}
use Rattle.byte_output.specs.OutputLaws.{room_first, room_left, written_on}
use Rattle.listing.specs.Listing.{line_end}
use Rattle.printing.specs.Lines.{verdict_word}
use Rattle.printing.proofs.lines.write_verdict_line.Goals as goal

pub write_verdict-requires : goal.write_verdict-requires
write_verdict-requires c =
    let word = verdict_word c.args.verdict in
    room_first word line_end _ _ (room_left c.write_line_start.ensures (word ++ line_end) c.requires)

pub write_byte-requires : goal.write_byte-requires
write_byte-requires c =
    let word = verdict_word c.args.verdict in
    let last = room_left c.write_verdict.ensures line_end (room_left c.write_line_start.ensures (word ++ line_end) c.requires) in
    omega arith

pub returns : goal.returns
returns c = written_on c.write_line_start.ensures (written_on c.write_verdict.ensures c.write_byte.ensures)

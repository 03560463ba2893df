use Rattle.std.proofs.Common.{arith, ◌+◌, ◌≤◌, ◌∷◌, ◌++◌, length}
use Rattle.arena.specs.Rows.{one_more}
use Rattle.byte_output.specs.Output.{numeral}
use Rattle.byte_output.specs.OutputLaws.{room_left, written_on, said_as}
use Rattle.printing.proofs.LineLaws.{clause_is}
use Rattle.printing.proofs.lines.write_rule_name.Goals as goal

pub write_byte-requires : goal.write_byte-requires
write_byte-requires c =
    let e = clause_is c.args.text.now c.args.row.now c.part.ensures c.at_start.ensures (one_more c.in-Some.ensures) c.requires.short in
    let room : c.args.out.now.at + length (c.part.result.now ++ (46 ∷ numeral c.in-Some.clause)) ≤ length c.args.out.now.bytes.now = rw e c.requires.room in
    let left = room_left c.write.ensures (46 ∷ numeral c.in-Some.clause) room in
    omega arith

pub write_decimal-requires : goal.write_decimal-requires
write_decimal-requires c =
    let e = clause_is c.args.text.now c.args.row.now c.part.ensures c.at_start.ensures (one_more c.in-Some.ensures) c.requires.short in
    let room : c.args.out.now.at + length (c.part.result.now ++ (46 ∷ numeral c.in-Some.clause)) ≤ length c.args.out.now.bytes.now = rw e c.requires.room in
    room_left c.write_byte.ensures (numeral c.in-Some.clause) (room_left c.write.ensures (46 ∷ numeral c.in-Some.clause) room)

pub returns-in-Some : goal.returns-in-Some
returns-in-Some c =
    said_as (written_on c.write.ensures (written_on c.write_byte.ensures c.write_decimal.ensures))
    (clause_is c.args.text.now c.args.row.now c.part.ensures c.at_start.ensures (one_more c.in-Some.ensures) c.requires.short)

use Rattle.std.proofs.Common.{arith}
use Rattle.printing.proofs.Turns.{nothing_yet, piece_room, next_written, all_written}
use Rattle.printing.proofs.writing.write_term.Goals as goal

pub loop-piece-init : goal.loop-piece-init
loop-piece-init c = nothing_yet _ c.new-walk.ensures (let s = c.requires.small in let r = c.requires.rows in omega arith)

pub write_piece-requires-clause-room : goal.write_piece-requires-clause-room
write_piece-requires-clause-room c = piece_room c.loop-piece.invariant c.in-Some.ensures c.requires.room

pub loop-piece-preserved : goal.loop-piece-preserved
loop-piece-preserved c = next_written c.loop-piece.invariant c.in-Some.ensures c.write_piece.ensures

pub returns : goal.returns
returns c = all_written c.loop-piece.invariant c.in_default.ensures

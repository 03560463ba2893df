use Rattle.std.proofs.Common.{arith, get_or, [], ◌∷◌, ◌++◌}
use Rattle.byte_output.specs.Output.{numeral}
use Rattle.byte_output.specs.OutputLaws.{room_first, room_left, written_on, said_as}
use Rattle.listing.specs.Listing.{line_end}
use Rattle.printing.specs.Lines.{rule_names}
use Rattle.printing.specs.Stored.{term_in}
use Rattle.printing.specs.Terms.{space, term_bytes}
use Rattle.printing.specs.Written.{symbols_in}
use Rattle.printing.proofs.LineLaws.{rule_named}
use Rattle.printing.proofs.lines.write_node_line.Goals as goal

pub write_decimal-requires : goal.write_decimal-requires
write_decimal-requires c =
    let name = get_or (rule_names c.args.printed.text.now c.args.rules.now) (get_or c.args.row 2 0) [] in
    let term = term_bytes (symbols_in c.args.printed) (term_in c.args.printed (get_or c.args.row 3 0)) in
    room_first (numeral (get_or c.args.row 0 0)) ((space ∷ []) ++ (name ++ ((space ∷ []) ++ (term ++ line_end)))) _ _ c.requires.room

pub write_byte-requires : goal.write_byte-requires
write_byte-requires c =
    let name = get_or (rule_names c.args.printed.text.now c.args.rules.now) (get_or c.args.row 2 0) [] in
    let term = term_bytes (symbols_in c.args.printed) (term_in c.args.printed (get_or c.args.row 3 0)) in
    let room = room_left c.write_decimal.ensures ((space ∷ []) ++ (name ++ ((space ∷ []) ++ (term ++ line_end)))) c.requires.room in
    let first = room_first (space ∷ []) (name ++ ((space ∷ []) ++ (term ++ line_end))) _ _ room in
    omega arith

pub write_rule_name-requires-clause-room : goal.write_rule_name-requires-clause-room
write_rule_name-requires-clause-room c =
    let name = get_or (rule_names c.args.printed.text.now c.args.rules.now) (get_or c.args.row 2 0) [] in
    let term = term_bytes (symbols_in c.args.printed) (term_in c.args.printed (get_or c.args.row 3 0)) in
    let room = room_left c.write_decimal.ensures ((space ∷ []) ++ (name ++ ((space ∷ []) ++ (term ++ line_end)))) c.requires.room in
    rw (rule_named c.args.printed.text.now c.args.rules.now (get_or c.args.row 2 0) c.requires.rule.known)
    (room_first name ((space ∷ []) ++ (term ++ line_end)) _ _ (room_left c.write_byte.ensures (name ++ ((space ∷ []) ++ (term ++ line_end))) room))

pub write_byte-requires-2 : goal.write_byte-requires-2
write_byte-requires-2 c =
    let name = get_or (rule_names c.args.printed.text.now c.args.rules.now) (get_or c.args.row 2 0) [] in
    let term = term_bytes (symbols_in c.args.printed) (term_in c.args.printed (get_or c.args.row 3 0)) in
    let named = said_as c.write_rule_name.ensures (rule_named c.args.printed.text.now c.args.rules.now (get_or c.args.row 2 0) c.requires.rule.known) in
    let room = room_left c.write_decimal.ensures ((space ∷ []) ++ (name ++ ((space ∷ []) ++ (term ++ line_end)))) c.requires.room in
    let after = room_left named ((space ∷ []) ++ (term ++ line_end)) (room_left c.write_byte.ensures (name ++ ((space ∷ []) ++ (term ++ line_end))) room) in
    let first = room_first (space ∷ []) (term ++ line_end) _ _ after in
    omega arith

pub write_term-requires-clause-room : goal.write_term-requires-clause-room
write_term-requires-clause-room c =
    let name = get_or (rule_names c.args.printed.text.now c.args.rules.now) (get_or c.args.row 2 0) [] in
    let term = term_bytes (symbols_in c.args.printed) (term_in c.args.printed (get_or c.args.row 3 0)) in
    let named = said_as c.write_rule_name.ensures (rule_named c.args.printed.text.now c.args.rules.now (get_or c.args.row 2 0) c.requires.rule.known) in
    let room = room_left c.write_decimal.ensures ((space ∷ []) ++ (name ++ ((space ∷ []) ++ (term ++ line_end)))) c.requires.room in
    let after = room_left named ((space ∷ []) ++ (term ++ line_end)) (room_left c.write_byte.ensures (name ++ ((space ∷ []) ++ (term ++ line_end))) room) in
    room_first term line_end _ _ (room_left c.write_byte-2.ensures (term ++ line_end) after)

pub write_byte-requires-3 : goal.write_byte-requires-3
write_byte-requires-3 c =
    let name = get_or (rule_names c.args.printed.text.now c.args.rules.now) (get_or c.args.row 2 0) [] in
    let term = term_bytes (symbols_in c.args.printed) (term_in c.args.printed (get_or c.args.row 3 0)) in
    let named = said_as c.write_rule_name.ensures (rule_named c.args.printed.text.now c.args.rules.now (get_or c.args.row 2 0) c.requires.rule.known) in
    let room = room_left c.write_decimal.ensures ((space ∷ []) ++ (name ++ ((space ∷ []) ++ (term ++ line_end)))) c.requires.room in
    let after = room_left named ((space ∷ []) ++ (term ++ line_end)) (room_left c.write_byte.ensures (name ++ ((space ∷ []) ++ (term ++ line_end))) room) in
    let last = room_left c.write_term.ensures line_end (room_left c.write_byte-2.ensures (term ++ line_end) after) in
    omega arith

pub returns : goal.returns
returns c =
    let named = said_as c.write_rule_name.ensures (rule_named c.args.printed.text.now c.args.rules.now (get_or c.args.row 2 0) c.requires.rule.known) in
    written_on c.write_decimal.ensures (written_on c.write_byte.ensures (written_on named (written_on c.write_byte-2.ensures (written_on c.write_term.ensures c.write_byte-3.ensures))))

-- `are_places_distinct` meets its contract: the words at the places that are written are those of the names.
use Rattle.std.proofs.Common.{◌≤◌, length, arith}
use Rattle.names.specs.UsedLaws.{sorts_used}
use Rattle.session_check.proofs.Laws.{places_distinct}
use Rattle.session_check.proofs.naming.are_places_distinct.Goals as goal

pub returns : goal.returns
returns c =
    let places = c.put_parts.new.parts in
    let n = length c.args.names.now in
    let lent : n ≤ length places = omega (arith, c.requires, c.put_parts.auto.parts) in
    places_distinct c.args.text.now c.args.names.now places n lent c.put_parts.ensures (rw (sorts_used places n lent c.args.text.now) at c.are_distinct_by_merging.ensures)

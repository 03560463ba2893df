-- `build` meets its contract: a node that fits is written behind the words in use.
use Rattle.expressions.proofs.Building.{build_refused, build_done}
use Rattle.expressions.proofs.nodes.build.Goals as goal

pub returns-then-room-count : goal.returns-then-room-count
returns-then-room-count c = build_refused c.requires c.if-room-count.true

pub returns : goal.returns
returns c = build_done c.requires c.if-room-count.false (rw c.header_of-header.ensures at c.push_node.ensures)

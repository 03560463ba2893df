-- `goal_header` meets its contract: the header of the node that the goal leads to, or none.
use Rattle.search_machine.specs.ChoosingLaws.{heads_some}
use Rattle.search_machine.proofs.candidates.goal_header.Goals as goal

pub returns : goal.returns
returns c =
    let l = rw c.requires.room at c.in_ok-node.ensures in
    rw (c.header.ensures, c.requires.room) (heads_some l.1 l.0)

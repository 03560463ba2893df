-- `bind` meets its contract: a variable takes the value or is compared with it, and a node is matched.
use Rattle.clause_matching.proofs.PatternOf.{in_storage, variable_is, node_is}
use Rattle.clause_matching.proofs.BindTurns.{read_waits}
use Rattle.clause_matching.proofs.Variables.{variable_matched}
use Rattle.clause_matching.proofs.matching.bind.Goals as goal

pub pattern_at-requires : goal.pattern_at-requires
pattern_at-requires c = in_storage c.requires.patterned

pub take-requires : goal.take-requires
take-requires c =
    let (v, e) = variable_is _ _ c.pattern_at.ensures _ c.in-Variable.is in
    rw e (v, c.requires.lent)

pub bind_node-requires : goal.bind_node-requires
bind_node-requires c =
    let (v, h, f) = node_is _ _ c.pattern_at.ensures _ _ c.in-Node.is in
    let (w, e) = read_waits c.args.pattern.now v h f in
    (w.0, w.1, rw e c.requires)

pub returns-in-Variable : goal.returns-in-Variable
returns-in-Variable c =
    let (v, e) = variable_is _ _ c.pattern_at.ensures _ c.in-Variable.is in
    variable_matched c.args.pattern.now c.args.reference v (rw e at c.take.ensures)

pub returns-in-Node : goal.returns-in-Node
returns-in-Node c =
    let (v, h, f) = node_is _ _ c.pattern_at.ensures _ _ c.in-Node.is in
    let (w, e) = read_waits c.args.pattern.now v h f in
    rw e at c.bind_node.ensures

-- `is_node_of` meets its contract: a node is one of its header's symbol, and a variable is none.
use Rattle.signature.proofs.ClauseLaws.{node_by}
use Rattle.signature.proofs.functions.is_node_of.Goals as goal

pub returns : goal.returns
returns c = rw c.eq.ensures (node_by c.args.words.now c.args.reference c.node_symbol.result c.args.i c.node_symbol.ensures)

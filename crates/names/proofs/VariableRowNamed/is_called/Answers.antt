-- A variable is called by its name.
use Rattle.names.specs.Names.{name_in}
use Rattle.names.proofs.VariableRowNamed.is_called.Goals as goal

pub returns : goal.returns
unfolding name_in
returns c = rw c.behind_kind.ensures at c.is_named.ensures

-- `all_known` meets its contract: the chain's test is the definition's of each row.
use Rattle.std.proofs.Common.{nat_lt}
use Rattle.std.proofs.lemmas.Iterator.Search.{all_from_yields_List}
use Rattle.std.proofs.lemmas.Iterator.{YieldsList-from_slice}
use mathlib.Core.Path.{refl}
use Rattle.names.specs.Symbols.{column}
use Rattle.rules.proofs.all_known.Goals as goal

pub returns : goal.returns
returns c = all_from_yields_List (λ row. nat_lt 0 (column row 3)) _ _ c.all.result c.all.ensures.ran (YieldsList-from_slice c.args.variables.now cc) (λ x b q e. (refl, search e.met))

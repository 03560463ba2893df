-- `put_constants` meets its contract.
use mathlib.Core.Path.{ap, ◌∙◌}
use lib.ListN.{set}
use Rattle.samples.proofs.build.put_constants.Goals as goal

pub returns : goal.returns
returns c = c.put-2.ensures ∙ ap (λ l. set l 1 1048672) c.put.ensures

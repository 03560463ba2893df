-- `size` meets its contract: by the capped limit.
use Prim.Native.Nat.{◌+◌, ◌*◌}
use mathlib.Core.Path.{ap}
use Rattle.listing.proofs.size.Goals as goal

pub returns : goal.returns
returns c = ap (λ l. 35 + 26 * l.text) (c.capped.ensures)

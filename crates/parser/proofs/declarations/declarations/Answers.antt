-- `declarations` meets its contract.
use Prim.Native.Nat.{zero-le}
use Rattle.parser.specs.Declarations.{parse_of}
use Rattle.parser.proofs.declarations.declarations.Goals as goal

pub all-requires : goal.all-requires
all-requires c = record { here = zero-le; below = zero-le; lent = c.requires.0; small = c.requires.1 }

pub returns : goal.returns
unfolding parse_of
returns c = c.all.ensures.list

use Rattle.std.proofs.Common.{refl}
use Rattle.printing.proofs.walk.Walk.new.Goals as goal

pub returns : goal.returns
returns c = record { printed = refl; rows = refl; depth = refl; left = refl }

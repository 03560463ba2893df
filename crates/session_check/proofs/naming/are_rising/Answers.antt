-- `are_rising` meets its contract: each variable is compared with the next.
use lib.Dec.{ltb}
use mathlib.Core.Path.{refl}
use Rattle.std.proofs.lemmas.Fn.{always_returns_same}
use Rattle.names.specs.Symbols.{column}
use Rattle.session_check.proofs.Laws.{rising_told}
use Rattle.session_check.proofs.naming.are_rising.Goals as goal

pub returns : goal.returns
returns c = rising_told c.args.names.now _
    (c.is_sorted_by.ensures.cases (λ x y. ltb (column x 4) (column y 4)) (always_returns_same _ _ _ (λ a r q k. (search k.met, refl))))

-- `are_zero` meets its contract: what was or-ed together is that of all rows.
use Rattle.std.specs.Int.Bits.{bit_or}
use Rattle.std.specs.List.{fold}
use Rattle.std.proofs.Common.{rules, arith}
use Rattle.std.proofs.lemmas.Iterator.{YieldsList-from_slice}
use Rattle.std.proofs.lemmas.Iterator.Consumers.{fold_from_yields_List}
use Rattle.checks.proofs.Laws.{joined_all}
use Rattle.checks.proofs.zeros.are_zero.Goals as goal

pub returns : goal.returns
returns g c =
    joined_all (omega arith)
    (fold_from_yields_List _ (fold bit_or) 0 _ c.fold.ensures.ran (YieldsList-from_slice _ c.iter.ensures.rest) (λ a x b q k. (search rules, search rules)))

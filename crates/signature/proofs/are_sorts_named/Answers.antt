-- `are_sorts_named` meets its contract: each row is asked whether it has its name in the text.
use mathlib.Core.List.{[]}
use Rattle.std.proofs.Common.{rules}
use Rattle.std.proofs.lemmas.Iterator.{YieldsList-from_slice}
use Rattle.names.specs.Symbols.{column}
use Rattle.names.specs.NamePlaces.{NamePlace}
use Rattle.signature.proofs.Laws.{all_tell}
use Rattle.signature.proofs.are_sorts_named.Goals as goal

pub returns : goal.returns
returns c = all_tell (λ row. NamePlace c.args.text.now (column row 0) (column row 1)) [] _ _ c.all.result c.all.ensures.ran (YieldsList-from_slice c.args.sorts.now cc) (λ x b q e. (search rules, search rules))

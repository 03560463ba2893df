-- `are_all` meets its contract: the chain's test is whether an item is the value.
use Rattle.std.proofs.lemmas.Iterator.Search.{all_from_yields_List}
use Rattle.std.proofs.lemmas.Iterator.{YieldsList-from_slice}
use Rattle.std.proofs.lemmas.List.{take_all}
use Rattle.std.proofs.Common.{rules, ◌-◌, ◌&&◌, drop, length}
use Rattle.std.specs.List.{list_all}
use mathlib.Core.Path.{sym, ap, ◌∙◌}
use lib.ListN.{length-drop}
use borrow.Author.Tests.{le-leb}
use native.Mathlib.Omega.{arith}
use Rattle.slices.proofs.are_all.Goals as goal

pub returns-then-from-items : goal.returns-then-from-items
returns-then-from-items g c =
    let rest = drop c.args.from c.args.items.now in
    all_from_yields_List (λ item. g.T.PartialEq.eq item c.args.value) _ _ c.all.result c.all.ensures.ran (YieldsList-from_slice rest (c.iter.ensures.rest ∙ take_all (length c.args.items.now - c.args.from) rest (simp length-drop (omega arith)))) (λ x b q e. (search rules, search rules))
    ∙ sym (ap (λ b. b && list_all (λ item. g.T.PartialEq.eq item c.args.value) rest) (le-leb c.args.from (length c.args.items.now) c.if-from-items.true))

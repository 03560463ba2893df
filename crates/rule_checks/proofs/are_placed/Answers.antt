-- `are_placed` meets its contract: the chain asks of each word whether it is no variable or has a place.
use Rattle.std.proofs.Common.{rules}
use Rattle.std.proofs.lemmas.Iterator.Search.{all_from_yields_List}
use Rattle.std.proofs.lemmas.Iterator.{YieldsList-from_slice}
use Rattle.rule_checks.proofs.TableLaws.{is_placed, placed_words}
use Rattle.rule_checks.proofs.are_placed.Goals as goal

pub returns : goal.returns
returns c =
    let table = c.args.places.now.places in
    placed_words table c.args.words.now _
    (all_from_yields_List (is_placed table) _ _ c.all.result c.all.ensures.ran (YieldsList-from_slice c.args.words.now (cc)) (λ x b q e. (search (rules, e.met), search (rules, e.met))))

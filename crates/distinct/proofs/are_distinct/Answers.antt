-- `are_distinct` meets its contract: the places are sorted by their names, and neighbours are compared.
use Rattle.std.proofs.Common.{rules, is_lt, ap}
use Rattle.std.proofs.lemmas.Cmp.{nat_list_cmp_total}
use Rattle.std.proofs.lemmas.Fn.{always_returns_same}
use Rattle.std.proofs.lemmas.List.Sorted.{ranks_by}
use Rattle.names.specs.Symbols.{sort_of}
use Rattle.distinct.proofs.NeighbourLaws.{is_before, sorted_tells}
use Rattle.distinct.proofs.are_distinct.Goals as goal

pub returns : goal.returns
returns c =
    let text = c.args.text.now in
    sorted_tells text c.args.places.now c.sort_unstable_by.new.self _ c.sort_unstable_by.ensures.permutation
    (c.sort_unstable_by.ensures.sorted (is_before text) (ranks_by nat_list_cmp_total (sort_of text)) (always_returns_same _ _ _ (λ a r q k. (ap is_lt (search rules), search rules))))
    (c.is_sorted_by.ensures.cases (is_before text) (always_returns_same _ _ _ (λ a r q k. (search rules, search rules))))

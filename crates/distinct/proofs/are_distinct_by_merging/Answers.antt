-- `are_distinct_by_merging` meets its contract: names that could be sorted all differ, and where they could not, one stands twice.
use lib.ListN.{length}
use native.Mathlib.Omega.{arith}
use Rattle.distinct.proofs.SortLaws.{sorted_tells}
use Rattle.distinct.proofs.are_distinct_by_merging.Goals as goal

pub returns : goal.returns
returns c =
    let args = c.args in
    sorted_tells args.text.now args.places.now (length args.places.now) (omega arith) c.sort.ensures

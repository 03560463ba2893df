-- `put` meets its contract: what is written leaves the buffer as long as it was.
use Rattle.byte_output.specs.OutputLaws.{length_kept}
use native.Mathlib.Omega.{arith}
use Rattle.evaluation_listing_kit.proofs.output.put.Goals as goal

pub returns-clause-moved : goal.returns-clause-moved
returns-clause-moved c =
    let p = c.write.ensures.written.place in
    let k = length_kept c.write.ensures in
    (omega arith, k)

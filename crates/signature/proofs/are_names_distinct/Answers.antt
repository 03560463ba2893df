-- `are_names_distinct` meets its contract: the names at the places that are written are those of sorts and symbols together.
use Rattle.std.proofs.Common.{◌≡◌, length, arith}
use Rattle.std.proofs.lemmas.Grind.{common_steps}
use Rattle.signature.proofs.NameLaws.{names_told}
use Rattle.signature.proofs.are_names_distinct.Goals as goal

pub returns : goal.returns
returns c =
    let q : length c.put_parts.new.parts ≡ length c.args.symbols.now = let a = c.put_parts.auto.parts in grind (arith, common_steps) in
    names_told c.args.text.now c.args.sorts.now c.args.symbols.now c.copy_from_slice.new.self c.put_parts.new.parts _ _ c.copy_from_slice.ensures.after q c.put_parts.ensures c.are_distinct_by_merging.ensures

-- `are_listed` meets its contract: each symbol's clauses are tested.
use Rattle.std.proofs.Common.{rules, ◌≡◌, ◌<◌, length, get_or, arith}
use Rattle.std.specs.List.{range_with_len}
use Rattle.std.proofs.lemmas.List.FromFn.{length-range_with_len, get_or-range_with_len}
use Rattle.std.proofs.lemmas.Iterator.{YieldsList-from_range}
use Rattle.signature.specs.Parts.{ClausesOf}
use Rattle.signature.proofs.Laws.{same, all_tell}
use Rattle.signature.proofs.functions.are_listed.Goals as goal

pub returns : goal.returns
returns c =
    let symbols = c.args.symbols.now in
    let m = length symbols in
    let n = length-range_with_len 0 m in
    λ text. same
    (λ h i (l : i < m). let e : get_or (range_with_len 0 m) i 0 ≡ i = omega (arith, get_or-range_with_len 0 m i 0 l) in rw e at (h i (omega arith)))
    (λ h i (l : i < length (range_with_len 0 m)). let e : get_or (range_with_len 0 m) i 0 ≡ i = omega (arith, get_or-range_with_len 0 m i 0 (omega arith)) in rw e (h i (omega arith)))
    (all_tell (ClausesOf text symbols m c.args.rules.now c.args.words.now) 0 _ _ c.all.result c.all.ensures.ran (YieldsList-from_range 0 m m (cc) (omega arith)) (λ x b q e. (search rules, search rules)))

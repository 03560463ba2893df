-- `are_sorts` meets its contract: the chain's test is whether a column is the number of a sort.
use Rattle.std.proofs.Common.{rules, nat_lt, nat_le, ◌&&◌, ◌<◌, ◌≤◌, ltb-true, leb-true, lt-ltb, le-leb}
use Rattle.std.proofs.lemmas.Iterator.Search.{all_from_yields_List}
use Rattle.std.proofs.lemmas.Iterator.{YieldsList-from_slice}
use Rattle.std.proofs.lemmas.Bool.{and_parts}
use Rattle.rule_checks.proofs.PartLaws.{each_passes}
use Rattle.rule_checks.proofs.are_sorts.Goals as goal

pub returns : goal.returns
returns c =
    each_passes (λ x. nat_lt 0 x && nat_le x c.args.sorts) (λ x. (0 < x) × (x ≤ c.args.sorts)) (λ x e. let (a, b) = and_parts (nat_lt 0 x) (nat_le x c.args.sorts) e in (ltb-true _ _ a, leb-true _ _ b)) (λ x e. simp (lt-ltb _ _ e.0, le-leb _ _ e.1)) c.args.columns.now _
    (all_from_yields_List (λ x. nat_lt 0 x && nat_le x c.args.sorts) _ _ c.all.result c.all.ensures.ran (YieldsList-from_slice c.args.columns.now cc) (λ x b q e. (search rules, search rules)))

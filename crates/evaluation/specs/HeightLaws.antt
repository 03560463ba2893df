-- How high the trees of an evaluation are (document 01, "Evaluated terms"): a call that may nest so many calls returns a tree of at
-- most that height, so no tree of an evaluation is higher than 128.
-- Here are the definitions; the theorems about them are in proofs/HeightLaws.
use Rattle.std.specs.Prelude.{ℕ, suc, ◌≤◌, max}
use Rattle.terms.specs.Term.{Kind}
use Rattle.terms.specs.Term.Kind.{one as single}
use Rattle.resolution.specs.Rules.{Tree, node, leaf, ◌◂◌}
use Rattle.evaluation.specs.Calls.{Spent}

-- The height of a tree is one more than that of its children, and several trees have the greatest of theirs.
abbrev pub height : {s : Kind} → Tree s → ℕ
height (node r g ps) = suc (height ps)
height leaf = 0
height (p ◂ ps) = max (height p) (height ps)

-- A call's tree has a node and at most as many levels as calls may be nested.
pub record Tall (levels : ℕ) (c : Spent) (p : Tree single) (d : Spent) : Type 0 where
  pub some : 1 ≤ height p
  pub most : height p ≤ levels

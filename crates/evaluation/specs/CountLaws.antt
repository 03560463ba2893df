-- What an evaluation spends (document 01, "Evaluated terms" and 37): each call is a node of a tree that comes back, calls and words
-- only grow, and neither passes its limit.
-- Here are the definitions; the theorems about them are in proofs/CountLaws.
use Rattle.std.specs.Prelude.{ℕ, ◌+◌, ◌≤◌, ◌≡◌}
use Rattle.terms.specs.Term.{Kind}
use Rattle.resolution.specs.Rules.{Tree, node}
use Rattle.evaluation.specs.Calls.{Spent, max_calls}
use Rattle.resolution.specs.Refutations.{nodes}

-- What was spent when these trees came back: as many calls more as they have nodes, no fewer words, and no more of either than is
-- allowed if that was so before.
pub record SpentOn {s : Kind} (limit : ℕ) (c : Spent) (p : Tree s) (d : Spent) : Type 0 where
  pub calls : d.calls ≡ c.calls + nodes p
  pub words : c.words ≤ d.words
  pub few_calls : c.calls ≤ max_calls → d.calls ≤ max_calls
  pub few_words : c.words ≤ limit → d.words ≤ limit

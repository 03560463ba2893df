-- What a search stays within: its proof has no more nodes than steps were used, so a row for each step is enough to keep it; and where
-- limits are set, the counter and the words of every verdict but a refusal are within them.
use Rattle.std.specs.Prelude.{ℕ, ◌≤◌, length}
use Rattle.resolution.specs.Search.{Verdict, refusal, proved, nothing, undecided}
use Rattle.resolution.specs.Preorder.{flat}
pub use Rattle.resolution.specs.Refutations.{nodes as nodes_in}

-- A verdict, m words being in use at first, with at most `most` variables and `limit` words: a proof has no more nodes than steps were
-- used.
abbrev pub VerdictWithin : ℕ → ℕ → ℕ → Verdict → Type 0
VerdictWithin most limit m (refusal e) = Unit {0}
VerdictWithin most limit m (proved β st u c m') = (length (flat st) ≤ u) × (c ≤ most) × (m ≤ m') × (m' ≤ limit)
VerdictWithin most limit m (nothing u c) = c ≤ most
VerdictWithin most limit m (undecided u c) = c ≤ most

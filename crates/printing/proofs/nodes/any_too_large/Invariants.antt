-- The goals before the loop's place are not too large: whether one is, is up to those from there on.
use Rattle.std.proofs.Common.{◌≡◌}
use Rattle.std.specs.Prelude.{drop}
use Rattle.printing.specs.Listing.{any_too_large}
use Rattle.printing.specs.Lines.{entries_in}
use Rattle.printing.specs.Stored.{term_in}
use Rattle.printing.proofs.nodes.any_too_large.Given as goal

abbrev pub invariant-loop-row : goal.invariant-loop-row
invariant-loop-row l =
    any_too_large (entries_in (term_in l.fn.printed) l.fn.rows) ≡ any_too_large (entries_in (term_in l.fn.printed) (drop l.row-index l.fn.rows))

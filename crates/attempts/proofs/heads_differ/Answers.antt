-- `heads_differ` meets its contract: where it says so, both are nodes with different headers, and two such nodes clash.
-- There is no loop here: one way out says so, and the others say nothing.
use borrow.Author.Tests.{not-true, eqb-false}
use Rattle.attempts.specs.Clashes.{heads_clash}
use Rattle.attempts.proofs.heads_differ.Goals as goal

pub returns : goal.returns
returns c = λ e.
    let l = c.in-Some.ensures in
    let differ = eqb-false _ _ (not-true _ e) in
    heads_clash c.requires l.1 l.0 l.2 (rw (c.header.ensures, l.3) at differ)

use Rattle.std.proofs.Math.ListN.{length-set}
use Rattle.std.proofs.Common.{arith, refl}
use Rattle.arena.specs.Rows.{one_more}
use Rattle.arena.specs.Cells.{cells}
use Rattle.printing.specs.Stored.{term_in}
use Rattle.printing.proofs.WalkLaws.{goes_on, next_ahead, next_rows}
use Rattle.printing.proofs.walk.Walk.go_on.Goals as goal

-- src/pieces.rt:62:9
pub invariant_of-self-2-clause-open : goal.invariant_of-self-2-clause-open
invariant_of-self-2-clause-open c =
    next_rows c.args.self.now.stack.now (one_more c.in_ok-top.ensures) c.args.self.now.within (one_more c.in-Some.ensures) c.args.self.now.open

-- src/pieces.rt:63:9
pub invariant_of-self-3-clause-open : goal.invariant_of-self-3-clause-open
invariant_of-self-3-clause-open c =
    next_rows c.args.self.now.stack.now (one_more c.in_ok-top.ensures) c.args.self.now.within (one_more c.in-Some.ensures) c.args.self.now.open

pub invariant_of-self-3-clause-ahead : goal.invariant_of-self-3-clause-ahead
invariant_of-self-3-clause-ahead c =
    next_ahead c.args.self.now.stack.now (one_more c.in_ok-top.ensures) c.args.self.now.within (one_more c.in-Some.ensures) c.args.self.now.open

-- src/pieces.rt:51:5
pub returns : goal.returns
returns c = record {
  same = record { printed = refl; lent = refl; long = length-set _ _ _ };
  left = goes_on c.args.self.now.stack.now (one_more c.in_ok-top.ensures) c.args.self.now.within (one_more c.in-Some.ensures)
      (term_in c.args.self.now.printed) (cells c.args.self.now.printed.terms.words.now);
  reached = record { known = tt; deep = omega arith };
}

use Rattle.std.proofs.Math.ListN.{length-set}
use Rattle.std.proofs.Common.{arith, refl}
use Rattle.printing.proofs.WalkLaws.{enters_variable, at_node, enters_constant, enters_node, node_rows}
use Rattle.printing.proofs.walk.Walk.enter.Goals as goal

-- src/pieces.rt:36:13
pub returns-then-end-terms : goal.returns-then-end-terms
returns-then-end-terms c = record {
  same = record { printed = refl; lent = refl; long = refl };
  next = refl;
  left = enters_variable c.requires.printable c.walk-end.ensures _ c.if-end-terms.true;
  reached = record { known = tt; deep = omega arith };
}

-- src/pieces.rt:42:13
pub returns-then-arity-eq0 : goal.returns-then-arity-eq0
returns-then-arity-eq0 c =
    let n = at_node c.requires.printable c.walk-end.ensures c.if-end-terms.false c.header-header.ensures c.symbol_of-symbol.ensures c.arity_of-arity.ensures in
    record {
      same = record { printed = refl; lent = refl; long = refl };
      next = refl;
      left = enters_constant n _ c.if-arity-eq0.true;
      reached = record { known = n.known; deep = omega arith };
    }

-- src/pieces.rt:46:9
pub invariant_of-self-clause-open : goal.invariant_of-self-clause-open
invariant_of-self-clause-open c = node_rows
    (at_node c.requires.printable c.walk-end.ensures c.if-end-terms.false c.header-header.ensures c.symbol_of-symbol.ensures c.arity_of-arity.ensures)
    _ _ c.requires.room c.args.self.now.open

-- src/pieces.rt:26:5
pub returns : goal.returns
returns c =
    let n = at_node c.requires.printable c.walk-end.ensures c.if-end-terms.false c.header-header.ensures c.symbol_of-symbol.ensures c.arity_of-arity.ensures in
    record {
      same = record { printed = refl; lent = refl; long = length-set _ _ _ };
      next = refl;
      left = enters_node n _ _ c.requires.room (omega (arith, c.if-arity-eq0.false));
      reached = record { known = n.known; deep = omega arith };
    }

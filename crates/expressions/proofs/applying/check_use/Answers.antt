-- `check_use` meets its contract: one law for each way out.
use native.Mathlib.Omega.{arith}
use mathlib.Core.Path.{sym}
use Rattle.expressions.proofs.Applications.{misuse_predicate, no_function, no_predicate, misuse_count, misuse_none}
use Rattle.expressions.proofs.applying.check_use.Goals as goal
use Rattle.expressions.proofs.applying.check_use.Goals.{else-symbol-eq-NO_FUNCTION-via-then-symbol-eq-NO_FUNCTION+else-symbol-eq0, else-symbol-eq-NO_FUNCTION-via-else-symbol-eq-NO_FUNCTION}

pub returns-then-symbol-eq0 : goal.returns-then-symbol-eq0
returns-then-symbol-eq0 c = λ text.
    let e = misuse_predicate text c.args.symbol.now c.args.arguments c.if-symbol-eq-NO_FUNCTION.true c.if-symbol-eq0.true in
    (sym e, omega arith)

pub returns-then-wanted-arguments : goal.returns-then-wanted-arguments
returns-then-wanted-arguments c = λ text.
    let e = misuse_count text c.args.symbol.now c.args.arguments
    (elim c.else-symbol-eq-NO_FUNCTION.branch [
      | else-symbol-eq-NO_FUNCTION-via-then-symbol-eq-NO_FUNCTION+else-symbol-eq0 w ↦ no_predicate text c.args.symbol.now 0 w.if-symbol-eq0.false
      | else-symbol-eq-NO_FUNCTION-via-else-symbol-eq-NO_FUNCTION w ↦ no_function text c.args.symbol.now 0 w.if-symbol-eq-NO_FUNCTION.false
    ])
    c.if-wanted-arguments.true in
    (sym e, omega arith)

pub returns : goal.returns
returns c = λ text.
    misuse_none text c.args.symbol.now c.args.arguments
    (elim c.else-symbol-eq-NO_FUNCTION.branch [
      | else-symbol-eq-NO_FUNCTION-via-then-symbol-eq-NO_FUNCTION+else-symbol-eq0 w ↦ no_predicate text c.args.symbol.now 0 w.if-symbol-eq0.false
      | else-symbol-eq-NO_FUNCTION-via-else-symbol-eq-NO_FUNCTION w ↦ no_function text c.args.symbol.now 0 w.if-symbol-eq-NO_FUNCTION.false
    ])
    c.if-wanted-arguments.false

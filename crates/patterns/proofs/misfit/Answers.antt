-- `misfit` meets its contract: one law for each way out.
use native.Mathlib.Omega.{arith}
use mathlib.Core.Bool.{false, ◌&&◌}
use mathlib.Core.Path.{◌≡◌}
use lib.Dec.{eqb, ltb}
use Rattle.names.specs.Symbols.{column}
use Rattle.patterns.proofs.Symbols.{no_fun, no_term, misfit_22, misfit_23, misfit_21, misfit_0}
use Rattle.patterns.proofs.misfit.Goals as goal
use Rattle.patterns.proofs.misfit.Goals.{then-symbol-eq-FUNCTION+else-want-gt0, else-symbol-eq-FUNCTION}

pub returns-then-want-gt0 : goal.returns-then-want-gt0
returns-then-want-gt0 c = λ text. (misfit_22 text c.args.symbol.now c.args.want c.args.arguments c.if-symbol-eq-FUNCTION.true c.if-want-gt0.true, omega arith)

pub returns-then-symbol-want : goal.returns-then-symbol-want
returns-then-symbol-want c =
    let r = c.args.symbol.now in
    let plain : (eqb (column r 3) 1 && ltb 0 c.args.want) ≡ false = elim c.if-symbol-eq-FUNCTION.branch [ then-symbol-eq-FUNCTION+else-want-gt0 v ↦ no_term (column r 3) c.args.want v.if-want-gt0.false | else-symbol-eq-FUNCTION v ↦ no_fun (column r 3) c.args.want v.if-symbol-eq-FUNCTION.false ] in
    λ text. (misfit_23 text r c.args.want c.args.arguments plain c.if-symbol-want.true, omega arith)

pub returns-then-symbol-arguments : goal.returns-then-symbol-arguments
returns-then-symbol-arguments c =
    let r = c.args.symbol.now in
    let plain : (eqb (column r 3) 1 && ltb 0 c.args.want) ≡ false = elim c.if-symbol-eq-FUNCTION.branch [ then-symbol-eq-FUNCTION+else-want-gt0 v ↦ no_term (column r 3) c.args.want v.if-want-gt0.false | else-symbol-eq-FUNCTION v ↦ no_fun (column r 3) c.args.want v.if-symbol-eq-FUNCTION.false ] in
    λ text. (misfit_21 text r c.args.want c.args.arguments plain c.if-symbol-want.false c.if-symbol-arguments.true, omega arith)

pub returns : goal.returns
returns c =
    let r = c.args.symbol.now in
    let plain : (eqb (column r 3) 1 && ltb 0 c.args.want) ≡ false = elim c.if-symbol-eq-FUNCTION.branch [ then-symbol-eq-FUNCTION+else-want-gt0 v ↦ no_term (column r 3) c.args.want v.if-want-gt0.false | else-symbol-eq-FUNCTION v ↦ no_fun (column r 3) c.args.want v.if-symbol-eq-FUNCTION.false ] in
    λ text. misfit_0 text r c.args.want c.args.arguments plain c.if-symbol-want.false c.if-symbol-arguments.false

-- `enter_trail` meets its contract. The loop's invariant: the first i entries are entered; each is in use, bound, and none stands twice.
use Rattle.bindings.specs.Checking.{entering_start, entering_room, entering_more}
use native.Mathlib.Omega.{arith}
use Rattle.bindings.proofs.trails.enter_trail.Goals as goal

pub loop-i-init : goal.loop-i-init
loop-i-init c = entering_start c.args.bindings.rows.now _ c.args.variables c.requires.fact_2

pub enter-requires : goal.enter-requires
enter-requires c = entering_room c.loop-i.invariant (omega arith) c.if-marks-key-ne0.false c.requires.fact_1.2

pub loop-i-preserved : goal.loop-i-preserved
loop-i-preserved c =
    entering_more c.loop-i.invariant (omega arith) c.if-marks-key-ne0.false c.requires.fact_1.2 c.if-bindings-key-eq0.false _ c.enter.ensures

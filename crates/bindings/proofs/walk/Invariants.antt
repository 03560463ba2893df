-- `walk` meets its contract. The loop's invariant: from q on the values lead where they lead from r; the bindings still to meet grow fewer.
use Rattle.bindings.specs.Walking.{Walking, ahead}
use Rattle.bindings.proofs.walk.Given as goal

abbrev pub invariant-loop-q : goal.invariant-loop-q
invariant-loop-q l = Walking l.terms.room l.terms.words.now l.bindings.rows.now l.terms.variables l.terms.used l.bindings.bound l.r l.q

abbrev pub decreases-loop-q : goal.decreases-loop-q
decreases-loop-q l = ahead l.terms.room l.terms.words.now l.bindings.rows.now l.bindings.bound l.q

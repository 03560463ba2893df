-- `declare_clauses` meets its contract. The loop's invariant: the clauses before the number i are entered, and the others are left to enter from the row p on.
use mathlib.Core.Path.{refl}
use Rattle.refusals.specs.Refused.{handed_on}
use Rattle.declarations.specs.Lent.{lent_on}
use Rattle.declarations.proofs.ClauseLaws.{going_clause, going_refused, going_on, going_end}
use native.Mathlib.Omega.{arith}
use Rattle.declarations.proofs.declare_clauses.Goals as goal

pub declare_clause-requires : goal.declare_clause-requires
declare_clause-requires c =
    let loop = c.loop-i in
    let pre = c.requires in
    let g = loop.invariant.1 pre.ready.0 pre.ready.1 pre.ready.2 pre.ready.3 pre.stand.0 pre.stand.1 pre.stand.2 pre.stand.3 in
    let t = c.loop-i-test.true in
    let f = pre.few in
    let a = pre.out_lent in
    let b = pre.calls_lent in
    rw c.from_row-clause.ensures
    (record {
      short = pre.short;
      few = omega arith;
      out_lent = omega (arith, loop.invariant.0.out_long);
      calls_lent = omega (arith, loop.invariant.0.calls_long);
      ready = (pre.ready.0, g.titles, g.signature, g.ready);
      stand = going_clause g t;
    })

pub returns-in_err-progress-clause-declared : goal.returns-in_err-progress-clause-declared
returns-in_err-progress-clause-declared c =
    rw (handed_on c.from_residual.result c.from_residual.ensures.1)
    (record {
      same = λ limit ts s ready cs q st n. let g = c.loop-i.invariant.1 limit ts s ready cs q st n in
          rw (going_refused c.requires.inside (rw c.from_row-clause.ensures at c.declare_clause.ensures.declared) g c.loop-i-test.true c.in_err-progress.was) refl;
    })

pub loop-i-preserved : goal.loop-i-preserved
loop-i-preserved c =
    let loop = c.loop-i in (
      lent_on loop.invariant.0 c.declare_clause.ensures.lent,
      λ limit ts s ready cs q st e. going_on c.requires.inside (rw c.from_row-clause.ensures at c.declare_clause.ensures.declared) {next = c.in_ok-progress.progress.next} {st' = c.in_ok-progress.progress.state} (loop.invariant.1 limit ts s ready cs q st e) c.loop-i-test.true c.in_ok-progress.was,
    )

pub returns-clause-declared : goal.returns-clause-declared
returns-clause-declared c = record { same = λ limit ts s ready cs q st e. going_end (c.loop-i.invariant.1 limit ts s ready cs q st e) (omega (arith, c.loop-i-test.false)) }

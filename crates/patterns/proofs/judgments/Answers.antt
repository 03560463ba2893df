-- `judgments` meets its contract. The loop's invariant: k judgments are done, and the rest comes to what the whole comes to.
use mathlib.Core.List.{[]}
use Rattle.names.specs.Symbols.{symbols_of}
use Rattle.refusals.specs.Refused.{handed_on}
use Rattle.patterns.proofs.Terms.{loop_start, loop_refused, loop_turn, loop_done, nothing_asked}
use lib.ListN.{length}
use native.Mathlib.Omega.{arith}
use Rattle.patterns.proofs.judgments.Goals as goal

pub loop-head-init : goal.loop-head-init
loop-head-init c =
    let args = c.args in
    let pre = c.requires in
    loop_start (args.source.text.now) (args.source.rows.now) (args.from.next) (length args.heads.now) (symbols_of (args.source.text.now) (args.source.symbols.now) (length args.source.symbols.now)) [] (args.variables.now) (args.from.variables) (args.words.now) (args.from.used) (args.from.room) (args.heads.now) (pre.entered) (omega arith)

pub returns-in_err-made : goal.returns-in_err-made
returns-in_err-made c =
    let args = c.args in
    let loop = c.loop-head in
    let loop-test = c.loop-head-test in
    let pattern = c.pattern in
    rw (handed_on c.from_residual.result c.from_residual.ensures.1)
    (record {
      small = tt;
      same = λ ts q st cn. (tt, loop_refused (args.source.text.now) (args.source.rows.now) (args.from.next) (length args.heads.now) (symbols_of (args.source.text.now) (args.source.symbols.now) (length args.source.symbols.now)) [] (args.variables.now) (args.from.variables) (args.words.now) (args.from.used) (args.from.room) (loop.head-index) (loop.place.next) (loop.variables) (loop.place.variables) (loop.words) (loop.place.used) (loop.place.room) (loop.head-items) (loop.invariant) (loop-test.true) 0 (nothing_asked (loop.head-index)) (pattern.result) _ _ (pattern.ensures) c.in_err-made.was ts q st cn);
    })

pub loop-head-preserved : goal.loop-head-preserved
loop-head-preserved c =
    let args = c.args in
    let loop = c.loop-head in
    let loop-test = c.loop-head-test in
    let pattern = c.pattern in
    loop_turn (args.source.text.now) (args.source.rows.now) (args.from.next) (length args.heads.now) (symbols_of (args.source.text.now) (args.source.symbols.now) (length args.source.symbols.now)) [] (args.variables.now) (args.from.variables) (args.words.now) (args.from.used) (args.from.room) (loop.head-index) (loop.place.next) (loop.variables) (loop.place.variables) (loop.words) (loop.place.used) (loop.place.room) (loop.head-items) (loop.invariant) (loop-test.true) 0 (nothing_asked (loop.head-index)) (pattern.result) _ _ (pattern.ensures) c.in_ok-made.was (pattern.auto.variables) (pattern.auto.words)

pub returns : goal.returns
returns c =
    let loop = c.loop-head in
    let args = c.args in
    let loop-test = c.loop-head-test in
    let L = loop.invariant in
    record {
      small = (L.from, L.grown, L.bound, L.further, omega arith);
      same = λ ts q st cn. loop_done (args.source.text.now) (args.source.rows.now) (args.from.next) (length args.heads.now) (symbols_of (args.source.text.now) (args.source.symbols.now) (length args.source.symbols.now)) [] (args.variables.now) (args.from.variables) (args.words.now) (args.from.used) (args.from.room) (loop.head-index) (loop.place.next) (loop.variables) (loop.place.variables) (loop.words) (loop.place.used) (loop.place.room) (loop.head-items) (loop.invariant) (loop-test.false) ts q st cn;
    }

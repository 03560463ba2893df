-- `enter_all` meets its contract. The loop's invariant: the declarations before the number i are entered, and the others are left from the row `at` on.
use mathlib.Core.Path.{◌≡◌, refl, ◌∙◌}
use lib.ListN.{take}
use borrow.Author.Rules.{rules}
use Rattle.words.proofs.Readings.{mapped_ok, mapped_err}
use Rattle.names.specs.Symbols.{column, row_at}
use Rattle.refusals.specs.Refused.{handed_on}
use Rattle.declarations.specs.Lent.{lent_start, lent_on}
use Rattle.load.proofs.WalkLaws.{held_none, sofar_start, sofar_declaration, sofar_stops, sofar_on, sofar_end}
use Rattle.declarations.proofs.DeclarationLaws.{first_row}
use native.Mathlib.Omega.{arith}
use Rattle.load.proofs.enter_all.Goals as goal

pub loop-i-init : goal.loop-i-init
loop-i-init c =
    let pre = c.requires.1 in
    let args = c.args in
    let none : c.default.result ≡ record { sorts = 0; symbols = 0; rules = 0; used = 0; left = 0 } = search rules in
    rw none (refl, refl, refl, lent_start, sofar_start pre.evals_lent (held_none args.walk.text.now args.walk.limit args.sorts.now args.symbols.now args.store.now.rules.now args.store.now.words.now pre.sorts_lent pre.symbols_lent pre.rules_lent pre.words_lent pre.limited))

pub bounds-rows-progress : goal.bounds-rows-progress
bounds-rows-progress c =
    let loop = c.loop-i in
    let pre = c.requires.1 in
    let loop-test = c.loop-i-test in
    let g = loop.invariant.4 pre.declared.0 pre.declared.1 pre.declared.2 pre.declared.3 in
    let d = sofar_declaration g loop-test.true in
    let w = (first_row d.2).within in
    let s = pre.short in
    omega arith

pub bounds-rows-progress-in-loop-i : goal.bounds-rows-progress-in-loop-i
bounds-rows-progress-in-loop-i c =
    let loop = c.loop-i in
    let pre = c.requires.1 in
    let loop-test = c.loop-i-test in
    let g = loop.invariant.4 pre.declared.0 pre.declared.1 pre.declared.2 pre.declared.3 in
    let d = sofar_declaration g loop-test.true in
    let w = (first_row d.2).within in
    let s = pre.short in
    omega arith

pub declare-requires : goal.declare-requires
declare-requires c =
    let loop = c.loop-i in
    let pre = c.requires.1 in
    let loop-test = c.loop-i-test in
    let args = c.args in
    let g = loop.invariant.4 pre.declared.0 pre.declared.1 pre.declared.2 pre.declared.3 in
    let d = sofar_declaration g loop-test.true in
    let w = (first_row d.2).within in
    let s = pre.short in
    let a = pre.out_lent in
    let b = pre.calls_lent in
    record {
      short = s;
      out_lent = omega (arith, loop.invariant.3.out_long);
      calls_lent = omega (arith, loop.invariant.3.calls_long);
      ready = (args.walk.limit, g.titles, g.signature, g.held);
      stand = d;
    }

pub returns-in_err-progress-clause-walked : goal.returns-in_err-progress-clause-walked
returns-in_err-progress-clause-walked c =
    let declare = c.declare in
    let loop = c.loop-i in
    let refused = mapped_err declare.result _ _ _ c.map_err.ensures.cases c.in_err-progress.was in
    let learnt = refused.2 in
    let made : c.in_err-progress.field-0.0 ≡ record { refusal = refused.0; line = column (row_at (take c.args.walk.used c.args.rows.now) loop.progress.next) 1 } = search rules in
    rw (handed_on c.from_residual.result c.from_residual.ensures.1, made)
    (record {
      same = λ ds a b t. sofar_stops declare.ensures.declared (loop.invariant.4 ds a b t) c.loop-i-test.true refused.1 _ _ _ _ _;
    })

pub loop-i-preserved : goal.loop-i-preserved
loop-i-preserved c =
    let loop-test = c.loop-i-test in
    let declare = c.declare in
    let loop = c.loop-i in
    let note = c.note-count in (
      declare.auto.sorts ∙ loop.invariant.0,
      declare.auto.symbols ∙ loop.invariant.1,
      note.auto.evals ∙ loop.invariant.2,
      lent_on loop.invariant.3 declare.ensures.lent,
      λ ds a b t. rw (note.ensures.0, note.ensures.1) (sofar_on declare.ensures.declared {next = c.in_ok-progress.progress.next} {st' = c.in_ok-progress.progress.state} (loop.invariant.4 ds a b t) loop-test.true (mapped_ok declare.result _ _ _ c.map_err.ensures.cases c.in_ok-progress.was)),
    )

pub returns-clause-walked : goal.returns-clause-walked
returns-clause-walked c = record { same = λ ds a b t. sofar_end (c.loop-i.invariant.4 ds a b t) (omega (arith, c.loop-i-test.false)) }

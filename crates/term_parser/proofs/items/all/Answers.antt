-- `all` meets its contract.
use mathlib.Core.Path.{ap, ◌∙◌}
use native.Mathlib.Omega.{arith}
use Rattle.std.specs.Prelude.{Ok}
use Rattle.term_parser.specs.Parsing.{last_line}
use Rattle.term_parser.specs.Steps.{maybe_step}
use Rattle.term_parser.proofs.Readers.{moved, loop_start, loop_turn}
use Rattle.term_parser.proofs.TermLaws.{room_on}
use Rattle.term_parser.proofs.ListLaws.{list_absent, list_refused}
use Rattle.term_parser.proofs.items.all.Goals as goal

pub loop-more-init : goal.loop-more-init
loop-more-init g c = let input = c.args.input in loop_start (g.R.Repeated.grammar input.text.now (last_line input.tokens.now)) g.R.Repeated.rows input.tokens.now _ _ 0 _ c.requires.here

pub read-requires : goal.read-requires
read-requires g c = let l = c.loop-more.invariant in room_on c.requires _ _ _ l.to (omega (arith, l.fits)) l.long

pub overflow_add-n : goal.overflow_add-n
overflow_add-n g c = let l = c.loop-more.invariant in omega (arith, l.few, l.to, c.requires.small)

pub loop-more-smaller : goal.loop-more-smaller
loop-more-smaller g c = let m = moved c.read.ensures (ap maybe_step (c.in-Ok-Some.is ∙ ap Ok c.in-Ok-Some.field-0-is)) in omega (arith, m)

pub loop-more-preserved : goal.loop-more-preserved
loop-more-preserved g c =
    let input = c.args.input in
    loop_turn (g.R.Repeated.grammar input.text.now (last_line input.tokens.now)) g.R.Repeated.rows input.tokens.now c.loop-more.invariant c.read.ensures (ap maybe_step (c.in-Ok-Some.is ∙ ap Ok c.in-Ok-Some.field-0-is)) c.read.auto.out

pub returns-clause-list : goal.returns-clause-list
returns-clause-list g c =
    let input = c.args.input in
    list_absent (g.R.Repeated.grammar input.text.now (last_line input.tokens.now)) g.R.Repeated.rows input.tokens.now c.loop-more.invariant c.read.ensures (ap maybe_step (c.in-Ok-None.is ∙ ap Ok c.in-Ok-None.field-0-is))

pub returns-in-Err-clause-list : goal.returns-in-Err-clause-list
returns-in-Err-clause-list g c =
    let input = c.args.input in
    list_refused (g.R.Repeated.grammar input.text.now (last_line input.tokens.now)) g.R.Repeated.rows input.tokens.now c.loop-more.invariant c.read.ensures (ap maybe_step c.in-Err.is)

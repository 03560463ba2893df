-- A clause is read as its contract says: what is read at each place is said by ClauseLaws.
use mathlib.Core.Path.{refl, sym, ap, ◌∙◌}
use native.Mathlib.Omega.{arith}
use Rattle.term_parser.specs.Parsing.{last_line}
use Rattle.term_parser.specs.Steps.{step}
use Rattle.parser.specs.Declarations.{behind_bar}
use Rattle.parser.specs.Rows.{clause_rows}
use Rattle.term_parser.proofs.Readers.{stopped_err, exits_maybe, none_there}
use Rattle.term_parser.proofs.ListLaws.{behind_not}
use Rattle.parser.proofs.PartLaws.{room_along}
use Rattle.parser.proofs.ClauseLaws.{bar_there, after_bar, patterns_stop, arrow_stops, after_arrow, body_stops, after_body, clause_ends}
use Rattle.parser.proofs.declarations.ClauseRepeated.read.Goals as goal

pub returns-then-peek-ne-BAR : goal.returns-then-peek-ne-BAR
returns-then-peek-ne-BAR c =
    let args = c.args in
    none_there 1 clause_rows _ args.input.tokens.now args.from.at args.from.used args.out.now
    (behind_not 22 (behind_bar args.input.text.now (last_line args.input.tokens.now)) args.input.tokens.now args.from.at (λ e. c.if-peek-ne-BAR.true (ap (λ x. x.kind) c.peek.ensures ∙ e)))

pub patterns-requires : goal.patterns-requires
patterns-requires c = rw c.past_row-behind.ensures (room_along (after_bar c.args.input.text.now c.args.input.tokens.now c.requires (sym (ap (λ t. t.kind) c.peek.ensures) ∙ c.if-peek-ne-BAR.false)) c.requires)

pub returns-in_err-list : goal.returns-in_err-list
returns-in_err-list c = rw (exits_maybe _ _ c.in_err-list.was c.from_residual.ensures.1) (patterns_stop c.args.input.text.now c.args.input.tokens.now c.requires (sym (ap (λ t. t.kind) c.peek.ensures) ∙ c.if-peek-ne-BAR.false) (rw c.past_row-behind.ensures at c.patterns.ensures) (stopped_err _ c.in_err-list.was))

pub returns-in_err-arrow : goal.returns-in_err-arrow
returns-in_err-arrow c = rw (exits_maybe _ _ c.in_err-arrow.was c.from_residual-in_err-arrow.ensures.1) (arrow_stops c.args.input.text.now c.args.input.tokens.now c.requires (sym (ap (λ t. t.kind) c.peek.ensures) ∙ c.if-peek-ne-BAR.false) (rw c.past_row-behind.ensures at c.patterns.ensures) (ap step c.in_ok-list.was) c.patterns.auto.out c.sign.ensures (stopped_err _ c.in_err-arrow.was))

pub app-requires : goal.app-requires
app-requires c = room_along (after_arrow c.args.input.text.now c.args.input.tokens.now c.requires (sym (ap (λ t. t.kind) c.peek.ensures) ∙ c.if-peek-ne-BAR.false) (rw c.past_row-behind.ensures at c.patterns.ensures) (ap step c.in_ok-list.was) c.patterns.auto.out c.sign.ensures (ap step c.in_ok-arrow.was)) c.requires

pub returns-in_err-body : goal.returns-in_err-body
returns-in_err-body c = rw (exits_maybe _ _ c.in_err-body.was c.from_residual-in_err-body.ensures.1) (body_stops c.args.input.text.now c.args.input.tokens.now c.requires (sym (ap (λ t. t.kind) c.peek.ensures) ∙ c.if-peek-ne-BAR.false) (rw c.past_row-behind.ensures at c.patterns.ensures) (ap step c.in_ok-list.was) c.patterns.auto.out c.sign.ensures (ap step c.in_ok-arrow.was) c.app.ensures (stopped_err _ c.in_err-body.was))

pub bounds-out-from : goal.bounds-out-from
bounds-out-from c = let a = after_body c.args.input.text.now c.args.input.tokens.now c.requires (sym (ap (λ t. t.kind) c.peek.ensures) ∙ c.if-peek-ne-BAR.false) (rw c.past_row-behind.ensures at c.patterns.ensures) (ap step c.in_ok-list.was) c.patterns.auto.out c.sign.ensures (ap step c.in_ok-arrow.was) c.app.ensures (ap step c.in_ok-body.was) c.app.auto.out in omega (arith, c.requires.lent, c.requires.below, bar_there c.args.input.text.now c.args.input.tokens.now c.requires (sym (ap (λ t. t.kind) c.peek.ensures) ∙ c.if-peek-ne-BAR.false), a.long)

pub returns : goal.returns
returns c = clause_ends c.args.input.text.now c.args.input.tokens.now c.requires (sym (ap (λ t. t.kind) c.peek.ensures) ∙ c.if-peek-ne-BAR.false) (rw c.past_row-behind.ensures at c.patterns.ensures) (ap step c.in_ok-list.was) c.patterns.auto.out c.sign.ensures (ap step c.in_ok-arrow.was) c.app.ensures (ap step c.in_ok-body.was) c.app.auto.out refl

-- Binders are read as their contract says: what is read at each place is said by BinderLaws.
use mathlib.Core.Path.{refl, sym, ap, ◌∙◌}
use native.Mathlib.Omega.{arith}
use Rattle.refusals.specs.Refused.{handed_on}
use Rattle.term_parser.specs.Parsing.{last_line}
use Rattle.term_parser.specs.Steps.{step}
use Rattle.parser.specs.Declarations.{behind_open}
use Rattle.parser.specs.Rows.{binders_rows}
use Rattle.term_parser.proofs.Readers.{stopped_err, exits_maybe, none_there}
use Rattle.term_parser.proofs.ListLaws.{behind_not}
use Rattle.parser.proofs.PartLaws.{room_along}
use Rattle.parser.proofs.BinderLaws.{binders_there, after_open, names_stop, colon_stops, no_sort, sort_there, close_stops, after_close, binders_end}
use Rattle.parser.proofs.declarations.BindersRepeated.read.Goals as goal

pub returns-then-peek-ne-OPEN : goal.returns-then-peek-ne-OPEN
returns-then-peek-ne-OPEN c =
    let args = c.args in
    none_there 1 binders_rows _ args.input.tokens.now args.from.at args.from.used args.out.now
    (behind_not 18 (behind_open (last_line args.input.tokens.now)) args.input.tokens.now args.from.at (λ e. c.if-peek-ne-OPEN.true (ap (λ x. x.kind) c.peek.ensures ∙ e)))

pub names-requires : goal.names-requires
names-requires c = rw c.past_row-behind.ensures (room_along (after_open c.args.input.tokens.now c.requires (sym (ap (λ t. t.kind) c.peek.ensures) ∙ c.if-peek-ne-OPEN.false)) c.requires)

pub returns-in_err-bound : goal.returns-in_err-bound
returns-in_err-bound c = rw (exits_maybe _ _ c.in_err-bound.was c.from_residual.ensures.1) (names_stop c.args.input.tokens.now c.requires (sym (ap (λ t. t.kind) c.peek.ensures) ∙ c.if-peek-ne-OPEN.false) (rw c.past_row-behind.ensures at c.names.ensures) (stopped_err _ c.in_err-bound.was))

pub returns-in_err-colon : goal.returns-in_err-colon
returns-in_err-colon c = rw (exits_maybe _ _ c.in_err-colon.was c.from_residual-in_err-colon.ensures.1) (colon_stops c.args.input.tokens.now c.requires (sym (ap (λ t. t.kind) c.peek.ensures) ∙ c.if-peek-ne-OPEN.false) (rw c.past_row-behind.ensures at c.names.ensures) (ap step c.in_ok-bound.was) c.names.auto.out c.sign.ensures (stopped_err _ c.in_err-colon.was))

pub returns-in_err-t : goal.returns-in_err-t
returns-in_err-t c = rw (handed_on c.from_residual-in_err-t.result c.from_residual-in_err-t.ensures.1, c.in_err-t.ensures.1) (no_sort c.args.input.tokens.now c.requires (sym (ap (λ t. t.kind) c.peek.ensures) ∙ c.if-peek-ne-OPEN.false) (rw c.past_row-behind.ensures at c.names.ensures) (ap step c.in_ok-bound.was) c.names.auto.out c.sign.ensures (ap step c.in_ok-colon.was) c.in_err-t.ensures.0 refl)

pub past_token-sort-requires : goal.past_token-sort-requires
past_token-sort-requires c = omega (arith, c.requires.small, sort_there c.args.input.tokens.now c.requires (sym (ap (λ t. t.kind) c.peek.ensures) ∙ c.if-peek-ne-OPEN.false) (rw c.past_row-behind.ensures at c.names.ensures) (ap step c.in_ok-bound.was) c.names.auto.out c.sign.ensures (ap step c.in_ok-colon.was) (sym (ap (λ t. t.kind) c.in_ok-t.ensures.0) ∙ c.in_ok-t.ensures.1))

pub returns-in_err-close : goal.returns-in_err-close
returns-in_err-close c = rw (exits_maybe _ _ c.in_err-close.was c.from_residual-in_err-close.ensures.1) (close_stops c.args.input.tokens.now c.requires (sym (ap (λ t. t.kind) c.peek.ensures) ∙ c.if-peek-ne-OPEN.false) (rw c.past_row-behind.ensures at c.names.ensures) (ap step c.in_ok-bound.was) c.names.auto.out c.sign.ensures (ap step c.in_ok-colon.was) (sym (ap (λ t. t.kind) c.in_ok-t.ensures.0) ∙ c.in_ok-t.ensures.1) (rw c.past_token-sort.ensures at c.sign-2.ensures) (stopped_err _ c.in_err-close.was))

pub bounds-out-from : goal.bounds-out-from
bounds-out-from c = let a = after_close c.args.input.tokens.now c.requires (sym (ap (λ t. t.kind) c.peek.ensures) ∙ c.if-peek-ne-OPEN.false) (rw c.past_row-behind.ensures at c.names.ensures) (ap step c.in_ok-bound.was) c.names.auto.out c.sign.ensures (ap step c.in_ok-colon.was) (sym (ap (λ t. t.kind) c.in_ok-t.ensures.0) ∙ c.in_ok-t.ensures.1) (rw c.past_token-sort.ensures at c.sign-2.ensures) (ap step c.in_ok-close.was) in omega (arith, c.requires.lent, c.requires.below, binders_there c.args.input.tokens.now c.requires (sym (ap (λ t. t.kind) c.peek.ensures) ∙ c.if-peek-ne-OPEN.false), a.long)

pub returns : goal.returns
returns c = binders_end c.args.input.tokens.now c.requires (sym (ap (λ t. t.kind) c.peek.ensures) ∙ c.if-peek-ne-OPEN.false) (rw c.past_row-behind.ensures at c.names.ensures) (ap step c.in_ok-bound.was) c.names.auto.out c.sign.ensures (ap step c.in_ok-colon.was) (sym (ap (λ t. t.kind) c.in_ok-t.ensures.0) ∙ c.in_ok-t.ensures.1) (rw c.past_token-sort.ensures at c.sign-2.ensures) (ap step c.in_ok-close.was) c.in_ok-t.ensures.0 refl

-- `pred` meets its contract: what is read at each place is said by TitleLaws.
use mathlib.Core.Path.{refl, sym, ap, ◌∙◌}
use mathlib.Core.Bool.{Bool}
use mathlib.Core.List.{List, [], ◌∷◌, ◌++◌}
use Prim.Native.Nat.{ℕ, ◌-◌}
use native.Mathlib.Omega.{arith}
use lib.ListN.{length, drop, take}
use Rattle.refusals.specs.declared.Refusal.TheVariants.{NoProp}
use Rattle.term_parser.specs.Source.{Place}
use Rattle.term_parser.specs.Parsing.{Tokens, line_of, last_line, when, Parsed, parsed, refused}
use Rattle.term_parser.specs.Rows.{name_rows, rows_of_all}
use Rattle.parser.specs.Source.{Declaration, pred}
use Rattle.parser.specs.Declarations.{ends_in_prop}
use Rattle.parser.specs.Rows.{declaration_rows}
use Rattle.term_parser.specs.Steps.{step}
use Rattle.term_parser.proofs.Readers.{stopped_err, exits, got}
use Rattle.parser.proofs.PartLaws.{finish, room_along}
use Rattle.parser.proofs.TitleLaws.{names_to, title_stops, after_title, items_stop, after_items, item_count, some_items}
use Rattle.parser.proofs.DeclarationLaws.{refuse, without_last, prop_is, init_long}
use Rattle.parser.proofs.declarations.pred.Goals as goal

module _ (last : ℕ) (n : Place) (ss : List Place) (vs : Tokens) where
  abbrev ended : Bool → Parsed Declaration
  ended b = when b (λ _. parsed (pred n (take (length ss - 1) ss)) 0) (λ _. refused NoProp (line_of last vs))

abbrev ending : List ℕ → ℕ → Place → List Place → Tokens → Parsed Declaration
ending text last n ss vs = ended last n ss vs (ends_in_prop text ss)

pub returns-in_err-n : goal.returns-in_err-n
returns-in_err-n c = rw (exits _ _ c.in_err-n.was c.from_residual.ensures.1) (title_stops (declaration_rows c.args.line) (names_to (last_line c.args.input.tokens.now)) c.args.input.tokens.now c.requires.fact_1 c.requires.fact_2 (ending c.args.input.text.now (last_line c.args.input.tokens.now)) (rw c.past_row-behind.ensures at c.title.ensures) (stopped_err _ c.in_err-n.was))

pub arrows-requires : goal.arrows-requires
arrows-requires c = room_along (after_title (declaration_rows c.args.line) (names_to (last_line c.args.input.tokens.now)) c.args.input.tokens.now c.requires.fact_1 c.requires.fact_2 (ending c.args.input.text.now (last_line c.args.input.tokens.now)) (rw c.past_row-behind.ensures at c.title.ensures) (ap step c.in_ok-n.was) c.title.auto.out) c.requires.fact_1

pub returns-in_err-sorts : goal.returns-in_err-sorts
returns-in_err-sorts c = rw (exits _ _ c.in_err-sorts.was c.from_residual-in_err-sorts.ensures.1) (items_stop (declaration_rows c.args.line) (names_to (last_line c.args.input.tokens.now)) c.args.input.tokens.now c.requires.fact_1 c.requires.fact_2 (ending c.args.input.text.now (last_line c.args.input.tokens.now)) (rw c.past_row-behind.ensures at c.title.ensures) (ap step c.in_ok-n.was) c.title.auto.out c.arrows.ensures (stopped_err _ c.in_err-sorts.was))

pub overflow_sub-last : goal.overflow_sub-last
overflow_sub-last c = let a = after_items (declaration_rows c.args.line) (names_to (last_line c.args.input.tokens.now)) c.args.input.tokens.now c.requires.fact_1 c.requires.fact_2 (ending c.args.input.text.now (last_line c.args.input.tokens.now)) (rw c.past_row-behind.ensures at c.title.ensures) (ap step c.in_ok-n.was) c.title.auto.out c.arrows.ensures (ap step c.in_ok-sorts.was) c.arrows.auto.out in omega (arith, a.above)

pub offset_bounds-out-last : goal.offset_bounds-out-last
offset_bounds-out-last c = let a = after_items (declaration_rows c.args.line) (names_to (last_line c.args.input.tokens.now)) c.args.input.tokens.now c.requires.fact_1 c.requires.fact_2 (ending c.args.input.text.now (last_line c.args.input.tokens.now)) (rw c.past_row-behind.ensures at c.title.ensures) (ap step c.in_ok-n.was) c.title.auto.out c.arrows.ensures (ap step c.in_ok-sorts.was) c.arrows.auto.out in omega (arith, a.above, a.fits, a.to, c.requires.fact_1.below, c.requires.fact_1.small)

pub slice_copy_out-row : goal.slice_copy_out-row
slice_copy_out-row c = let a = after_items (declaration_rows c.args.line) (names_to (last_line c.args.input.tokens.now)) c.args.input.tokens.now c.requires.fact_1 c.requires.fact_2 (ending c.args.input.text.now (last_line c.args.input.tokens.now)) (rw c.past_row-behind.ensures at c.title.ensures) (ap step c.in_ok-n.was) c.title.auto.out c.arrows.ensures (ap step c.in_ok-sorts.was) c.arrows.auto.out in omega (arith, a.above, a.fits, a.to, a.long, c.requires.fact_1.lent, c.requires.fact_1.below)

pub overflow_sub-out : goal.overflow_sub-out
overflow_sub-out c = omega (arith, item_count (declaration_rows c.args.line) (names_to (last_line c.args.input.tokens.now)) c.args.input.tokens.now c.requires.fact_1 c.requires.fact_2 (ending c.args.input.text.now (last_line c.args.input.tokens.now)) (rw c.past_row-behind.ensures at c.title.ensures) (ap step c.in_ok-n.was) c.title.auto.out c.arrows.ensures (ap step c.in_ok-sorts.was) c.arrows.auto.out, some_items (declaration_rows c.args.line) (names_to (last_line c.args.input.tokens.now)) c.args.input.tokens.now c.requires.fact_1 c.requires.fact_2 (ending c.args.input.text.now (last_line c.args.input.tokens.now)) (rw c.past_row-behind.ensures at c.title.ensures) (ap step c.in_ok-n.was) c.title.auto.out c.arrows.ensures (ap step c.in_ok-sorts.was) c.arrows.auto.out)

pub bounds-out-from : goal.bounds-out-from
bounds-out-from c = let a = after_items (declaration_rows c.args.line) (names_to (last_line c.args.input.tokens.now)) c.args.input.tokens.now c.requires.fact_1 c.requires.fact_2 (ending c.args.input.text.now (last_line c.args.input.tokens.now)) (rw c.past_row-behind.ensures at c.title.ensures) (ap step c.in_ok-n.was) c.title.auto.out c.arrows.ensures (ap step c.in_ok-sorts.was) c.arrows.auto.out in omega (arith, c.requires.fact_1.lent, c.requires.fact_1.below, c.requires.fact_2, a.long)

pub returns-then-is_prop : goal.returns-then-is_prop
returns-then-is_prop c =
    let n = (got (rw c.past_row-behind.ensures at c.title.ensures) (ap step c.in_ok-n.was)).item in
    let ss = (got c.arrows.ensures.answers (ap step c.in_ok-sorts.was)).item in
    let a = after_items (declaration_rows c.args.line) (names_to (last_line c.args.input.tokens.now)) c.args.input.tokens.now c.requires.fact_1 c.requires.fact_2 (ending c.args.input.text.now (last_line c.args.input.tokens.now)) (rw c.past_row-behind.ensures at c.title.ensures) (ap step c.in_ok-n.was) c.title.auto.out c.arrows.ensures (ap step c.in_ok-sorts.was) c.arrows.auto.out in
    let some = some_items (declaration_rows c.args.line) (names_to (last_line c.args.input.tokens.now)) c.args.input.tokens.now c.requires.fact_1 c.requires.fact_2 (ending c.args.input.text.now (last_line c.args.input.tokens.now)) (rw c.past_row-behind.ensures at c.title.ensures) (ap step c.in_ok-n.was) c.title.auto.out c.arrows.ensures (ap step c.in_ok-sorts.was) c.arrows.auto.out in
    let is = prop_is a c.requires.fact_1 (name_rows n) ss refl some c.args.input.text.now ∙ sym c.is_prop.ensures ∙ c.if-is_prop.true in
    finish (without_last a c.requires.fact_1 (name_rows n) ss refl some) c.requires.fact_1 (ap (ended (last_line c.args.input.tokens.now) n ss (drop c.in_ok-sorts.sorts.position.at c.args.input.tokens.now)) is)
    (ap (λ i. (3 ∷ c.args.line ∷ i ∷ 0 ∷ []) ∷ (name_rows n ++ rows_of_all name_rows (take (length ss - 1) ss))) (init_long a c.requires.fact_1 (name_rows n) ss refl some ∙ ap (λ i. i - 1) (sym (item_count (declaration_rows c.args.line) (names_to (last_line c.args.input.tokens.now)) c.args.input.tokens.now c.requires.fact_1 c.requires.fact_2 (ending c.args.input.text.now (last_line c.args.input.tokens.now)) (rw c.past_row-behind.ensures at c.title.ensures) (ap step c.in_ok-n.was) c.title.auto.out c.arrows.ensures (ap step c.in_ok-sorts.was) c.arrows.auto.out)))) refl

pub returns : goal.returns
returns c =
    let n = (got (rw c.past_row-behind.ensures at c.title.ensures) (ap step c.in_ok-n.was)).item in
    let ss = (got c.arrows.ensures.answers (ap step c.in_ok-sorts.was)).item in
    let a = after_items (declaration_rows c.args.line) (names_to (last_line c.args.input.tokens.now)) c.args.input.tokens.now c.requires.fact_1 c.requires.fact_2 (ending c.args.input.text.now (last_line c.args.input.tokens.now)) (rw c.past_row-behind.ensures at c.title.ensures) (ap step c.in_ok-n.was) c.title.auto.out c.arrows.ensures (ap step c.in_ok-sorts.was) c.arrows.auto.out in
    let some = some_items (declaration_rows c.args.line) (names_to (last_line c.args.input.tokens.now)) c.args.input.tokens.now c.requires.fact_1 c.requires.fact_2 (ending c.args.input.text.now (last_line c.args.input.tokens.now)) (rw c.past_row-behind.ensures at c.title.ensures) (ap step c.in_ok-n.was) c.title.auto.out c.arrows.ensures (ap step c.in_ok-sorts.was) c.arrows.auto.out in
    let is = prop_is a c.requires.fact_1 (name_rows n) ss refl some c.args.input.text.now ∙ sym c.is_prop.ensures ∙ c.if-is_prop.false in
    rw c.rejection.ensures (refuse a (ap (ended (last_line c.args.input.tokens.now) n ss (drop c.in_ok-sorts.sorts.position.at c.args.input.tokens.now)) is) refl)

-- `def` meets its contract: what is read at each place is said by TitleLaws.
use mathlib.Core.Path.{refl, sym, ap, ap₂}
use mathlib.Core.List.{List, [], ◌∷◌, ◌++◌}
use Prim.Native.Nat.{ℕ}
use native.Mathlib.Omega.{arith}
use lib.ListN.{drop}
use Rattle.term_parser.specs.Source.{Place}
use Rattle.term_parser.specs.Parsing.{Tokens, last_line, Parsed, parsed, follow, repeat}
use Rattle.term_parser.specs.Rows.{name_rows, rows_of_all}
use Rattle.parser.specs.Source.{Declaration, def}
use Rattle.parser.specs.Declarations.{clause_of}
use Rattle.parser.specs.Rows.{clause_rows, declaration_rows}
use Rattle.term_parser.specs.Steps.{step}
use Rattle.term_parser.specs.Firmness.{firm_repeat}
use Rattle.term_parser.proofs.Readers.{stopped_err, exits, got}
use Rattle.parser.proofs.PartLaws.{part, part_stopped, finish, room_along}
use Rattle.parser.proofs.TitleLaws.{names_to, title_stops, after_title, items_stop, after_items, item_count}
use Rattle.parser.proofs.declarations.def.Goals as goal

abbrev clausing : List ℕ → ℕ → Place → List Place → Tokens → Parsed Declaration
clausing text last n ss vs = follow (repeat (clause_of text last) vs 0 0 []) vs (λ cs ws. parsed (def n ss cs) 0)

pub returns-in_err-n : goal.returns-in_err-n
returns-in_err-n c = rw (exits _ _ c.in_err-n.was c.from_residual.ensures.1) (title_stops (declaration_rows c.args.line) (names_to (last_line c.args.input.tokens.now)) c.args.input.tokens.now c.requires.fact_1 c.requires.fact_2 (clausing c.args.input.text.now (last_line c.args.input.tokens.now)) (rw c.past_row-behind.ensures at c.title.ensures) (stopped_err _ c.in_err-n.was))

pub arrows-requires : goal.arrows-requires
arrows-requires c = room_along (after_title (declaration_rows c.args.line) (names_to (last_line c.args.input.tokens.now)) c.args.input.tokens.now c.requires.fact_1 c.requires.fact_2 (clausing c.args.input.text.now (last_line c.args.input.tokens.now)) (rw c.past_row-behind.ensures at c.title.ensures) (ap step c.in_ok-n.was) c.title.auto.out) c.requires.fact_1

pub returns-in_err-sorts : goal.returns-in_err-sorts
returns-in_err-sorts c = rw (exits _ _ c.in_err-sorts.was c.from_residual-in_err-sorts.ensures.1) (items_stop (declaration_rows c.args.line) (names_to (last_line c.args.input.tokens.now)) c.args.input.tokens.now c.requires.fact_1 c.requires.fact_2 (clausing c.args.input.text.now (last_line c.args.input.tokens.now)) (rw c.past_row-behind.ensures at c.title.ensures) (ap step c.in_ok-n.was) c.title.auto.out c.arrows.ensures (stopped_err _ c.in_err-sorts.was))

pub all-requires : goal.all-requires
all-requires c = room_along (after_items (declaration_rows c.args.line) (names_to (last_line c.args.input.tokens.now)) c.args.input.tokens.now c.requires.fact_1 c.requires.fact_2 (clausing c.args.input.text.now (last_line c.args.input.tokens.now)) (rw c.past_row-behind.ensures at c.title.ensures) (ap step c.in_ok-n.was) c.title.auto.out c.arrows.ensures (ap step c.in_ok-sorts.was) c.arrows.auto.out) c.requires.fact_1

pub returns-in_err-clauses : goal.returns-in_err-clauses
returns-in_err-clauses c =
    let n = (got (rw c.past_row-behind.ensures at c.title.ensures) (ap step c.in_ok-n.was)).item in
    let ss = (got c.arrows.ensures.answers (ap step c.in_ok-sorts.was)).item in
    rw (exits _ _ c.in_err-clauses.was c.from_residual-in_err-clauses.ensures.1) (part_stopped (after_items (declaration_rows c.args.line) (names_to (last_line c.args.input.tokens.now)) c.args.input.tokens.now c.requires.fact_1 c.requires.fact_2 (clausing c.args.input.text.now (last_line c.args.input.tokens.now)) (rw c.past_row-behind.ensures at c.title.ensures) (ap step c.in_ok-n.was) c.title.auto.out c.arrows.ensures (ap step c.in_ok-sorts.was) c.arrows.auto.out) (λ cs ws. parsed (def n ss cs) 0) refl c.all.ensures.list.answers (stopped_err _ c.in_err-clauses.was) (firm_repeat (clause_of c.args.input.text.now (last_line c.args.input.tokens.now)) (drop c.in_ok-sorts.sorts.position.at c.args.input.tokens.now) 0 0 []))

pub bounds-out-from : goal.bounds-out-from
bounds-out-from c =
    let n = (got (rw c.past_row-behind.ensures at c.title.ensures) (ap step c.in_ok-n.was)).item in
    let ss = (got c.arrows.ensures.answers (ap step c.in_ok-sorts.was)).item in
    let a = part (after_items (declaration_rows c.args.line) (names_to (last_line c.args.input.tokens.now)) c.args.input.tokens.now c.requires.fact_1 c.requires.fact_2 (clausing c.args.input.text.now (last_line c.args.input.tokens.now)) (rw c.past_row-behind.ensures at c.title.ensures) (ap step c.in_ok-n.was) c.title.auto.out c.arrows.ensures (ap step c.in_ok-sorts.was) c.arrows.auto.out) (λ cs ws. parsed (def n ss cs) 0) refl c.all.ensures.list.answers (ap step c.in_ok-clauses.was) c.all.auto.out in
    omega (arith, c.requires.fact_1.lent, c.requires.fact_1.below, c.requires.fact_2, a.long)

pub returns : goal.returns
returns c =
    let n = (got (rw c.past_row-behind.ensures at c.title.ensures) (ap step c.in_ok-n.was)).item in
    let ss = (got c.arrows.ensures.answers (ap step c.in_ok-sorts.was)).item in
    let cs = (got c.all.ensures.list.answers (ap step c.in_ok-clauses.was)).item in
    finish (part (after_items (declaration_rows c.args.line) (names_to (last_line c.args.input.tokens.now)) c.args.input.tokens.now c.requires.fact_1 c.requires.fact_2 (clausing c.args.input.text.now (last_line c.args.input.tokens.now)) (rw c.past_row-behind.ensures at c.title.ensures) (ap step c.in_ok-n.was) c.title.auto.out c.arrows.ensures (ap step c.in_ok-sorts.was) c.arrows.auto.out) (λ cs ws. parsed (def n ss cs) 0) refl c.all.ensures.list.answers (ap step c.in_ok-clauses.was) c.all.auto.out) c.requires.fact_1 refl (ap₂ (λ i j. (5 ∷ c.args.line ∷ i ∷ j ∷ []) ∷ (name_rows n ++ (rows_of_all name_rows ss ++ rows_of_all clause_rows cs))) (sym (item_count (declaration_rows c.args.line) (names_to (last_line c.args.input.tokens.now)) c.args.input.tokens.now c.requires.fact_1 c.requires.fact_2 (clausing c.args.input.text.now (last_line c.args.input.tokens.now)) (rw c.past_row-behind.ensures at c.title.ensures) (ap step c.in_ok-n.was) c.title.auto.out c.arrows.ensures (ap step c.in_ok-sorts.was) c.arrows.auto.out)) (sym (c.all.ensures.list.counted _ _ _ (ap step c.in_ok-clauses.was) _ _ (got c.all.ensures.list.answers (ap step c.in_ok-clauses.was)).is))) refl

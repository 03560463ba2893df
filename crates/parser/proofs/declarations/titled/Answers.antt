-- `titled` meets its contract: what is read at each place is said by TitleLaws.
use mathlib.Core.Path.{refl, sym, ap}
use mathlib.Core.List.{List, [], ◌∷◌, ◌++◌}
use Prim.Native.Nat.{ℕ}
use native.Mathlib.Omega.{arith}
use Rattle.term_parser.specs.Source.{Place}
use Rattle.term_parser.specs.Parsing.{Tokens, last_line, Parsed, parsed}
use Rattle.term_parser.specs.Rows.{Rows, name_rows, rows_of_all}
use Rattle.term_parser.specs.Firmness.{Firm}
use Rattle.term_parser.specs.Steps.{step}
use Rattle.parser.specs.Source.{Titled}
use Rattle.parser.specs.Rows.{titled_rows}
use Rattle.term_parser.proofs.Readers.{stopped_err, exits, got}
use Rattle.parser.proofs.PartLaws.{finish, room_along}
use Rattle.parser.proofs.TitleLaws.{Items, title_stops, after_title, items_stop, after_items, item_count}
use Rattle.parser.proofs.declarations.titled.Goals as goal

abbrev titled : {A : Type 0} → Place → List A → Tokens → Parsed (Titled A)
titled n l _ = parsed (record { title = n; items = l }) 0

abbrev of : {A : Type 0} → (A → Rows) → ℕ → (item : Tokens → Parsed A) → ((us : Tokens) → Firm (item us)) → Items A
of rows sign item firm = record { rows = rows; sign = sign; item = item; firm = firm }

pub returns-in_err-n : goal.returns-in_err-n
returns-in_err-n g c = rw (exits _ _ c.in_err-n.was c.from_residual.ensures.1) (title_stops (titled_rows g.I.Item.rows c.args.kind c.args.line) (of g.I.Item.rows g.I.Item.SIGN (g.I.Item.grammar c.args.input.text.now (last_line c.args.input.tokens.now)) (g.met.I.Item.firm c.args.input.text.now (last_line c.args.input.tokens.now))) c.args.input.tokens.now c.requires.fact_1 c.requires.fact_2 titled (rw c.past_row-behind.ensures at c.title.ensures) (stopped_err _ c.in_err-n.was))

pub list-requires : goal.list-requires
list-requires g c = room_along (after_title (titled_rows g.I.Item.rows c.args.kind c.args.line) (of g.I.Item.rows g.I.Item.SIGN (g.I.Item.grammar c.args.input.text.now (last_line c.args.input.tokens.now)) (g.met.I.Item.firm c.args.input.text.now (last_line c.args.input.tokens.now))) c.args.input.tokens.now c.requires.fact_1 c.requires.fact_2 titled (rw c.past_row-behind.ensures at c.title.ensures) (ap step c.in_ok-n.was) c.title.auto.out) c.requires.fact_1

pub returns-in_err-items : goal.returns-in_err-items
returns-in_err-items g c = rw (exits _ _ c.in_err-items.was c.from_residual-in_err-items.ensures.1) (items_stop (titled_rows g.I.Item.rows c.args.kind c.args.line) (of g.I.Item.rows g.I.Item.SIGN (g.I.Item.grammar c.args.input.text.now (last_line c.args.input.tokens.now)) (g.met.I.Item.firm c.args.input.text.now (last_line c.args.input.tokens.now))) c.args.input.tokens.now c.requires.fact_1 c.requires.fact_2 titled (rw c.past_row-behind.ensures at c.title.ensures) (ap step c.in_ok-n.was) c.title.auto.out c.list.ensures (stopped_err _ c.in_err-items.was))

pub bounds-out-from : goal.bounds-out-from
bounds-out-from g c = let a = after_items (titled_rows g.I.Item.rows c.args.kind c.args.line) (of g.I.Item.rows g.I.Item.SIGN (g.I.Item.grammar c.args.input.text.now (last_line c.args.input.tokens.now)) (g.met.I.Item.firm c.args.input.text.now (last_line c.args.input.tokens.now))) c.args.input.tokens.now c.requires.fact_1 c.requires.fact_2 titled (rw c.past_row-behind.ensures at c.title.ensures) (ap step c.in_ok-n.was) c.title.auto.out c.list.ensures (ap step c.in_ok-items.was) c.list.auto.out in omega (arith, c.requires.fact_1.lent, c.requires.fact_1.below, c.requires.fact_2, a.long)

pub returns : goal.returns
returns g c =
    let n = (got (rw c.past_row-behind.ensures at c.title.ensures) (ap step c.in_ok-n.was)).item in
    let l = (got c.list.ensures.answers (ap step c.in_ok-items.was)).item in
    finish (after_items (titled_rows g.I.Item.rows c.args.kind c.args.line) (of g.I.Item.rows g.I.Item.SIGN (g.I.Item.grammar c.args.input.text.now (last_line c.args.input.tokens.now)) (g.met.I.Item.firm c.args.input.text.now (last_line c.args.input.tokens.now))) c.args.input.tokens.now c.requires.fact_1 c.requires.fact_2 titled (rw c.past_row-behind.ensures at c.title.ensures) (ap step c.in_ok-n.was) c.title.auto.out c.list.ensures (ap step c.in_ok-items.was) c.list.auto.out) c.requires.fact_1 refl
    (ap (λ i. (c.args.kind ∷ c.args.line ∷ i ∷ 0 ∷ []) ∷ (name_rows n ++ rows_of_all g.I.Item.rows l)) (sym (item_count (titled_rows g.I.Item.rows c.args.kind c.args.line) (of g.I.Item.rows g.I.Item.SIGN (g.I.Item.grammar c.args.input.text.now (last_line c.args.input.tokens.now)) (g.met.I.Item.firm c.args.input.text.now (last_line c.args.input.tokens.now))) c.args.input.tokens.now c.requires.fact_1 c.requires.fact_2 titled (rw c.past_row-behind.ensures at c.title.ensures) (ap step c.in_ok-n.was) c.title.auto.out c.list.ensures (ap step c.in_ok-items.was) c.list.auto.out))) refl

-- `enter_symbol` meets its contract: the arrow, then the name, then the row.
use mathlib.Core.Path.{◌≡◌, refl, sym, ap, ◌∙◌}
use lib.ListN.{length, take, set}
use lib.Seq.{length-take-le}
use Prim.Native.Nat.{◌+◌}
use Rattle.source_text.specs.Parts.{part_of}
use Rattle.names.specs.Symbols.{column, row_at, sorts_of, symbols_of}
use Rattle.names.specs.UsedLaws.{symbols_used}
use Rattle.loader.specs.Signature.{numbers_of, symbol_refusal}
use Rattle.loader.specs.Arrows.{names_at}
use Rattle.loader.specs.SymbolEntry.{arrow_refusal}
use Rattle.refusals.specs.Refused.{handed_on}
use Rattle.loader.proofs.SymbolLaws.{arrow_count, arrow_known, inputs_count, row_is, not_refused, same_numbers}
use Rattle.patterns.proofs.Terms.{symbols_length}
use native.Mathlib.Omega.{arith}
use Rattle.loader.proofs.enter_symbol.Goals as goal

pub returns-in_err-check_symbol : goal.returns-in_err-check_symbol
returns-in_err-check_symbol c =
    let args = c.args in
    let find-arrow = c.find_arrow in
    let known = symbols_used args.symbols.now args.count (omega (arith, c.requires.3, c.requires.4)) args.part.source.text.now in
    let input-count = c.input_count-n in
    let look = arrow_known (numbers_of (sorts_of (args.part.source.text.now) (args.sorts.now) (length args.sorts.now)) (names_at (args.part.source.text.now) (args.part.source.rows.now) (args.part.source.at + 1) (args.part.k))) (find-arrow.result) _ (args.part.k) _ (rw c.from_row.ensures at find-arrow.ensures) c.in_ok-last.ensures.ok_part in
    let c₁ = arrow_count (sorts_of (args.part.source.text.now) (args.sorts.now) (length args.sorts.now)) (args.part.source.text.now) (args.part.source.rows.now) (args.part.source.at + 1) (args.part.k) look.found look.is in
    let n = inputs_count args.marks.constructor look.found (args.part.k) c₁ in
    rw (handed_on c.from_residual-in_err-check_symbol.result c.from_residual-in_err-check_symbol.ensures.1)
    (record {
      number = _;
      answer = (refl, c.in_err-check_symbol.ensures.1);
      comes_to = record {
        refusal = ((rw (known, c.part.ensures, c.behind_kind-word.ensures) at c.in_err-check_symbol.ensures.0)
            ∙ ap (symbol_refusal (sorts_of (args.part.source.text.now) (args.sorts.now) (length args.sorts.now)) (symbols_of (args.part.source.text.now) (args.symbols.now) (args.count)) _) (input-count.ensures ∙ sym n)
            ∙ ap (arrow_refusal (sorts_of (args.part.source.text.now) (args.sorts.now) (length args.sorts.now)) (symbols_of (args.part.source.text.now) (args.symbols.now) (args.count)) _ args.marks.constructor) (sym look.is));
        refused = λ z. refl;
        entered = λ z. absurd (let l = c.in_err-check_symbol.ensures.1 in omega arith);
      };
    })

pub bounds-symbols-count : goal.bounds-symbols-count
bounds-symbols-count c =
    let args = c.args in
    let find-arrow = c.find_arrow in
    let input-count = c.input_count-n in
    let known = symbols_used args.symbols.now args.count (omega (arith, c.requires.3, c.requires.4)) args.part.source.text.now in
    let pre = c.requires in
    let look = arrow_known (numbers_of (sorts_of (args.part.source.text.now) (args.sorts.now) (length args.sorts.now)) (names_at (args.part.source.text.now) (args.part.source.rows.now) (args.part.source.at + 1) (args.part.k))) (find-arrow.result) _ (args.part.k) _ (rw c.from_row.ensures at find-arrow.ensures) c.in_ok-last.ensures.ok_part in
    let c₁ = arrow_count (sorts_of (args.part.source.text.now) (args.sorts.now) (length args.sorts.now)) (args.part.source.text.now) (args.part.source.rows.now) (args.part.source.at + 1) (args.part.k) look.found look.is in
    let n = inputs_count args.marks.constructor look.found (args.part.k) c₁ in
    let f = not_refused (sorts_of (args.part.source.text.now) (args.sorts.now) (length args.sorts.now)) (symbols_of (args.part.source.text.now) (args.symbols.now) (args.count)) (part_of (args.part.source.text.now) (column (row_at (args.part.source.rows.now) (args.part.source.at)) 1) (column (row_at (args.part.source.rows.now) (args.part.source.at)) 2)) (input-count.result) (sym (rw (known, c.part.ensures, c.behind_kind-word.ensures) at c.in_ok-check_symbol.ensures)) in
    let l = symbols_length (args.part.source.text.now) (args.symbols.now) (args.count) (omega (arith, pre.3, pre.4)) in
    omega arith

pub returns : goal.returns
returns c =
    let args = c.args in
    let find-arrow = c.find_arrow in
    let input-count = c.input_count-n in
    let known = symbols_used args.symbols.now args.count (omega (arith, c.requires.3, c.requires.4)) args.part.source.text.now in
    let pre = c.requires in
    let put-symbol = c.put_symbol in
    let look = arrow_known (numbers_of (sorts_of (args.part.source.text.now) (args.sorts.now) (length args.sorts.now)) (names_at (args.part.source.text.now) (args.part.source.rows.now) (args.part.source.at + 1) (args.part.k))) (find-arrow.result) _ (args.part.k) _ (rw c.from_row.ensures at find-arrow.ensures) c.in_ok-last.ensures.ok_part in
    let c₁ = arrow_count (sorts_of (args.part.source.text.now) (args.sorts.now) (length args.sorts.now)) (args.part.source.text.now) (args.part.source.rows.now) (args.part.source.at + 1) (args.part.k) look.found look.is in
    let n = inputs_count args.marks.constructor look.found (args.part.k) c₁ in
    let f = not_refused (sorts_of (args.part.source.text.now) (args.sorts.now) (length args.sorts.now)) (symbols_of (args.part.source.text.now) (args.symbols.now) (args.count)) (part_of (args.part.source.text.now) (column (row_at (args.part.source.rows.now) (args.part.source.at)) 1) (column (row_at (args.part.source.rows.now) (args.part.source.at)) 2)) (input-count.result) (sym (rw (known, c.part.ensures, c.behind_kind-word.ensures) at c.in_ok-check_symbol.ensures)) in
    let l = symbols_length (args.part.source.text.now) (args.symbols.now) (args.count) (omega (arith, pre.3, pre.4)) in
    let h = find-arrow.auto.inputs in
    let t : length (take c.input_count-n.result find-arrow.new.inputs) ≡ c.input_count-n.result = length-take-le c.input_count-n.result find-arrow.new.inputs (let g = f.0 in omega arith) in
    let few = rw (input-count.ensures) at f.0 in
    let put = rw (t, c.head-symbol.ensures, c.behind_kind-word.ensures, input-count.ensures) at (put-symbol.ensures) in
    record {
      number = 0;
      answer = refl;
      comes_to = record {
        refusal = ((rw (known, c.part.ensures, c.behind_kind-word.ensures) at c.in_ok-check_symbol.ensures) ∙ ap (symbol_refusal (sorts_of (args.part.source.text.now) (args.sorts.now) (length args.sorts.now)) (symbols_of (args.part.source.text.now) (args.symbols.now) (args.count)) _) (input-count.ensures ∙ sym n) ∙ ap (arrow_refusal (sorts_of (args.part.source.text.now) (args.sorts.now) (length args.sorts.now)) (symbols_of (args.part.source.text.now) (args.symbols.now) (args.count)) _ args.marks.constructor) (sym look.is));
        refused = λ z. absurd (z refl);
        entered = λ z ns e. let q : look.found ≡ ns = same_numbers (sym look.is ∙ e) in
            rw (← q) (ap (set (args.symbols.now) (args.count)) (put ∙ row_is (column (row_at (args.part.source.rows.now) (args.part.source.at)) 1) (column (row_at (args.part.source.rows.now) (args.part.source.at)) 2) args.marks.function args.marks.first args.marks.clauses (args.part.k) args.marks.constructor look.found _ _ c₁ look.last_is few look.written));
      };
    }

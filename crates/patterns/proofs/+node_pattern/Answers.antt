-- `pattern` and `node` meet their contracts. What falls: twice the rows left, and 1 more for `node`. The invariant of `node`'s loop: k arguments are done,
-- and the rest comes to what the whole comes to.
use Prim.Native.Nat.{◌+◌, ◌-◌, ◌≤◌, ◌<◌}
use mathlib.Core.List.{[]}
use mathlib.Core.Path.{◌≡◌, refl, sym, ap, ◌∙◌}
use lib.ListN.{length, take, drop, get_or}
use lib.Seq.{length-take-le}
use Rattle.term_parser.specs.Source.{one}
use Rattle.names.specs.Names.{name_of}
use Rattle.names.specs.UsedLaws.{some_symbol, no_symbol}
use Rattle.names.specs.Symbols.{column, row_at, symbols_of, variables_of}
use Rattle.patterns.specs.Patterns.{pattern_of, Out}
use Rattle.patterns.specs.Promises.{stored}
use Rattle.std.specs.Option.{unwrap_or, option_map}
use Rattle.refusals.specs.Refused.{handed_on, none_is}
use Rattle.patterns.proofs.Variables.{room_left, room_none}
use Rattle.patterns.proofs.Symbols.{misfit_args}
use Rattle.patterns.proofs.Places.{placed_variable, placed_none, placed_node}
use Rattle.patterns.proofs.Terms.{input_at, part_long, part_at, symbols_length, inputs_at, loop_start, loop_refused, loop_turn, loop_done, node_misfit, node_full, node_open, app_refused, node_done, out_of_rows, is_numeral_lem, is_meta, is_node, is_unknown, is_judgment, is_variable}
use native.Mathlib.Omega.{arith}
use Rattle.patterns.proofs.+node_pattern.Goals as goal

pub node-returns-in_err-misfit : goal.node-returns-in_err-misfit
node-returns-in_err-misfit t c =
    let args = c.args in
    let pre = c.requires in
    rw (handed_on c.from_residual.result c.from_residual.ensures.1)
    (record {
      small = tt;
      placed = tt;
      same = λ ts q st cn. (tt, node_misfit (args.source.text.now) (args.source.symbols.now) (length args.source.symbols.now) (pre.0.lent) (args.i) (pre.1.0) (args.want) (variables_of (args.source.text.now) (args.variables.now) (args.from.variables)) (args.from.room) (c.in_err-misfit.ensures args.source.text.now).0 (λ z. let l = (c.in_err-misfit.ensures args.source.text.now).1 in omega arith) ts cn (args.words.now) (args.from.used));
    })

pub node-returns-in_err-ok_or : goal.node-returns-in_err-ok_or
node-returns-in_err-ok_or t c =
    let args = c.args in
    let pre = c.requires in
    rw (handed_on c.from_residual-in_err-ok_or.result c.from_residual-in_err-ok_or.ensures.1, none_is c.checked_sub.result c.in_err-ok_or.ensures.ok_part c.in_err-ok_or.ensures.value)
    (record {
      small = tt;
      placed = tt;
      same = λ ts q st cn. (tt, node_full (args.source.text.now) (args.source.symbols.now) (length args.source.symbols.now) (pre.0.lent) (args.i) (pre.1.0) (args.want) (variables_of (args.source.text.now) (args.variables.now) (args.from.variables)) (args.from.room) (c.in_ok-misfit.ensures args.source.text.now) refl ts cn (room_none c.checked_sub.ensures c.in_err-ok_or.ensures.ok_part) (args.words.now) (args.from.used));
    })

pub node-loop-k-init : goal.node-loop-k-init
node-loop-k-init t c =
    let args = c.args in
    let pre = c.requires in
    let b : args.arguments ≡ column (row_at (args.source.symbols.now) (args.i)) 6 = misfit_args (args.source.text.now) (row_at (args.source.symbols.now) (args.i)) (args.want) (args.arguments) (c.in_ok-misfit.ensures args.source.text.now) in
    let x = pre.0.inputs (args.i) (pre.1.0) in
    let (l, e) = room_left c.checked_sub.ensures c.in_ok-ok_or.ensures.ok_part in
    rw e (loop_start (args.source.text.now) (args.source.rows.now) (args.from.next) (args.arguments) (symbols_of (args.source.text.now) (args.source.symbols.now) (length args.source.symbols.now)) (inputs_at (args.source.text.now) (args.source.symbols.now) (length args.source.symbols.now) (args.i)) (args.variables.now) (args.from.variables) (args.words.now) (args.from.used) (args.from.room - 1) _ (pre.0.entered) (let long : args.arguments ≤ 16 = omega arith in long))

pub node-slice_bounds-sort-items-end : goal.node-slice_bounds-sort-items-end
node-slice_bounds-sort-items-end t c =
    let args = c.args in
    let pre = c.requires in
    let b : args.arguments ≡ column (row_at (args.source.symbols.now) (args.i)) 6 = misfit_args (args.source.text.now) (row_at (args.source.symbols.now) (args.i)) (args.want) (args.arguments) (c.in_ok-misfit.ensures args.source.text.now) in
    let x = pre.0.inputs (args.i) (pre.1.0) in
    omega arith

pub node-overflow_add-sort-items : goal.node-overflow_add-sort-items
node-overflow_add-sort-items t c =
    let args = c.args in
    let pre = c.requires in
    let b : args.arguments ≡ column (row_at (args.source.symbols.now) (args.i)) 6 = misfit_args (args.source.text.now) (row_at (args.source.symbols.now) (args.i)) (args.want) (args.arguments) (c.in_ok-misfit.ensures args.source.text.now) in
    let x = pre.0.inputs (args.i) (pre.1.0) in
    omega arith

pub node-returns-in_err-made : goal.node-returns-in_err-made
node-returns-in_err-made t c =
    let args = c.args in
    let pre = c.requires in
    let loop = c.loop-k in
    let loop-test = c.loop-k-test in
    let pattern = c.pattern in
    let (l, e) = room_left c.checked_sub.ensures c.in_ok-ok_or.ensures.ok_part in
    let b : args.arguments ≡ column (row_at (args.source.symbols.now) (args.i)) 6 = misfit_args (args.source.text.now) (row_at (args.source.symbols.now) (args.i)) (args.want) (args.arguments) (c.in_ok-misfit.ensures args.source.text.now) in
    let x = pre.0.inputs (args.i) (pre.1.0) in
    let row = row_at args.source.symbols.now args.i in
    let w = part_long row args.arguments (omega arith) in
    let more : loop.k < args.arguments = omega (arith, loop-test.true) in
    rw (handed_on c.from_residual-in_err-made.result c.from_residual-in_err-made.ensures.1)
    (record {
      small = tt;
      placed = tt;
      same = λ ts q st cn. (
        tt,
        app_refused (pattern_of (symbols_of (args.source.text.now) (args.source.symbols.now) (length args.source.symbols.now)) ts (inputs_at (args.source.text.now) (args.source.symbols.now) (length args.source.symbols.now) (args.i)) (variables_of (args.source.text.now) (args.variables.now) (args.from.variables)) (args.from.room - 1)) (args.i) (args.words.now) (args.from.used) (loop_refused (args.source.text.now) (args.source.rows.now) (args.from.next) (args.arguments) (symbols_of (args.source.text.now) (args.source.symbols.now) (length args.source.symbols.now)) (inputs_at (args.source.text.now) (args.source.symbols.now) (length args.source.symbols.now) (args.i)) (args.variables.now) (args.from.variables) (args.words.now) (args.from.used) (args.from.room - 1) (loop.k) (loop.place.next) (loop.variables) (loop.place.variables) (loop.words) (loop.place.used) (loop.place.room) (loop.refs) (loop.invariant) more (get_or (take (8 + args.arguments - 8) (drop 8 row)) loop.k 0) (input_at (args.source.text.now) (args.source.symbols.now) (length args.source.symbols.now) (pre.0.lent) (args.i) (pre.1.0) 0 [] 0 (loop.k) (rw b at more) ∙ sym (part_at row args.arguments loop.k more)) (pattern.result) _ _ (pattern.ensures) c.in_err-made.was ts q st cn)
            ∙ ap (λ (x : Out one). stored [] x (args.words.now) (args.from.used)) (sym (node_open (args.source.text.now) (args.source.symbols.now) (length args.source.symbols.now) (pre.0.lent) (args.i) (pre.1.0) (args.want) (variables_of (args.source.text.now) (args.variables.now) (args.from.variables)) (args.from.room) (c.in_ok-misfit.ensures args.source.text.now) refl ts cn l)),
      );
    })

pub node-bounds-refs-k : goal.node-bounds-refs-k
node-bounds-refs-k t c =
    let args = c.args in
    let pre = c.requires in
    let loop = c.loop-k in
    let b : args.arguments ≡ column (row_at (args.source.symbols.now) (args.i)) 6 = misfit_args (args.source.text.now) (row_at (args.source.symbols.now) (args.i)) (args.want) (args.arguments) (c.in_ok-misfit.ensures args.source.text.now) in
    let x = pre.0.inputs (args.i) (pre.1.0) in
    omega (arith, loop.invariant.long)

pub node-loop-k-preserved : goal.node-loop-k-preserved
node-loop-k-preserved t c =
    let args = c.args in
    let pre = c.requires in
    let loop = c.loop-k in
    let loop-test = c.loop-k-test in
    let pattern = c.pattern in
    let b : args.arguments ≡ column (row_at (args.source.symbols.now) (args.i)) 6 = misfit_args (args.source.text.now) (row_at (args.source.symbols.now) (args.i)) (args.want) (args.arguments) (c.in_ok-misfit.ensures args.source.text.now) in
    let x = pre.0.inputs (args.i) (pre.1.0) in
    let row = row_at args.source.symbols.now args.i in
    let w = part_long row args.arguments (omega arith) in
    let more : loop.k < args.arguments = omega (arith, loop-test.true) in
    loop_turn (args.source.text.now) (args.source.rows.now) (args.from.next) (args.arguments) (symbols_of (args.source.text.now) (args.source.symbols.now) (length args.source.symbols.now)) (inputs_at (args.source.text.now) (args.source.symbols.now) (length args.source.symbols.now) (args.i)) (args.variables.now) (args.from.variables) (args.words.now) (args.from.used) (args.from.room - 1) (loop.k) (loop.place.next) (loop.variables) (loop.place.variables) (loop.words) (loop.place.used) (loop.place.room) (loop.refs) (loop.invariant) more (get_or (take (8 + args.arguments - 8) (drop 8 row)) loop.k 0) (input_at (args.source.text.now) (args.source.symbols.now) (length args.source.symbols.now) (pre.0.lent) (args.i) (pre.1.0) 0 [] 0 (loop.k) (rw b at more) ∙ sym (part_at row args.arguments loop.k more)) (pattern.result) _ _ (pattern.ensures) c.in_ok-made.was (pattern.auto.variables) (pattern.auto.words)

pub node-slice_bounds-refs-end : goal.node-slice_bounds-refs-end
node-slice_bounds-refs-end t c =
    let args = c.args in
    let pre = c.requires in
    let loop = c.loop-k in
    let b : args.arguments ≡ column (row_at (args.source.symbols.now) (args.i)) 6 = misfit_args (args.source.text.now) (row_at (args.source.symbols.now) (args.i)) (args.want) (args.arguments) (c.in_ok-misfit.ensures args.source.text.now) in
    let x = pre.0.inputs (args.i) (pre.1.0) in
    omega (arith, loop.invariant.long)

pub node-slice_bounds-push_node-end : goal.node-slice_bounds-push_node-end
node-slice_bounds-push_node-end t c =
    let args = c.args in
    let pre = c.requires in
    let loop = c.loop-k in
    let b : args.arguments ≡ column (row_at (args.source.symbols.now) (args.i)) 6 = misfit_args (args.source.text.now) (row_at (args.source.symbols.now) (args.i)) (args.want) (args.arguments) (c.in_ok-misfit.ensures args.source.text.now) in
    let x = pre.0.inputs (args.i) (pre.1.0) in
    let six = loop.invariant.long in
    let n : length (take (args.arguments) (loop.refs)) ≡ args.arguments = length-take-le (args.arguments) (loop.refs) (omega arith) in
    sym n

pub node-returns : goal.node-returns
node-returns t c =
    let args = c.args in
    let pre = c.requires in
    let loop = c.loop-k in
    let loop-test = c.loop-k-test in
    let push-node = c.push_node in
    let (l, e) = room_left c.checked_sub.ensures c.in_ok-ok_or.ensures.ok_part in
    let b : args.arguments ≡ column (row_at (args.source.symbols.now) (args.i)) 6 = misfit_args (args.source.text.now) (row_at (args.source.symbols.now) (args.i)) (args.want) (args.arguments) (c.in_ok-misfit.ensures args.source.text.now) in
    let x = pre.0.inputs (args.i) (pre.1.0) in
    let row = row_at args.source.symbols.now args.i in
    let w = part_long row args.arguments (omega arith) in
    let none : args.arguments ≤ loop.k = omega (arith, loop-test.false) in
    let L = loop.invariant in
    record {
      small = (L.from, L.grown, L.bound, omega arith, omega arith);
      placed = L.placed;
      same = λ ts q st cn. let d = loop_done (args.source.text.now) (args.source.rows.now) (args.from.next) (args.arguments) (symbols_of (args.source.text.now) (args.source.symbols.now) (length args.source.symbols.now)) (inputs_at (args.source.text.now) (args.source.symbols.now) (length args.source.symbols.now) (args.i)) (args.variables.now) (args.from.variables) (args.words.now) (args.from.used) (args.from.room - 1) (loop.k) (loop.place.next) (loop.variables) (loop.place.variables) (loop.words) (loop.place.used) (loop.place.room) (loop.refs) (loop.invariant) none ts q st cn in (
        d.0,
        node_done (pattern_of (symbols_of (args.source.text.now) (args.source.symbols.now) (length args.source.symbols.now)) ts (inputs_at (args.source.text.now) (args.source.symbols.now) (length args.source.symbols.now) (args.i)) (variables_of (args.source.text.now) (args.variables.now) (args.from.variables)) (args.from.room - 1)) (args.i) (args.words.now) (args.from.used) (loop.refs) (args.arguments) (loop.words) (loop.place.used) _ (loop.place.room) _ (omega (arith, L.long)) (rw c.header_of-h.ensures at push-node.ensures) d.1
            ∙ ap (λ (x : Out one). stored [] x (args.words.now) (args.from.used)) (sym (node_open (args.source.text.now) (args.source.symbols.now) (length args.source.symbols.now) (pre.0.lent) (args.i) (pre.1.0) (args.want) (variables_of (args.source.text.now) (args.variables.now) (args.from.variables)) (args.from.room) (c.in_ok-misfit.ensures args.source.text.now) refl ts cn l)),
      );
    }

pub pattern-returns-in_err-row : goal.pattern-returns-in_err-row
pattern-returns-in_err-row t c =
    let past = rw c.in_err-row.ensures.ok_part at c.get.ensures.lookup.3 in
    rw (handed_on c.from_residual.result c.from_residual.ensures.1, none_is c.get.result c.in_err-row.ensures.ok_part c.in_err-row.ensures.value)
    (record {
      small = tt;
      placed = tt;
      same = λ t q st. out_of_rows (c.args.source.text.now) (c.args.source.rows.now) (c.args.from.next) past t q st;
    })

pub pattern-returns-in-14 : goal.pattern-returns-in-14
pattern-returns-in-14 t c =
    let there : c.args.from.next < length c.args.source.rows.now = omega (arith, rw c.in_ok-row.ensures.ok_part at c.get.ensures.lookup.3) in
    let g : c.in_ok-row.field-0.now ≡ row_at c.args.source.rows.now c.args.from.next = ap (λ r. unwrap_or (option_map (λ x. x.now) r) []) (sym c.in_ok-row.ensures.ok_part) ∙ c.get.ensures.lookup.4 (omega arith) [] in
    let pre = c.requires in
    let told = rw g at c.numeral.ensures in
    let args = c.args in
    let low = pre.low in
    record {
      small = told.small;
      placed = placed_none args.source.rows.now args.from.next args.variables.now args.from.variables c.numeral.result told.none_new;
      same = λ t q st. let x = is_numeral_lem (args.source.text.now) (args.source.rows.now) (args.from.next) (symbols_of (args.source.text.now) (args.source.symbols.now) (length args.source.symbols.now)) (args.want) (variables_of (args.source.text.now) (args.variables.now) (args.from.variables)) (args.from.room) t q st (omega arith) (rw g at c.in-14.is) in (
        rw x.0 at (told.going),
        told.same args.variables.now
            ∙ ap (λ (y : Out one). stored [] y (args.words.now) (args.from.used)) x.1,
      );
    }

pub pattern-returns-in-13 : goal.pattern-returns-in-13
pattern-returns-in-13 t c =
    let there : c.args.from.next < length c.args.source.rows.now = omega (arith, rw c.in_ok-row.ensures.ok_part at c.get.ensures.lookup.3) in
    let g : c.in_ok-row.field-0.now ≡ row_at c.args.source.rows.now c.args.from.next = ap (λ r. unwrap_or (option_map (λ x. x.now) r) []) (sym c.in_ok-row.ensures.ok_part) ∙ c.get.ensures.lookup.4 (omega arith) [] in
    let told = rw g at c.variable.ensures in
    let args = c.args in
    record {
      small = told.small;
      placed = let k : column (row_at args.source.rows.now args.from.next) 0 ≡ 13 = rw g at c.in-13.is in
          placed_variable args.source.rows.now args.from.next args.variables.now args.from.variables _ c.variable.result (λ e. omega arith) (λ e. omega arith)
          told.next_is told.made_placed;
      same = λ t q st. let x = is_meta (args.source.text.now) (args.source.rows.now) (args.from.next) (symbols_of (args.source.text.now) (args.source.symbols.now) (length args.source.symbols.now)) (args.want) (variables_of (args.source.text.now) (args.variables.now) (args.from.variables)) (args.from.room) t q st (rw g at c.in-13.is) in (
        rw x.0 at (told.next_is),
        told.by_index (args.words.now)
            ∙ ap (λ (y : Out one). stored [] y (args.words.now) (args.from.used)) x.1,
      );
    }

pub pattern-returns-in-Some : goal.pattern-returns-in-Some
pattern-returns-in-Some t c =
    let there : c.args.from.next < length c.args.source.rows.now = omega (arith, rw c.in_ok-row.ensures.ok_part at c.get.ensures.lookup.3) in
    let g : c.in_ok-row.field-0.now ≡ row_at c.args.source.rows.now c.args.from.next = ap (λ r. unwrap_or (option_map (λ x. x.now) r) []) (sym c.in_ok-row.ensures.ok_part) ∙ c.get.ensures.lookup.4 (omega arith) [] in
    let k = ap (λ r. column r 0) g in
    let args = c.args in
    let pre = c.requires in
    let told = rw g at c.node.ensures in
    let e = some_symbol args.source.text.now args.source.symbols.now (name_of args.source.text.now (column (row_at args.source.rows.now args.from.next) 0) (column (row_at args.source.rows.now args.from.next) 1) (column (row_at args.source.rows.now args.from.next) 2)) c.in-Some.i (rw g at c.in-Some.ensures) in
    let n = symbols_length (args.source.text.now) (args.source.symbols.now) (length args.source.symbols.now) (pre.lent) in
    record {
      small = told.small;
      placed = placed_node args.source.rows.now args.from.next args.variables.now args.from.variables _ c.node.result told.placed;
      same = λ t q st. let x = is_node (args.source.text.now) (args.source.rows.now) (args.from.next) (symbols_of (args.source.text.now) (args.source.symbols.now) (length args.source.symbols.now)) (args.want) (variables_of (args.source.text.now) (args.variables.now) (args.from.variables)) (args.from.room) t q st c.in-Some.i e.0 (λ e. omega (arith, k, c.in_default)) (λ e. omega (arith, k, c.in_default)) (rw n e.1) in
          let y = told.same x.0 q x.1 x.2 in
          (y.0, y.1 ∙ ap (λ (z : Out one). stored [] z (args.words.now) (args.from.used)) x.3);
    }

pub pattern-returns-then-kind-eq-APPLICATION : goal.pattern-returns-then-kind-eq-APPLICATION
pattern-returns-then-kind-eq-APPLICATION t c =
    let there : c.args.from.next < length c.args.source.rows.now = omega (arith, rw c.in_ok-row.ensures.ok_part at c.get.ensures.lookup.3) in
    let g : c.in_ok-row.field-0.now ≡ row_at c.args.source.rows.now c.args.from.next = ap (λ r. unwrap_or (option_map (λ x. x.now) r) []) (sym c.in_ok-row.ensures.ok_part) ∙ c.get.ensures.lookup.4 (omega arith) [] in
    let k = ap (λ r. column r 0) g in
    let args = c.args in
    let pre = c.requires in
    let if5 = c.if-kind-eq-APPLICATION in
    let l = no_symbol args.source.text.now args.source.symbols.now (name_of args.source.text.now (column (row_at args.source.rows.now args.from.next) 0) (column (row_at args.source.rows.now args.from.next) 1) (column (row_at args.source.rows.now args.from.next) 2)) (rw g at c.in-None.ensures) in
    let n = symbols_length (args.source.text.now) (args.source.symbols.now) (length args.source.symbols.now) (pre.lent) in
    record {
      small = tt;
      placed = tt;
      same = λ t q st. (tt, ap (λ (z : Out one). stored [] z (args.words.now) (args.from.used)) (is_unknown (args.source.text.now) (args.source.rows.now) (args.from.next) (symbols_of (args.source.text.now) (args.source.symbols.now) (length args.source.symbols.now)) (args.want) (variables_of (args.source.text.now) (args.variables.now) (args.from.variables)) (args.from.room) t q st _ refl (λ e. omega (arith, k, c.in_default)) (λ e. omega (arith, k, c.in_default)) (rw n l) (sym k ∙ if5.true)));
    }

pub pattern-returns-then-want-eq0 : goal.pattern-returns-then-want-eq0
pattern-returns-then-want-eq0 t c =
    let there : c.args.from.next < length c.args.source.rows.now = omega (arith, rw c.in_ok-row.ensures.ok_part at c.get.ensures.lookup.3) in
    let g : c.in_ok-row.field-0.now ≡ row_at c.args.source.rows.now c.args.from.next = ap (λ r. unwrap_or (option_map (λ x. x.now) r) []) (sym c.in_ok-row.ensures.ok_part) ∙ c.get.ensures.lookup.4 (omega arith) [] in
    let k = ap (λ r. column r 0) g in
    let args = c.args in
    let pre = c.requires in
    let if5 = c.if-kind-eq-APPLICATION in
    let if6 = c.if-want-eq0 in
    let l = no_symbol args.source.text.now args.source.symbols.now (name_of args.source.text.now (column (row_at args.source.rows.now args.from.next) 0) (column (row_at args.source.rows.now args.from.next) 1) (column (row_at args.source.rows.now args.from.next) 2)) (rw g at c.in-None.ensures) in
    let n = symbols_length (args.source.text.now) (args.source.symbols.now) (length args.source.symbols.now) (pre.lent) in
    record {
      small = tt;
      placed = tt;
      same = λ t q st. (tt, ap (λ (z : Out one). stored [] z (args.words.now) (args.from.used)) (is_judgment (args.source.text.now) (args.source.rows.now) (args.from.next) (symbols_of (args.source.text.now) (args.source.symbols.now) (length args.source.symbols.now)) (args.want) (variables_of (args.source.text.now) (args.variables.now) (args.from.variables)) (args.from.room) t q st _ refl (λ e. omega (arith, k, c.in_default)) (λ e. omega (arith, k, c.in_default)) (rw n l) (λ e. if5.false (k ∙ e)) (if6.true)));
    }

pub pattern-returns-else-want-eq0 : goal.pattern-returns-else-want-eq0
pattern-returns-else-want-eq0 t c =
    let there : c.args.from.next < length c.args.source.rows.now = omega (arith, rw c.in_ok-row.ensures.ok_part at c.get.ensures.lookup.3) in
    let g : c.in_ok-row.field-0.now ≡ row_at c.args.source.rows.now c.args.from.next = ap (λ r. unwrap_or (option_map (λ x. x.now) r) []) (sym c.in_ok-row.ensures.ok_part) ∙ c.get.ensures.lookup.4 (omega arith) [] in
    let k = ap (λ r. column r 0) g in
    let args = c.args in
    let pre = c.requires in
    let told = rw g at c.variable-in-None.ensures in
    let if5 = c.if-kind-eq-APPLICATION in
    let if6 = c.if-want-eq0 in
    let l = no_symbol args.source.text.now args.source.symbols.now (name_of args.source.text.now (column (row_at args.source.rows.now args.from.next) 0) (column (row_at args.source.rows.now args.from.next) 1) (column (row_at args.source.rows.now args.from.next) 2)) (rw g at c.in-None.ensures) in
    let n = symbols_length (args.source.text.now) (args.source.symbols.now) (length args.source.symbols.now) (pre.lent) in
    record {
      small = told.small;
      placed = placed_variable args.source.rows.now args.from.next args.variables.now args.from.variables _ c.variable-in-None.result (λ e. omega (arith, k, c.in_default)) (λ e. if5.false (k ∙ e))
          told.next_is told.made_placed;
      same = λ t q st. let x = is_variable (args.source.text.now) (args.source.rows.now) (args.from.next) (symbols_of (args.source.text.now) (args.source.symbols.now) (length args.source.symbols.now)) (args.want) (variables_of (args.source.text.now) (args.variables.now) (args.from.variables)) (args.from.room) t q st _ refl (λ e. omega (arith, k, c.in_default)) (λ e. omega (arith, k, c.in_default)) (rw n l) (λ e. if5.false (k ∙ e)) (if6.false) in (
        rw x.0 at (told.next_is),
        told.by_index (args.words.now)
            ∙ ap (λ (y : Out one). stored [] y (args.words.now) (args.from.used)) x.1,
      );
    }

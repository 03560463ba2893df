-- `flatten` meets its contract: the rows left fall. The loop's invariant: of the arguments, the first i are flattened, and the others are left.
use Rattle.std.specs.Option.{unwrap_or, option_map}
use Rattle.names.specs.Symbols.{row_at, symbols_of}
use Rattle.flattening.proofs.FlatteningLaws.{past_rows, loop_start, argument_room, turn_over, turn, end_plain, finish_room, end_call}
use native.Mathlib.Omega.{arith}
use Prim.Native.Nat.{◌<◌}
use mathlib.Core.List.{[]}
use lib.ListN.{length}
use mathlib.Core.Path.{◌≡◌, sym, ap, ◌∙◌}
use Rattle.flattening.proofs.+flatten.Goals as goal

pub returns-in_err-row : goal.returns-in_err-row
returns-in_err-row t c =
    let past = rw c.in_err-row.was at c.get.ensures.lookup.3 in
    rw c.from_residual.ensures (past_rows c.args.source.text.now c.args.source.rows.now c.args.from.next (symbols_of c.args.source.text.now c.args.source.symbols.now (length c.args.source.symbols.now)) c.args.calls.now c.args.from.end c.args.from.number past)

pub loop-i-init : goal.loop-i-init
loop-i-init t c =
    let l : c.args.from.next < length c.args.source.rows.now = omega (arith, rw c.in_ok-row.was at c.get.ensures.lookup.3) in
    let e : c.in_ok-row.field-0.now ≡ row_at c.args.source.rows.now c.args.from.next = ap (λ r. unwrap_or (option_map (λ x. x.now) r) []) (sym c.in_ok-row.was) ∙ c.get.ensures.lookup.4 (omega arith) [] in
    rw e (loop_start c.args.source.text.now c.requires l c.arity-n.result)

pub flatten-requires : goal.flatten-requires
flatten-requires t c =
    let l : c.args.from.next < length c.args.source.rows.now = omega (arith, rw c.in_ok-row.was at c.get.ensures.lookup.3) in
    let e : c.in_ok-row.field-0.now ≡ row_at c.args.source.rows.now c.args.from.next = ap (λ r. unwrap_or (option_map (λ x. x.now) r) []) (sym c.in_ok-row.was) ∙ c.get.ensures.lookup.4 (omega arith) [] in
    let n = rw e at c.arity-n.ensures.value in
    let i = rw e at c.loop-i.invariant in
    (omega (arith, c.loop-i.invariant.onward), argument_room c.requires l n i c.loop-i-test.true)

pub returns-in_err-place : goal.returns-in_err-place
returns-in_err-place t c =
    let l : c.args.from.next < length c.args.source.rows.now = omega (arith, rw c.in_ok-row.was at c.get.ensures.lookup.3) in
    let e : c.in_ok-row.field-0.now ≡ row_at c.args.source.rows.now c.args.from.next = ap (λ r. unwrap_or (option_map (λ x. x.now) r) []) (sym c.in_ok-row.was) ∙ c.get.ensures.lookup.4 (omega arith) [] in
    let n = rw e at c.arity-n.ensures.value in
    let i = rw e at c.loop-i.invariant in
    rw c.from_residual-in_err-place.ensures (turn_over c.requires l n i c.loop-i-test.true c.in_err-place.ensures)

pub loop-i-preserved : goal.loop-i-preserved
loop-i-preserved t c =
    let l : c.args.from.next < length c.args.source.rows.now = omega (arith, rw c.in_ok-row.was at c.get.ensures.lookup.3) in
    let e : c.in_ok-row.field-0.now ≡ row_at c.args.source.rows.now c.args.from.next = ap (λ r. unwrap_or (option_map (λ x. x.now) r) []) (sym c.in_ok-row.was) ∙ c.get.ensures.lookup.4 (omega arith) [] in
    let n = rw e at c.arity-n.ensures.value in
    let i = rw e at c.loop-i.invariant in
    rw e (turn c.requires l n i c.loop-i-test.true c.in_ok-place.ensures)

pub finish-requires : goal.finish-requires
finish-requires t c =
    let l : c.args.from.next < length c.args.source.rows.now = omega (arith, rw c.in_ok-row.was at c.get.ensures.lookup.3) in
    let e : c.in_ok-row.field-0.now ≡ row_at c.args.source.rows.now c.args.from.next = ap (λ r. unwrap_or (option_map (λ x. x.now) r) []) (sym c.in_ok-row.was) ∙ c.get.ensures.lookup.4 (omega arith) [] in
    let n = rw e at c.arity-n.ensures.value in
    let i = rw e at c.loop-i.invariant in
    finish_room c.requires l n i c.loop-i-test.false

pub returns-then-is_some : goal.returns-then-is_some
returns-then-is_some t c =
    let l : c.args.from.next < length c.args.source.rows.now = omega (arith, rw c.in_ok-row.was at c.get.ensures.lookup.3) in
    let e : c.in_ok-row.field-0.now ≡ row_at c.args.source.rows.now c.args.from.next = ap (λ r. unwrap_or (option_map (λ x. x.now) r) []) (sym c.in_ok-row.was) ∙ c.get.ensures.lookup.4 (omega arith) [] in
    let n = rw e at c.arity-n.ensures.value in
    let i = rw e at c.loop-i.invariant in
    end_call c.requires l n i c.loop-i-test.false (rw e at c.callee.ensures) (sym c.is_some.ensures ∙ c.if-is_some.true) _ _ c.finish.result c.finish.auto.out c.finish.auto.calls (rw e at (rw c.behind_kind.ensures at c.finish.ensures))

pub returns : goal.returns
returns t c =
    let l : c.args.from.next < length c.args.source.rows.now = omega (arith, rw c.in_ok-row.was at c.get.ensures.lookup.3) in
    let e : c.in_ok-row.field-0.now ≡ row_at c.args.source.rows.now c.args.from.next = ap (λ r. unwrap_or (option_map (λ x. x.now) r) []) (sym c.in_ok-row.was) ∙ c.get.ensures.lookup.4 (omega arith) [] in
    let n = rw e at c.arity-n.ensures.value in
    let i = rw e at c.loop-i.invariant in
    end_plain c.requires l n i c.loop-i-test.false (rw e at c.callee.ensures) (sym c.is_some.ensures ∙ c.if-is_some.false)

-- `search` meets its contract. Each turn raises a mark, or enters or passes over the place ahead.
use Prim.Native.Nat.{suc, ◌+◌, ◌-◌}
use mathlib.Core.Path.{refl, sym, ap, ◌∙◌}
use Rattle.terms.specs.Numbers.{true_false}
use Rattle.arena.specs.Rows.{column}
use Rattle.acyclicity.specs.Edges.{number}
use Rattle.acyclicity.proofs.EdgeLaws.{held_place}
use Rattle.acyclicity.proofs.Turns.{risen, turn_start, ahead_row, top_small, turn_skip, turn_enter, turn_refuse, top_row, turn_close, turn_follow, turn_begin, turn_accept}
use native.Mathlib.Omega.{arith}
use Rattle.acyclicity.proofs.search.Goals as goal

pub loop-variable-init : goal.loop-variable-init
loop-variable-init c = turn_start c.requires

pub loop-reference-init : goal.loop-reference-init
loop-reference-init c = turn_begin c.loop-variable.invariant refl refl (λ e. omega arith)

pub bounds-scratch-row : goal.bounds-scratch-row
bounds-scratch-row c = (ahead_row c.loop-reference.invariant _ (ap number (sym c.take.ensures.value ∙ c.in-Some.is))).0

pub loop-reference-preserved-else-mark-ne-CLOSED : goal.loop-reference-preserved-else-mark-ne-CLOSED
loop-reference-preserved-else-mark-ne-CLOSED c =
    rw c.take.ensures.after (turn_skip c.loop-reference.invariant _ (ap number (sym c.take.ensures.value ∙ c.in-Some.is)) c.if-mark-ne-CLOSED.false)

pub held_of-requires : goal.held_of-requires
held_of-requires c = top_small c.loop-reference.invariant

pub bounds-scratch-row-then-mark-eq0 : goal.bounds-scratch-row-then-mark-eq0
bounds-scratch-row-then-mark-eq0 c = (ahead_row c.loop-reference.invariant _ (ap number (sym c.take.ensures.value ∙ c.in-Some.is))).0

pub loop-reference-smaller-then-mark-eq0 : goal.loop-reference-smaller-then-mark-eq0
loop-reference-smaller-then-mark-eq0 c =
    let loop = c.loop-reference in
    let is = ap number (sym c.take.ensures.value ∙ c.in-Some.is) in
    let d = turn_enter loop.invariant _ is c.if-mark-eq0.true in
    rw (c.held_of.ensures, c.take.ensures.after) (risen loop.scratch c.in-Some.reference 1 (number loop.top) (number loop.ahead) 0 (ahead_row loop.invariant _ is).0 d.state.most
    (let e = c.if-mark-eq0.true in omega arith))

pub loop-reference-preserved-then-mark-eq0 : goal.loop-reference-preserved-then-mark-eq0
loop-reference-preserved-then-mark-eq0 c =
    rw (c.held_of.ensures, c.take.ensures.after)
    (turn_enter c.loop-reference.invariant _ (ap number (sym c.take.ensures.value ∙ c.in-Some.is)) c.if-mark-eq0.true)

pub returns-then-mark-ne-CLOSED : goal.returns-then-mark-ne-CLOSED
returns-then-mark-ne-CLOSED c =
    let loop = c.loop-reference in
    record {
      accepted = λ e. true_false e refl;
      refused = λ e. turn_refuse loop.invariant _ (ap number (sym c.take.ensures.value ∙ c.in-Some.is)) c.if-mark-eq0.false c.if-mark-ne-CLOSED.true;
      long = loop.invariant.long;
      outside = loop.invariant.outside;
    }

pub bounds-scratch-row-in-Some-top : goal.bounds-scratch-row-in-Some-top
bounds-scratch-row-in-Some-top c = let (v, a, b, d, f) = top_row c.loop-reference.invariant (ap number (sym c.take.ensures.value ∙ c.in_default.is)) _ (ap number c.in-Some-top.is) in a

pub overflow_sub-followed : goal.overflow_sub-followed
overflow_sub-followed c = let (v, a, b, d, f) = top_row c.loop-reference.invariant (ap number (sym c.take.ensures.value ∙ c.in_default.is)) _ (ap number c.in-Some-top.is) in d

pub bounds-scratch-row-in-Some-top-2 : goal.bounds-scratch-row-in-Some-top-2
bounds-scratch-row-in-Some-top-2 c = let (v, a, b, d, f) = top_row c.loop-reference.invariant (ap number (sym c.take.ensures.value ∙ c.in_default.is)) _ (ap number c.in-Some-top.is) in a

pub edge_at-requires : goal.edge_at-requires
edge_at-requires c =
    record {
      stored = c.loop-reference.invariant.stored;
      reference = (top_row c.loop-reference.invariant (ap number (sym c.take.ensures.value ∙ c.in_default.is)) _ (ap number c.in-Some-top.is)).0;
    }

pub bounds-scratch-row-in-None : goal.bounds-scratch-row-in-None
bounds-scratch-row-in-None c = let (v, a, b, d, f) = top_row c.loop-reference.invariant (ap number (sym c.take.ensures.value ∙ c.in_default.is)) _ (ap number c.in-Some-top.is) in a

pub loop-reference-smaller-in-None : goal.loop-reference-smaller-in-None
loop-reference-smaller-in-None c =
    let loop = c.loop-reference in
    let (v, a, b, d, f) = top_row loop.invariant (ap number (sym c.take.ensures.value ∙ c.in_default.is)) _ (ap number c.in-Some-top.is) in
    let t = turn_close loop.invariant (ap number (sym c.take.ensures.value ∙ c.in_default.is)) _ (ap number c.in-Some-top.is) _ c.edge_at.ensures (ap number c.in-None.is) in
    rw c.take.ensures.after
    (risen loop.scratch c.in-Some-top.reference 33 (column 1 loop.scratch c.in-Some-top.reference) (number loop.ahead) 0 a t.state.most (omega arith))

pub loop-reference-preserved-in-None : goal.loop-reference-preserved-in-None
loop-reference-preserved-in-None c =
    rw (held_place _ _ c.checked_sub-top.ensures, c.take.ensures.after ∙ sym c.in_default.is ∙ c.take.ensures.value)
    (turn_close c.loop-reference.invariant (ap number (sym c.take.ensures.value ∙ c.in_default.is)) _ (ap number c.in-Some-top.is) _ c.edge_at.ensures (ap number c.in-None.is))

pub bounds-scratch-row-in-Some-edge_at : goal.bounds-scratch-row-in-Some-edge_at
bounds-scratch-row-in-Some-edge_at c = let (v, a, b, d, f) = top_row c.loop-reference.invariant (ap number (sym c.take.ensures.value ∙ c.in_default.is)) _ (ap number c.in-Some-top.is) in a

pub loop-reference-smaller : goal.loop-reference-smaller
loop-reference-smaller c =
    let loop = c.loop-reference in
    let (v, a, b, d, f) = top_row loop.invariant (ap number (sym c.take.ensures.value ∙ c.in_default.is)) _ (ap number c.in-Some-top.is) in
    let edge = sym (ap number c.in-Some-edge_at.is) ∙ c.edge_at.ensures in
    let t = turn_follow loop.invariant (ap number (sym c.take.ensures.value ∙ c.in_default.is)) _ (ap number c.in-Some-top.is) _ edge (λ z. omega arith) in
    risen loop.scratch c.in-Some-top.reference (column 0 loop.scratch c.in-Some-top.reference - 1 + 2) (column 1 loop.scratch c.in-Some-top.reference)
    (number loop.ahead) (suc c.in-Some-edge_at.target) a t.state.most (omega arith)

pub loop-reference-preserved : goal.loop-reference-preserved
loop-reference-preserved c =
    turn_follow c.loop-reference.invariant (ap number (sym c.take.ensures.value ∙ c.in_default.is)) _ (ap number c.in-Some-top.is) _
    (sym (ap number c.in-Some-edge_at.is) ∙ c.edge_at.ensures) (λ z. omega arith)

pub returns : goal.returns
returns c =
    let loop = c.loop-variable in
    let few = loop.invariant.few in
    record {
      accepted = λ e. turn_accept loop.invariant refl refl (omega arith);
      refused = λ e. true_false refl e;
      long = loop.invariant.long;
      outside = loop.invariant.outside;
    }

-- `is_ground` meets its contract.
use native.Mathlib.Omega.{arith}
use native.Mathlib.Numerals.{unary_clauses}
use Rattle.std.proofs.Common.{ℕ, ◌+◌, ◌-◌, ◌≡◌, refl, ◌∙◌, sym, subst}
use Rattle.std.proofs.lemmas.List.{length-take, length-drop}
use Rattle.forward_calls.proofs.Pending.{row_behind, Turn, turn_start, bounded, turn_meta, turn_behind, turn_done}
use Rattle.forward_calls.proofs.is_ground.Goals as goal

pub offset_bounds-term-term : goal.offset_bounds-term-term
offset_bounds-term-term c = let b = bounded (turn_start c.requires) in omega arith

pub slice_bounds-row-items-count : goal.slice_bounds-row-items-count
slice_bounds-row-items-count c = let b = bounded (turn_start c.requires) in omega arith

pub slice_bounds-row-items-start : goal.slice_bounds-row-items-start
slice_bounds-row-items-start c = let b = bounded (turn_start c.requires) in omega arith

pub loop-row-init : goal.loop-row-init
loop-row-init c = (omega arith, simp unary_clauses (turn_start c.requires))

pub returns-then-row-eq-METAVARIABLE : goal.returns-then-row-eq-METAVARIABLE
returns-then-row-eq-METAVARIABLE c =
    turn_meta c.loop-row.invariant.1 c.loop-row.invariant.0 (sym (row_behind c.args.term.rows.now c.args.term.at c.loop-row.row-index 0) ∙ c.if-row-eq-METAVARIABLE.true)

pub overflow_add-left : goal.overflow_add-left
overflow_add-left c =
    let b = bounded c.loop-row.invariant.1 in
    let a = c.arity-left.ensures.upper_bound in
    omega arith

pub returns-then-left-eq0 : goal.returns-then-left-eq0
returns-then-left-eq0 c =
    turn_done (turn_behind c.loop-row.row-index c.loop-row.invariant.1 c.loop-row.invariant.0 c.if-row-eq-METAVARIABLE.false (rw c.arity-left.ensures.value refl)) c.if-left-eq0.true

pub loop-row-preserved : goal.loop-row-preserved
loop-row-preserved c =
    let next = turn_behind c.loop-row.row-index c.loop-row.invariant.1 c.loop-row.invariant.0 c.if-row-eq-METAVARIABLE.false (rw c.arity-left.ensures.value refl) in
    let s : c.args.term.at + c.loop-row.row-index + 1 ≡ c.args.term.at + (c.loop-row.row-index + 1) = omega arith in
    (omega arith, subst (λ (i : ℕ). Turn c.args.term.text.now c.args.term.rows.now c.args.term.at (c.loop-row.left - 1 + c.arity-left.result) i) s next)

pub returns : goal.returns
returns c =
    let b = bounded c.loop-row.invariant.1 in
    let t = c.loop-row-test.false in
    let l = c.loop-row.invariant.0 in
    absurd (let u = simp (length-take, length-drop) at t in let z : ⊥ = omega arith in z)

-- `enter` meets its contract: each way on from a place is one of the theory's equations.
use Rattle.std.proofs.Common.{ℕ, ◌≡◌, ◌+◌, ◌-◌, ap, ◌∙◌, refl, arith, true}
use Rattle.search_machine.specs.Moves.{to_place, to_fail, to_stop, to_goal}
use Rattle.search_machine.specs.declared.Mode.TheVariants.{Proved}
use Rattle.search_machine.specs.Ways.{moved_as, moved_out, moved_proof, moved_built, moved_cut, moved_goal, seen_rule, seen_place, seen_premise, arity_is}
use Rattle.search_machine.proofs.enter.Goals as goal

pub returns-in_default : goal.returns-in_default
returns-in_default c = moved_as c.at_fail.ensures (moved_out c.requires (omega arith))

pub returns-in_default-checked_sub : goal.returns-in_default-checked_sub
returns-in_default-checked_sub c =
    let s : c.in-Some.steps ≡ c.args.m.steps - 1 = omega (arith, c.in-Some.ensures) in
    moved_as (c.at_stop.ensures ∙ ap (λ (n : ℕ). to_stop c.args.m Proved n) s)
    (moved_proof c.requires (omega (arith, c.in-Some.ensures)) (omega arith))

pub bounds-program-x : goal.bounds-program-x
bounds-program-x c =
    let p : c.in-Some-checked_sub.at ≡ c.args.m.parent - 1 = omega (arith, c.in-Some-checked_sub.ensures) in
    seen_rule c.requires c.frame-x.result (rw p at c.frame-x.ensures) (omega (arith, c.in-Some.ensures)) (omega (arith, c.in-Some-checked_sub.ensures))

pub overflow_add-x : goal.overflow_add-x
overflow_add-x c =
    let p : c.in-Some-checked_sub.at ≡ c.args.m.parent - 1 = omega (arith, c.in-Some-checked_sub.ensures) in
    let l = seen_place c.requires c.frame-x.result (rw p at c.frame-x.ensures) (omega (arith, c.in-Some.ensures))
    (omega (arith, c.in-Some-checked_sub.ensures)) in omega arith

pub returns-then-m-row : goal.returns-then-m-row
returns-then-m-row c =
    let s : c.in-Some.steps ≡ c.args.m.steps - 1 = omega (arith, c.in-Some.ensures) in
    let p : c.in-Some-checked_sub.at ≡ c.args.m.parent - 1 = omega (arith, c.in-Some-checked_sub.ensures) in
    let x = c.frame-x.result in
    moved_as (c.at_place.ensures ∙ ap (λ (n : ℕ). to_place c.args.m x.parent (x.place + 1) n) s)
    (moved_built c.requires x (rw p at c.frame-x.ensures) _ (arity_is c.args.program.rules.now x.rule) (omega (arith, c.in-Some.ensures))
    (omega (arith, c.in-Some-checked_sub.ensures)) c.if-m-row.true)

pub returns-in_default-checked_sub-2 : goal.returns-in_default-checked_sub-2
returns-in_default-checked_sub-2 c =
    let s : c.in-Some.steps ≡ c.args.m.steps - 1 = omega (arith, c.in-Some.ensures) in
    let p : c.in-Some-checked_sub.at ≡ c.args.m.parent - 1 = omega (arith, c.in-Some-checked_sub.ensures) in
    let x = c.frame-x.result in
    moved_as (c.at_fail-in_default-checked_sub-2.ensures ∙ ap (λ (n : ℕ). to_fail c.args.m n true) s)
    (moved_cut c.requires x (rw p at c.frame-x.ensures) _ (arity_is c.args.program.rules.now x.rule) (omega (arith, c.in-Some.ensures))
    (omega (arith, c.in-Some-checked_sub.ensures)) c.if-m-row.false (omega (arith, c.in_default-checked_sub-2.ensures)))

pub premise-goal-requires : goal.premise-goal-requires
premise-goal-requires c =
    let p : c.in-Some-checked_sub.at ≡ c.args.m.parent - 1 = omega (arith, c.in-Some-checked_sub.ensures) in
    let x = c.frame-x.result in (
      c.args.program.rules.now,
      seen_premise c.requires x (rw p at c.frame-x.ensures) (omega (arith, c.in-Some.ensures)) (omega (arith, c.in-Some-checked_sub.ensures)) _
          (arity_is c.args.program.rules.now x.rule) c.if-m-row.false,
      refl,
    )

pub returns : goal.returns
returns c =
    let s : c.in-Some.steps ≡ c.args.m.steps - 1 = omega (arith, c.in-Some.ensures) in
    let p : c.in-Some-checked_sub.at ≡ c.args.m.parent - 1 = omega (arith, c.in-Some-checked_sub.ensures) in
    let x = c.frame-x.result in
    let d : c.in-Some-checked_sub-2.depth ≡ x.depth - 1 = omega (arith, c.in-Some-checked_sub-2.ensures) in
    let asked = seen_premise c.requires x (rw p at c.frame-x.ensures) (omega (arith, c.in-Some.ensures)) (omega (arith, c.in-Some-checked_sub.ensures)) _
    (arity_is c.args.program.rules.now x.rule) c.if-m-row.false in
    moved_as (c.at_goal.ensures ∙ ap (λ (n : ℕ). to_goal c.args.m c.premise-goal.result n c.in-Some.steps) d
    ∙ ap (λ (n : ℕ). to_goal c.args.m c.premise-goal.result (x.depth - 1) n) s)
    (moved_goal c.requires x (rw p at c.frame-x.ensures) _ (arity_is c.args.program.rules.now x.rule) (omega (arith, c.in-Some.ensures))
    (omega (arith, c.in-Some-checked_sub.ensures)) c.premise-goal.result (c.premise-goal.ensures c.args.program.rules.now asked refl)
    c.if-m-row.false (omega (arith, c.in-Some-checked_sub-2.ensures)))

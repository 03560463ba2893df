-- `equate` meets its contract. The loop's invariant: what is left to be made equal, under the bindings held, comes to what the whole comes to; links
-- join equal terms; bindings, links and open pairs were only added. What falls: links still possible, room on the stack, arguments left, the stage.
use mathlib.Core.Path.{refl, sym, ap, ◌∙◌}
use Rattle.std.specs.Prelude.{is_some}
use Rattle.unifier.specs.Equating.{loop_idle, loop_start, loop_false, links_long, pending_form, turn_same, turn_open, turn_enter, bind_in, bind_room, open_in, open_room, less_open, turn_clash, turn_done, deep_in, last_nodes, last_fits, turn_next, less_next, link_room, turn_close, less_close}
use native.Mathlib.Omega.{arith}
use Rattle.std.proofs.Math.Nat.{one-le_iff_ne-zero}
use Rattle.unifier.proofs.equations.equate.Goals as goal

pub loop-x-init : goal.loop-x-init
loop-x-init c =
    loop_start c.requires.fact_1 c.requires.fact_2.0 c.requires.fact_2.1 c.requires.fact_3.links_free c.requires.fact_3.marks_free c.requires.fact_3.stack_lent c.requires.fact_3.stack_empty

pub loop-x-preserved-in-Same : goal.loop-x-preserved-in-Same
loop-x-preserved-in-Same c =
    rw c.take.ensures.after (loop_idle 0 0 (turn_same (rw (sym c.take.ensures.value ∙ c.in-Some.is) at c.loop-x.invariant) refl _ c.decide.ensures.marks c.in-Same.ensures.says))

pub overflow_add-z : goal.overflow_add-z
overflow_add-z c =
    let room = (bind_in (rw (sym c.take.ensures.value ∙ c.in-Some.is) at c.loop-x.invariant) refl _ _ c.in-Bind.ensures.says).2 in
    let low = c.loop-x.invariant.fixed.low in
    omega arith

pub enter-requires : goal.enter-requires
enter-requires c = bind_room (rw (sym c.take.ensures.value ∙ c.in-Some.is) at c.loop-x.invariant) refl _ _ c.in-Bind.ensures.says

pub overflow_add-n : goal.overflow_add-n
overflow_add-n c =
    let h = rw (sym c.take.ensures.value ∙ c.in-Some.is) at c.loop-x.invariant in
    let room = (bind_in h refl _ _ c.in-Bind.ensures.says).1 in
    let few = (pending_form h refl).few in
    let low = c.loop-x.invariant.fixed.low in
    omega arith

pub loop-x-preserved-in-Bind : goal.loop-x-preserved-in-Bind
loop-x-preserved-in-Bind c =
    rw c.take.ensures.after
    (loop_idle 0 0 (turn_enter (rw (sym c.take.ensures.value ∙ c.in-Some.is) at c.loop-x.invariant) refl _ c.decide.ensures.marks _ _ c.in-Bind.ensures.says _ c.enter.ensures))

pub put_pair-requires : goal.put_pair-requires
put_pair-requires c = open_room (rw (sym c.take.ensures.value ∙ c.in-Some.is) at c.loop-x.invariant) refl _ _ c.in-Open.ensures.says

pub overflow_add-d : goal.overflow_add-d
overflow_add-d c = let room = open_in (rw (sym c.take.ensures.value ∙ c.in-Some.is) at c.loop-x.invariant) refl _ _ c.in-Open.ensures.says in omega arith

pub loop-x-smaller-in-Open : goal.loop-x-smaller-in-Open
loop-x-smaller-in-Open c = rw (sym c.take.ensures.value ∙ c.in-Some.is, c.take.ensures.after, c.put_pair.ensures.is) (less_open (rw (sym c.take.ensures.value ∙ c.in-Some.is) at c.loop-x.invariant) refl _ _ c.in-Open.ensures.says)

pub loop-x-preserved-in-Open : goal.loop-x-preserved-in-Open
loop-x-preserved-in-Open c =
    let h = rw (sym c.take.ensures.value ∙ c.in-Some.is) at c.loop-x.invariant in
    let room = open_room h refl _ _ c.in-Open.ensures.says in
    rw (c.take.ensures.after, c.put_pair.ensures.is) (loop_idle 0 0 (turn_open h refl _ c.decide.ensures.marks _ _ c.in-Open.ensures.says room c.put_pair.ensures.wide))

pub returns-in-Clash-clause-equated : goal.returns-in-Clash-clause-equated
returns-in-Clash-clause-equated c = turn_clash (rw (sym c.take.ensures.value ∙ c.in-Some.is) at c.loop-x.invariant) refl _ c.decide.ensures.marks c.in-Clash.ensures.says

pub returns-in_default-clause-equated : goal.returns-in_default-clause-equated
returns-in_default-clause-equated c =
    let none = c.in_default.ensures in
    turn_done c.loop-x.invariant (ap is_some (sym c.take.ensures.value ∙ c.in-None.is)) (omega arith)

pub bounds-stack-last-in-Some-checked_sub : goal.bounds-stack-last-in-Some-checked_sub
bounds-stack-last-in-Some-checked_sub c =
    let (some, is) = c.in-Some-checked_sub.ensures in
    let deep = deep_in c.loop-x.invariant (ap is_some (sym c.take.ensures.value ∙ c.in-None.is)) (one-le_iff_ne-zero.0 some) in
    omega arith

pub bounds-stack-last-in-Some-checked_sub-2 : goal.bounds-stack-last-in-Some-checked_sub-2
bounds-stack-last-in-Some-checked_sub-2 c =
    let (some, is) = c.in-Some-checked_sub.ensures in
    let deep = deep_in c.loop-x.invariant (ap is_some (sym c.take.ensures.value ∙ c.in-None.is)) (one-le_iff_ne-zero.0 some) in
    omega arith

pub bounds-stack-last : goal.bounds-stack-last
bounds-stack-last c =
    let (some, is) = c.in-Some-checked_sub.ensures in
    let deep = deep_in c.loop-x.invariant (ap is_some (sym c.take.ensures.value ∙ c.in-None.is)) (one-le_iff_ne-zero.0 some) in
    omega arith

pub bounds-stack-last-then-taken-arity : goal.bounds-stack-last-then-taken-arity
bounds-stack-last-then-taken-arity c =
    let (some, is) = c.in-Some-checked_sub.ensures in
    let deep = deep_in c.loop-x.invariant (ap is_some (sym c.take.ensures.value ∙ c.in-None.is)) (one-le_iff_ne-zero.0 some) in
    omega arith

pub arity-requires : goal.arity-requires
arity-requires c =
    let h = c.loop-x.invariant in
    let (some, is) = c.in-Some-checked_sub.ensures in
    let nodes = last_nodes h (ap is_some (sym c.take.ensures.value ∙ c.in-None.is)) (one-le_iff_ne-zero.0 some) _ _ _ refl refl refl in
    let a = nodes.0.0 in
    let fits = last_fits h (ap is_some (sym c.take.ensures.value ∙ c.in-None.is)) (one-le_iff_ne-zero.0 some) _ _ _ refl refl refl in
    let lent = h.fixed.lent_words in
    rw is (a, omega arith)

pub argument-requires : goal.argument-requires
argument-requires c =
    let (some, is) = c.in-Some-checked_sub.ensures in
    let nodes = last_nodes c.loop-x.invariant (ap is_some (sym c.take.ensures.value ∙ c.in-None.is)) (one-le_iff_ne-zero.0 some) _ _ _ refl refl refl in
    let a = nodes.0.0 in
    let fits = (last_fits c.loop-x.invariant (ap is_some (sym c.take.ensures.value ∙ c.in-None.is)) (one-le_iff_ne-zero.0 some) _ _ _ refl refl refl).0 in
    let lent = c.loop-x.invariant.fixed.lent_words in
    let q = rw is at c.arity.ensures in
    let y = rw is at c.if-taken-arity.true in
    rw is (omega arith, omega arith)

pub argument-requires-then-taken-arity : goal.argument-requires-then-taken-arity
argument-requires-then-taken-arity c =
    let (some, is) = c.in-Some-checked_sub.ensures in
    let nodes = last_nodes c.loop-x.invariant (ap is_some (sym c.take.ensures.value ∙ c.in-None.is)) (one-le_iff_ne-zero.0 some) _ _ _ refl refl refl in
    let a = nodes.0.1 in
    let fits = (last_fits c.loop-x.invariant (ap is_some (sym c.take.ensures.value ∙ c.in-None.is)) (one-le_iff_ne-zero.0 some) _ _ _ refl refl refl).1 in
    let lent = c.loop-x.invariant.fixed.lent_words in
    let q = rw is at c.arity.ensures in
    let y = rw is at c.if-taken-arity.true in
    rw is (omega arith, omega arith)

pub loop-x-smaller-then-taken-arity : goal.loop-x-smaller-then-taken-arity
loop-x-smaller-then-taken-arity c =
    let (some, is) = c.in-Some-checked_sub.ensures in
    rw is (less_next c.loop-x.invariant (ap is_some (sym c.take.ensures.value ∙ c.in-None.is)) (one-le_iff_ne-zero.0 some) _ _ _ refl refl refl (rw (c.arity.ensures, is) at c.if-taken-arity.true))

pub loop-x-preserved-then-taken-arity : goal.loop-x-preserved-then-taken-arity
loop-x-preserved-then-taken-arity c =
    let (some, is) = c.in-Some-checked_sub.ensures in
    rw (c.argument.ensures, c.argument-then-taken-arity.ensures, is)
    (turn_next c.loop-x.invariant (ap is_some (sym c.take.ensures.value ∙ c.in-None.is)) (one-le_iff_ne-zero.0 some) _ _ _ refl refl refl (rw (c.arity.ensures, is) at c.if-taken-arity.true))

pub link-requires-clause-fact_2 : goal.link-requires-clause-fact_2
link-requires-clause-fact_2 c =
    let h = c.loop-x.invariant in
    let (some, is) = c.in-Some-checked_sub.ensures in
    let nodes = last_nodes h (ap is_some (sym c.take.ensures.value ∙ c.in-None.is)) (one-le_iff_ne-zero.0 some) _ _ _ refl refl refl in
    let a = nodes.1.0 in
    let b = nodes.1.1 in
    let low = h.fixed.low in
    let long = links_long h in
    rw is (omega arith, omega arith, link_room h (ap is_some (sym c.take.ensures.value ∙ c.in-None.is)) (one-le_iff_ne-zero.0 some) _ _ _ refl refl refl, omega arith, omega arith)

pub loop-x-smaller : goal.loop-x-smaller
loop-x-smaller c =
    let (some, is) = c.in-Some-checked_sub.ensures in
    rw (c.take.ensures.after ∙ sym c.in-None.is ∙ c.take.ensures.value, is)
    (less_close c.loop-x.invariant (ap is_some (sym c.take.ensures.value ∙ c.in-None.is)) (one-le_iff_ne-zero.0 some) _ _ _ refl refl refl _ (rw is at c.link.ensures))

pub loop-x-preserved : goal.loop-x-preserved
loop-x-preserved c =
    let h = c.loop-x.invariant in
    let (some, is) = c.in-Some-checked_sub.ensures in
    let q = rw is at c.arity.ensures in
    let y = rw is at c.if-taken-arity.false in
    rw (c.take.ensures.after ∙ sym c.in-None.is ∙ c.take.ensures.value, is)
    (loop_false h (ap is_some (sym c.take.ensures.value ∙ c.in-None.is)) (turn_close h (ap is_some (sym c.take.ensures.value ∙ c.in-None.is)) (one-le_iff_ne-zero.0 some) _ _ _ refl refl refl _ (rw is at c.link.ensures) (omega arith)))

-- `is_forward_call` meets its contract: one law for each way out.
use native.Mathlib.Omega.{arith}
use Rattle.std.proofs.Common.{sym, ◌∙◌}
use Rattle.forward_calls.proofs.Forwarding.{inside, within, of_none, of_count, of_call, ground_asked}
use Rattle.forward_calls.proofs.is_forward_call.Goals as goal

pub offset_bounds-term-term : goal.offset_bounds-term-term
offset_bounds-term-term c = let i = inside c.requires in omega arith

pub bounds-term-term : goal.bounds-term-term
bounds-term-term c = let i = inside c.requires in omega arith

pub returns-in_default : goal.returns-in_default
returns-in_default c = of_none c.requires (sym c.in_default.is ∙ c.callee.ensures)

pub offset_bounds-symbols-i : goal.offset_bounds-symbols-i
offset_bounds-symbols-i c = let l = within c.requires (sym c.in-Some.is ∙ c.callee.ensures) in omega arith

pub bounds-symbols-i : goal.bounds-symbols-i
bounds-symbols-i c = within c.requires (sym c.in-Some.is ∙ c.callee.ensures)

pub returns-then-ne : goal.returns-then-ne
returns-then-ne c = of_count c.requires (sym c.in-Some.is ∙ c.callee.ensures) c.checked_sub.result c.checked_sub.ensures (sym c.ne.ensures ∙ c.if-ne.true)

pub is_ground-requires : goal.is_ground-requires
is_ground-requires c = ground_asked c.requires

pub returns : goal.returns
returns c = of_call c.requires (sym c.in-Some.is ∙ c.callee.ensures) c.checked_sub.result c.checked_sub.ensures (sym c.ne.ensures ∙ c.if-ne.false) c.is_ground.ensures

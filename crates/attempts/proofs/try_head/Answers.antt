-- `try_head` meets its contract: the limits refuse the conclusion, or its head clashes with the goal's, or it is copied and the goal is unified with it.
use mathlib.Core.Path.{sym, ◌∙◌}
use Rattle.attempts.specs.Heads.{head_clashes, head_copyable, head_movable, head_scratch, head_form, head_goal, head_conclusion, head_ended}
use Rattle.attempts.proofs.try_head.Goals as goal

pub returns-then-clashes-clause-tried : goal.returns-then-clashes-clause-tried
returns-then-clashes-clause-tried c =
    let pre = c.requires in
    let exceeds = c.exceeds in
    let if1 = c.if-exceeds in
    let t = c.terms-terms.ensures in
    let b = c.bindings-held.ensures in
    let clash = c.clashes.ensures c.if-clashes.true in
    head_clashes pre (sym exceeds.ensures ∙ if1.false) (rw (t.0, t.1, b.0, b.1) at clash)

pub moved_word-second-requires : goal.moved_word-second-requires
moved_word-second-requires c =
    let pre = c.requires in
    let exceeds = c.exceeds in
    let if1 = c.if-exceeds in
    head_movable pre (sym exceeds.ensures ∙ if1.false)

pub inst-requires : goal.inst-requires
inst-requires c =
    let pre = c.requires in
    let exceeds = c.exceeds in
    let if1 = c.if-exceeds in
    head_copyable pre (sym exceeds.ensures ∙ if1.false)

pub unify-requires : goal.unify-requires
unify-requires c =
    let pre = c.requires in
    let exceeds = c.exceeds in
    let if1 = c.if-exceeds in
    let inst = c.inst in
    let moved_word = c.moved_word-second in
    let fits = sym exceeds.ensures ∙ if1.false in
    let t = c.terms-copied.ensures in
    rw (t.0, t.1, t.2, t.3) record { fact_1 = head_form pre fits _ inst.ensures; fact_2 = (head_goal pre fits _ inst.ensures, head_conclusion pre fits _ inst.ensures _ moved_word.ensures); fact_3 = head_scratch pre fits }

pub returns-clause-tried : goal.returns-clause-tried
returns-clause-tried c =
    let fits = sym c.exceeds.ensures ∙ c.if-exceeds.false in
    let t = c.terms-copied.ensures in
    head_ended c.requires fits _ c.inst.ensures c.moved_word-second.ensures c.unify.result (rw (t.0, t.1, t.2, t.3) at c.unify.ensures.unified)

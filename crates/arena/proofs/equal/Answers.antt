-- `equal` meets its contract. The loop's invariant: the two references denote the same term exactly where the answer is still true and the links that are
-- left, all from `low` on and below `at`, hold.
use mathlib.Core.Path.{refl, ap, ◌∙◌}
use Prim.Native.Nat.{suc, ◌-◌}
use Rattle.arena.proofs.Settling.{pass_start, pass_end}
use borrow.Author.Rules.{rules}
use Rattle.arena.proofs.equal.Goals as goal

pub loop-linked-init : goal.loop-linked-init
loop-linked-init c =
    let args = c.args in
    let past = c.past-at in
    let pre = c.requires in
    let link = c.link-linked in
    let high = c.max in
    (refl, pass_start args.terms.room args.terms.words.now args.terms.variables args.terms.used args.a args.b args.links.now _ past.result _ _ _ pre link.ensures (past.ensures ∙ ap (λ x. suc x - args.terms.room) high.ensures))

pub returns : goal.returns
returns c =
    let args = c.args in
    let loop = c.loop-linked in
    let pre = c.requires in
    let link = c.link-linked in
    pass_end args.terms.room args.terms.words.now args.terms.variables args.terms.used args.a args.b args.links.now loop.links loop.at loop.linked.low loop.linked.same pre (loop.invariant.0 ∙ link.ensures.long) (search rules) loop.invariant.1

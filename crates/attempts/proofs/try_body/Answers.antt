-- `try_body` meets its contract: the premises are copied, or the limits refuse them and the bindings are undone.
use mathlib.Core.Path.{sym, ◌∙◌}
use Rattle.attempts.specs.Bodies.{body_undoable, body_copyable, body_copied}
use Rattle.attempts.proofs.try_body.Goals as goal

pub undo-requires : goal.undo-requires
undo-requires c = body_undoable c.requires

pub inst-requires : goal.inst-requires
inst-requires c =
    body_copyable c.requires (sym c.exceeds.ensures ∙ c.if-exceeds.false)

pub returns : goal.returns
returns c =
    let pre = c.requires in
    let exceeds = c.exceeds in
    let if1 = c.if-exceeds in
    let inst = c.inst in
    body_copied pre (sym exceeds.ensures ∙ if1.false) inst.ensures

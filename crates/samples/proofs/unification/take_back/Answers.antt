-- `take_back` is safe: bindings in form can be undone.
use Rattle.bindings.specs.Holding.{form_undoable}
use borrow.Author.Rules.{rules}
use Rattle.samples.proofs.unification.take_back.Goals as goal

pub undo-requires : goal.undo-requires
undo-requires c =
    let f = c.is_form.ensures.tells.yes (c.if-not-is_form.false) in form_undoable f.form (search rules)

-- `is_reference` meets its contract: what may be an argument from the first address on is a reference in form.
use mathlib.Core.Path.{sym, ◌∙◌}
use native.Mathlib.Omega.{arith}
use Rattle.arena.specs.FormLaws.{argument_reference, reference_accepted}
use Rattle.bindings.proofs.trails.is_reference.Goals as goal

pub returns : goal.returns
returns c = record {
  yes = λ e. argument_reference (record { words = c.args.terms.words.now; room = c.args.terms.room; variables = c.args.terms.variables; from = 0 })
      c.args.terms.used c.args.r (sym c.is_argument.ensures ∙ e);
  back = λ f. c.is_argument.ensures
      ∙ reference_accepted (record { words = c.args.terms.words.now; room = c.args.terms.room; variables = c.args.terms.variables; from = 0 })
      c.args.terms.used c.args.r f (λ l. omega arith);
}

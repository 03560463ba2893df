-- `is_argument` meets its contract: each way out is one case of the definition.
use mathlib.Core.Path.{sym}
use native.Mathlib.Omega.{arith}
use Rattle.arena.proofs.Checking.{argument_variable, argument_outside, argument_node, argument_above}
use Rattle.arena.proofs.form.is_argument.Goals as goal

pub returns-then-word-terms : goal.returns-then-word-terms
returns-then-word-terms c =
    argument_variable (record { words = c.args.terms.words.now; room = c.args.terms.room; variables = c.args.terms.variables; from = c.args.from })
    c.args.terms.used c.args.word c.if-word-terms.true

pub returns-then-address-from : goal.returns-then-address-from
returns-then-address-from c =
    sym (argument_outside (record { words = c.args.terms.words.now; room = c.args.terms.room; variables = c.args.terms.variables; from = c.args.from })
    c.args.terms.used c.args.word c.if-word-terms.false (omega arith))

pub returns-then-address-terms : goal.returns-then-address-terms
returns-then-address-terms c =
    argument_node (record { words = c.args.terms.words.now; room = c.args.terms.room; variables = c.args.terms.variables; from = c.args.from })
    c.args.terms.used c.args.word c.if-word-terms.false (omega arith) (omega arith)

pub returns : goal.returns
returns c =
    sym (argument_above (record { words = c.args.terms.words.now; room = c.args.terms.room; variables = c.args.terms.variables; from = c.args.from })
    c.args.terms.used c.args.word c.if-word-terms.false (omega arith) (omega arith))

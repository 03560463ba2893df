-- `check_words` meets its contract. The loop's invariant: what is left to be read from `at` on decides as the whole does.
use mathlib.Core.Path.{sym, ◌∙◌}
use Rattle.arena.specs.Form.{in_form}
use Rattle.arena.proofs.Checking.{header_stop, argument_stop, end_step}
use borrow.Author.Rules.{rules}
use native.Mathlib.Omega.{arith}
use Rattle.arena.proofs.check_words.Goals as goal

pub returns-then-not-is_header : goal.returns-then-not-is_header
unfolding in_form
returns-then-not-is_header c =
    let loop = c.loop-at in
    let args = c.args in
    let pre = c.requires in
    let if1 = c.if-left-eq0 in
    let is-header = c.is_header in
    let if2 = c.if-not-is_header in
    sym (sym loop.invariant.2 ∙ header_stop (record { words = args.terms.words.now; room = args.terms.room; variables = args.terms.variables; from = args.from }) args.arities.now args.terms.words.now args.terms.used pre.1 loop.at loop.node loop.left (search rules) if1.true (sym is-header.ensures ∙ if2.true))

pub returns-then-not-is_argument : goal.returns-then-not-is_argument
unfolding in_form
returns-then-not-is_argument c =
    let loop = c.loop-at in
    let args = c.args in
    let pre = c.requires in
    let if1 = c.if-left-eq0 in
    let is-argument = c.is_argument in
    let if3 = c.if-not-is_argument in
    sym (sym loop.invariant.2 ∙ argument_stop (record { words = args.terms.words.now; room = args.terms.room; variables = args.terms.variables; from = args.from }) args.arities.now args.terms.words.now args.terms.used pre.1 loop.at loop.node loop.left (search rules) if1.false (sym is-argument.ensures ∙ if3.true))

pub returns : goal.returns
unfolding in_form
returns c =
    let args = c.args in
    let pre = c.requires in
    let loop = c.loop-at in
    let loop-test = c.loop-at-test in
    sym (end_step (record { words = args.terms.words.now; room = args.terms.room; variables = args.terms.variables; from = args.from }) args.arities.now args.terms.words.now args.terms.used pre.1 loop.at loop.node loop.left (omega arith)) ∙ loop.invariant.2

-- `patterns` meets its contract.
use mathlib.Core.Path.{sym, ap, ◌∙◌}
use Rattle.term_parser.proofs.ListLaws.{patterns_none, patterns_some}
use Rattle.term_parser.proofs.lists.patterns.Goals as goal

pub returns-then-peek-eq-DOUBLE_ARROW : goal.returns-then-peek-eq-DOUBLE_ARROW
returns-then-peek-eq-DOUBLE_ARROW c =
    let args = c.args in
    let pre = c.requires in
    let peek = c.peek in
    let if1 = c.if-peek-eq-DOUBLE_ARROW in
    patterns_none args.input.text.now args.input.tokens.now pre.here (sym (ap (λ x. x.kind) peek.ensures) ∙ if1.true)

pub returns : goal.returns
returns c =
    let args = c.args in
    let if1 = c.if-peek-eq-DOUBLE_ARROW in
    let peek = c.peek in
    patterns_some args.input.text.now args.input.tokens.now (λ e. if1.false (ap (λ x. x.kind) peek.ensures ∙ e)) c.list.ensures

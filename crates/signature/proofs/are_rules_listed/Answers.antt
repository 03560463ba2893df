-- `are_rules_listed` meets its contract: where each rule's words end the next rule's start.
use Rattle.std.proofs.Common.{◌≡◌, ◌<◌, ◌∙◌, ap, arith, length}
use Rattle.names.specs.Symbols.{Rows, row_at}
use Rattle.unifier.specs.Checking.{tells_no}
use Rattle.signature.specs.Parts.{RulesListed}
use Rattle.signature.proofs.Laws.{by_eq}
use Rattle.signature.proofs.RuleLaws.{none_listed, one_more, here_listed, same_end, none_formed, next_formed, bad_good}
use Rattle.signature.proofs.UsedLaws.{used_length, row_used}
use Rattle.signature.proofs.are_rules_listed.Goals as goal

pub loop-rule-init : goal.loop-rule-init
loop-rule-init c = (omega arith, none_listed, none_formed c.args.signature.words.now)

pub returns-in_default : goal.returns-in_default
returns-in_default c =
    let signature = c.args.signature in
    let lent = c.requires.2 in
    let loop = c.loop-rule in
    let n = ap length c.rules_in_use-rule-items.ensures ∙ used_length signature.rules.now signature.counts.rules lent in
    let l : loop.rule-index < signature.counts.rules = omega (arith, c.loop-rule-test.true) in
    let e = ap (λ (rows : Rows). row_at rows loop.rule-index) c.rules_in_use-rule-items.ensures ∙ row_used signature.rules.now signature.counts.rules lent loop.rule-index l in
    tells_no (λ h. let r = here_listed l lent loop.invariant.1 h in
    bad_good (c.check_rule.ensures.complete r.0 (rw e r.1)) c.in_default.is)

pub loop-rule-preserved : goal.loop-rule-preserved
loop-rule-preserved c =
    let signature = c.args.signature in
    let lent = c.requires.2 in
    let loop = c.loop-rule in
    let n = ap length c.rules_in_use-rule-items.ensures ∙ used_length signature.rules.now signature.counts.rules lent in
    let l : loop.rule-index < signature.counts.rules = omega (arith, c.loop-rule-test.true) in
    let e = ap (λ (rows : Rows). row_at rows loop.rule-index) c.rules_in_use-rule-items.ensures ∙ row_used signature.rules.now signature.counts.rules lent loop.rule-index l in
    let h = rw e at (c.check_rule.ensures.sound _ c.in-Some.is) in
    (h.within, one_more (omega arith) loop.invariant.1 h, next_formed h)

pub returns : goal.returns
returns c =
    let args = c.args in
    let signature = args.signature in
    let loop = c.loop-rule in
    let n = ap length c.rules_in_use-rule-items.ensures ∙ used_length signature.rules.now signature.counts.rules c.requires.2 in
    let k : loop.rule-index ≡ signature.counts.rules = omega (arith, c.loop-rule-test.false, loop.auto.rule-index-end) in
    let all : RulesListed args.text.now args.arities.now signature.words.now signature.counts.sorts signature.rules.now signature.counts.rules loop.at = rw k at loop.invariant.1 in
    by_eq loop.at signature.counts.words (λ e. rw e at all) (λ h. same_end all h)

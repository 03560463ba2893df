-- `enter_rule` meets its contract: the premises are passed over to find the conclusion.
use Rattle.names.specs.Standing.{parsed_stands}
use Rattle.refusals.specs.Refused.{handed_on}
use Rattle.loader.proofs.JudgmentLaws.{premises_number, premises_few, conclusion_at, rule_ends}
use Rattle.loader.proofs.enter_rule.Goals as goal

pub skip-here-requires : goal.skip-here-requires
skip-here-requires c =
    let pre = c.requires in
    let args = c.args in
    (pre.short, premises_few (args.part.source.text.now) (args.part.source.rows.now) (args.part.source.at) (args.part.k) (pre.first) (pre.others) (pre.end) (pre.stand) (pre.number) (pre.here) (pre.short))

pub rule-requires : goal.rule-requires
rule-requires c =
    let pre = c.requires in
    let args = c.args in
    let skip = c.skip-here in
    let s = pre.storage in
    record {
      source = record { judgments = _; behind = pre.stand.middle; stand = parsed_stands (args.part.source.text.now) (args.part.source.rows.now) _ _ _ (pre.stand.premises); number = premises_number (args.part.source.text.now) (args.part.source.rows.now) (args.part.source.at) (args.part.k) (pre.first) (pre.others) (pre.end) (pre.stand) (pre.number); conclusion = _; end = _; stands = parsed_stands (args.part.source.text.now) (args.part.source.rows.now) _ _ _ (conclusion_at (args.part.source.text.now) (args.part.source.rows.now) (args.part.source.at) (args.part.k) (pre.first) (pre.others) (pre.end) (pre.stand) (pre.number) (skip.result) (skip.ensures)) };
      lent = s.lent;
      few = s.few;
      inputs = s.inputs;
      upto = s.upto;
      formed = s.formed;
      words = s.words;
      low = s.low;
      small = s.small;
      rows = s.rules_lent;
    }

pub returns-in_err-left : goal.returns-in_err-left
returns-in_err-left c =
    let rule = c.rule in
    let args = c.args in
    let skip = c.skip-here in
    rw (handed_on c.from_residual.result c.from_residual.ensures.1)
    (record {
      same = λ j js q st kn. (tt, (c.in_err-left.ensures.same _ st.middle (parsed_stands (args.part.source.text.now) (args.part.source.rows.now) _ _ _ st.premises) (premises_number (args.part.source.text.now) (args.part.source.rows.now) (args.part.source.at) (args.part.k) j js q st kn) _ _ (parsed_stands (args.part.source.text.now) (args.part.source.rows.now) _ _ _ (conclusion_at (args.part.source.text.now) (args.part.source.rows.now) (args.part.source.at) (args.part.k) j js q st kn (skip.result) (skip.ensures)))));
    })

pub returns : goal.returns
returns c =
    let args = c.args in
    let skip = c.skip-here in
    let skip2 = c.skip-next in
    let rule = c.rule in
    record {
      same = λ j js q st kn. (rule_ends (args.part.source.text.now) (args.part.source.rows.now) (args.part.source.at) (args.part.k) j js q st kn (skip.result) (skip2.result) (skip.ensures) (skip2.ensures), (c.in_ok-left.ensures.same _ st.middle (parsed_stands (args.part.source.text.now) (args.part.source.rows.now) _ _ _ st.premises) (premises_number (args.part.source.text.now) (args.part.source.rows.now) (args.part.source.at) (args.part.k) j js q st kn) _ _ (parsed_stands (args.part.source.text.now) (args.part.source.rows.now) _ _ _ (conclusion_at (args.part.source.text.now) (args.part.source.rows.now) (args.part.source.at) (args.part.k) j js q st kn (skip.result) (skip.ensures)))));
    }

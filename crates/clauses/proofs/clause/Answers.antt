-- `clause` meets its contract: the conclusion's rows, the calls, and then the rule.
use mathlib.Core.Path.{refl}
use lib.ListN.{length}
use Rattle.source_text.specs.Parts.{part_of}
use Rattle.names.specs.Symbols.{symbols_of}
use Rattle.refusals.specs.Refused.{handed_on, none_is}
use Rattle.clauses.proofs.ClauseLaws.{seventeenth, clause_is, over_limit, prepared}
use Rattle.clauses.proofs.clause.Goals as goal

pub rule-requires : goal.rule-requires
rule-requires c =
    let pre = c.requires in
    let args = c.args in
    let heading = c.heading-right in
    let flatten = c.flatten in
    let S = pre.source in
    let ts = S.patterns in
    let q = S.behind in
    let st = S.stand in
    let sz = S.number in
    let t = S.right in
    let q' = S.end in
    let st' = S.stands in
    let P = prepared (args.written.source.text.now) (heading.ensures) (pre.out_lent) (pre.later) (rw c.in_ok-flat.ensures.ok_part at flatten.ensures) ts q st sz t q' st' in
    let p = pre in
    record {
      source = record { judgments = P.premises; behind = P.end; stand = P.stand; number = P.numbered; conclusion = _; end = P.top; stands = P.stands };
      lent = p.lent;
      few = p.few;
      inputs = p.inputs;
      upto = p.upto;
      formed = p.formed;
      words = p.words;
      low = p.low;
      small = p.small;
      rows = p.rules_lent;
    }

pub returns-in_err-flat : goal.returns-in_err-flat
returns-in_err-flat c =
    let args = c.args in
    let heading = c.heading-right in
    let pre = c.requires in
    let flatten = c.flatten in
    rw (handed_on c.from_residual.result c.from_residual.ensures.1, none_is c.flatten.result c.in_err-flat.ensures.ok_part c.in_err-flat.ensures.value)
    (record {
      same = λ ts q st sz t q' st' k ck. (tt, rw (seventeenth (symbols_of (args.written.source.text.now) (args.written.source.symbols.now) (length args.written.source.symbols.now)) (part_of (args.written.source.text.now) (args.title.word.start) (args.title.word.size)) k ts t (args.place.space.room) (args.place.number) (over_limit (args.written.source.text.now) (heading.ensures) (pre.out_lent) (pre.later) (symbols_of (args.written.source.text.now) (args.written.source.symbols.now) (length args.written.source.symbols.now)) _ (rw c.in_err-flat.ensures.ok_part at flatten.ensures) ts q st sz t q' st')) refl);
    })

pub returns-in_err-left : goal.returns-in_err-left
returns-in_err-left c =
    let args = c.args in
    let heading = c.heading-right in
    let pre = c.requires in
    let flatten = c.flatten in
    let rule = c.rule in
    rw (handed_on c.from_residual-in_err-left.result c.from_residual-in_err-left.ensures.1)
    (record {
      same = λ ts q st sz t q' st' k ck. let P = prepared (args.written.source.text.now) (heading.ensures) (pre.out_lent) (pre.later) (rw c.in_ok-flat.ensures.ok_part at flatten.ensures) ts q st sz t q' st' in
          let d = clause_is (symbols_of (args.written.source.text.now) (args.written.source.symbols.now) (length args.written.source.symbols.now)) (args.written.source.text.now) (args.title.word.start) (args.title.word.size) (args.title.clause) k ck ts t (args.place.space.room) P.is in
          (tt, rw d at (c.in_err-left.ensures.same P.premises P.end P.stand P.numbered _ P.top P.stands));
    })

pub returns : goal.returns
returns c =
    let args = c.args in
    let heading = c.heading-right in
    let pre = c.requires in
    let flatten = c.flatten in
    let rule = c.rule in
    record {
      same = λ ts q st sz t q' st' k ck. let P = prepared (args.written.source.text.now) (heading.ensures) (pre.out_lent) (pre.later) (rw c.in_ok-flat.ensures.ok_part at flatten.ensures) ts q st sz t q' st' in
          let d = clause_is (symbols_of (args.written.source.text.now) (args.written.source.symbols.now) (length args.written.source.symbols.now)) (args.written.source.text.now) (args.title.word.start) (args.title.word.size) (args.title.clause) k ck ts t (args.place.space.room) P.is in
          (P.goes_on, rw d at (c.in_ok-left.ensures.same P.premises P.end P.stand P.numbered _ P.top P.stands));
    }

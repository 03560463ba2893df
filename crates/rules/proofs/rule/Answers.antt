-- `rule` meets its contract: one law for each way out.
use mathlib.Core.Path.{refl, sym, ap, ◌∙◌}
use mathlib.Core.List.{map}
use Prim.Native.Nat.{◌≤◌}
use lib.ListN.{length}
use lib.Seq.{length-take-le}
use borrow.Author.Tests.{lt-ltb, le-ltb}
use Rattle.term_parser.specs.Standing.{size}
use Rattle.names.specs.Named.{symbols_named}
use Rattle.names.specs.Symbols.{Variable, variables_of}
use Rattle.names.specs.UsedLaws.{variables_used}
use Rattle.rules.specs.StoredRows.{titled}
use Rattle.rules.specs.PatternLaws.{arities_of}
use Rattle.refusals.specs.Refused.{handed_on}
use Rattle.rules.specs.KnownLaws.{known_rows}
use Rattle.rules.proofs.RuleLaws.{few_inputs, too_many, judgment_refused, bodied, not_known, rule_made, exactly, is_rule, made, lies}
use native.Mathlib.Omega.{arith}
use Rattle.rules.proofs.rule.Goals as goal

pub returns-then-n-gt-PREMISES : goal.returns-then-n-gt-PREMISES
returns-then-n-gt-PREMISES c =
    let args = c.args in
    let if1 = c.if-n-gt-PREMISES in
    record {
      same = λ ps q st cn c₁ q' st'. rw (too_many (symbols_named args.source.premises) (titled (args.source.premises.text.now) (args.title.word.start) (args.title.word.size) (args.title.clause)) ps c₁ (args.place.space.room) (rw cn (if1.true))) refl;
    }

pub returns-then-not-all_known : goal.returns-then-not-all_known
unfolding variables_of
returns-then-not-all_known c =
    let if1 = c.if-n-gt-PREMISES in
    let args = c.args in
    let judgments = c.judgments in
    let all_known_lem = c.all_known in
    let if2 = c.if-not-all_known in
    record {
      same = λ ps q st cn c₁ q' st'. let few : size ps ≤ 16 = rw cn (if1.false) in
          rw (not_known (symbols_named args.source.premises) (titled (args.source.premises.text.now) (args.title.word.start) (args.title.word.size) (args.title.clause)) ps c₁ (args.place.space.room) few (bodied (symbols_named args.source.premises) (titled (args.source.premises.text.now) (args.title.word.start) (args.title.word.size) (args.title.clause)) ps c₁ (args.place.space.room) few (args.words.now) (args.place.space.used) _ _ _ _ _ (c.in_ok-body.ensures.same ps q st cn c₁ q' st')) (sym (all_known_lem.ensures ∙ known_rows (args.source.premises.text.now) judgments.new.variables c.in_ok-body.body.variables)
          ∙ if2.true)) refl;
    }

pub returns-then-number-ge-RULES : goal.returns-then-number-ge-RULES
unfolding variables_of
returns-then-number-ge-RULES c =
    let if1 = c.if-n-gt-PREMISES in
    let args = c.args in
    let judgments = c.judgments in
    let all_known_lem = c.all_known in
    let if2 = c.if-not-all_known in
    let if3 = c.if-number-ge-RULES in
    record {
      same = λ ps q st cn c₁ q' st'. let few : size ps ≤ 16 = rw cn (if1.false) in
          rw (
            is_rule (symbols_named args.source.premises) (titled (args.source.premises.text.now) (args.title.word.start) (args.title.word.size) (args.title.clause)) ps c₁ (args.place.space.room) few (bodied (symbols_named args.source.premises) (titled (args.source.premises.text.now) (args.title.word.start) (args.title.word.size) (args.title.clause)) ps c₁ (args.place.space.room) few (args.words.now) (args.place.space.used) _ _ _ _ _ (c.in_ok-body.ensures.same ps q st cn c₁ q' st')) (sym (all_known_lem.ensures ∙ known_rows (args.source.premises.text.now) judgments.new.variables c.in_ok-body.body.variables)
                ∙ if2.false),
            le-ltb (args.place.number) 1024 (if3.true),
          ) refl;
    }

pub keep-requires : goal.keep-requires
unfolding variables_of
keep-requires c =
    let pre = c.requires in
    let if1 = c.if-n-gt-PREMISES in
    let args = c.args in
    let judgments = c.judgments in
    let all_known_lem = c.all_known in
    let if2 = c.if-not-all_known in
    let if3 = c.if-number-ge-RULES in
    let S = pre.source in
    let ps = S.judgments in
    let c₁ = S.conclusion in
    let few : size ps ≤ 16 = rw S.number (if1.false) in
    let b = c.in_ok-body.ensures.bounded in
    let lh = length-take-le args.source.n judgments.new.heads (omega (arith, judgments.auto.heads, if1.false)) in
    let lv = length-take-le c.in_ok-body.body.variables judgments.new.variables (omega (arith, judgments.auto.variables, b.0)) in
    let B = bodied (symbols_named args.source.premises) (titled (args.source.premises.text.now) (args.title.word.start) (args.title.word.size) (args.title.clause)) ps c₁ (args.place.space.room) few (args.words.now) (args.place.space.used) _ _ _ _ _ (c.in_ok-body.ensures.same ps S.behind S.stand S.number c₁ S.end S.stands) in
    let L = lies (symbols_named args.source.premises) (titled (args.source.premises.text.now) (args.title.word.start) (args.title.word.size) (args.title.clause)) ps c₁ (args.place.space.room) few B (sym (all_known_lem.ensures ∙ known_rows (args.source.premises.text.now) judgments.new.variables c.in_ok-body.body.variables)
    ∙ if2.false) (few_inputs (args.source.premises.text.now) (args.source.premises.symbols.now) (length args.source.premises.symbols.now) (pre.lent) (pre.inputs)) (pre.upto.0) (pre.upto.1) _ _ _ refl (pre.formed) (pre.words) (pre.low) in
    record { rule = (arities_of (symbols_named args.source.premises), rule_made (symbols_named args.source.premises) (titled (args.source.premises.text.now) (args.title.word.start) (args.title.word.size) (args.title.clause)) ps c₁ (args.place.space.room) few B, L.lying); rising = (b.1, b.2); small = omega arith; low = omega arith; few = omega (arith, if1.false); vars = omega (arith, b.0) }

pub returns-in_err-body : goal.returns-in_err-body
unfolding variables_of
returns-in_err-body c =
    let if1 = c.if-n-gt-PREMISES in
    let args = c.args in
    let judgments = c.judgments in
    rw (handed_on c.from_residual.result c.from_residual.ensures.1)
    (record {
      same = λ ps q st cn c₁ q' st'. let few : size ps ≤ 16 = rw cn (if1.false) in
          rw (judgment_refused (symbols_named args.source.premises) (titled (args.source.premises.text.now) (args.title.word.start) (args.title.word.size) (args.title.clause)) ps c₁ (args.place.space.room) few (args.words.now) (args.place.space.used) (c.in_err-body.ensures.same ps q st cn c₁ q' st')) refl;
    })

pub returns : goal.returns
unfolding variables_of
returns c =
    let args = c.args in
    let judgments = c.judgments in
    let if1 = c.if-n-gt-PREMISES in
    let all_known_lem = c.all_known in
    let if2 = c.if-not-all_known in
    let pre = c.requires in
    let if3 = c.if-number-ge-RULES in
    let keep = c.keep in
    let b = c.in_ok-body.ensures.bounded in
    let sorts = ap (map (λ (v : Variable). v.sort)) (variables_used judgments.new.variables c.in_ok-body.body.variables (omega (arith, judgments.auto.variables, b.0)) args.source.premises.text.now) in
    record {
      same = λ ps q st cn c₁ q' st'. let few : size ps ≤ 16 = rw cn (if1.false) in
          let B = bodied (symbols_named args.source.premises) (titled (args.source.premises.text.now) (args.title.word.start) (args.title.word.size) (args.title.clause)) ps c₁ (args.place.space.room) few (args.words.now) (args.place.space.used) _ _ _ _ _ (c.in_ok-body.ensures.same ps q st cn c₁ q' st') in
          let k = (sym (all_known_lem.ensures ∙ known_rows (args.source.premises.text.now) judgments.new.variables c.in_ok-body.body.variables) ∙ if2.false) in
          let M = made (symbols_named args.source.premises) (titled (args.source.premises.text.now) (args.title.word.start) (args.title.word.size) (args.title.clause)) ps c₁ (args.place.space.room) few B k (few_inputs (args.source.premises.text.now) (args.source.premises.symbols.now) (length args.source.premises.symbols.now) (pre.lent) (pre.inputs)) (pre.upto.0) (pre.upto.1) in
          let L = lies (symbols_named args.source.premises) (titled (args.source.premises.text.now) (args.title.word.start) (args.title.word.size) (args.title.clause)) ps c₁ (args.place.space.room) few B k (few_inputs (args.source.premises.text.now) (args.source.premises.symbols.now) (length args.source.premises.symbols.now) (pre.lent) (pre.inputs)) (pre.upto.0) (pre.upto.1) _ _ _ refl (pre.formed) (pre.words) (pre.low) in
          let X = exactly (symbols_named args.source.premises) (titled (args.source.premises.text.now) (args.title.word.start) (args.title.word.size) (args.title.clause)) ps c₁ (args.place.space.room) few B _ _ _ refl in
          rw (is_rule (symbols_named args.source.premises) (titled (args.source.premises.text.now) (args.title.word.start) (args.title.word.size) (args.title.clause)) ps c₁ (args.place.space.room) few B k, lt-ltb (args.place.number) 1024 (if3.false)) (record {
            used = _;
            is = refl;
            row = keep.new.row;
            written = refl;
            placed = keep.ensures.placed;
            kept = keep.ensures.kept (args.source.premises.text.now) (arities_of (symbols_named args.source.premises)) (rule_made (symbols_named args.source.premises) (titled (args.source.premises.text.now) (args.title.word.start) (args.title.word.size) (args.title.clause)) ps c₁ (args.place.space.room) few B) L.lying refl sorts M.order;
            exact = keep.ensures.exact (args.source.premises.text.now) (arities_of (symbols_named args.source.premises)) (rule_made (symbols_named args.source.premises) (titled (args.source.premises.text.now) (args.title.word.start) (args.title.word.size) (args.title.clause)) ps c₁ (args.place.space.room) few B) L.lying sorts M.order X.premises X.conclusion;
            laid = X.written;
            same = L.low;
            fits = b.3;
          });
    }

-- `judgments` meets its contract: the premises, and then the conclusion.
use mathlib.Core.List.{[]}
use Rattle.names.specs.Named.{symbols_named}
use Rattle.names.specs.Symbols.{variables_of}
use Rattle.patterns.specs.Patterns.{pattern_of}
use Rattle.refusals.specs.Refused.{handed_on}
use Rattle.rules.proofs.JudgmentLaws.{premises_refused, conclusion_refused, both_done}
use mathlib.Core.Path.{sym, ◌∙◌}
use lib.ListN.{drop}
use lib.Seq.{length-take-le}
use Rattle.std.proofs.lemmas.List.{take-append-le}
use native.Mathlib.Omega.{arith}
use Rattle.rules.proofs.judgments.Goals as goal

pub returns-in_err-place : goal.returns-in_err-place
returns-in_err-place c =
    let args = c.args in
    let judgments = c.judgments in
    let e = length-take-le args.source.n args.heads.now (omega (arith, c.requires.fact_2)) in
    rw (handed_on c.from_residual.result c.from_residual.ensures.1)
    (record {
      bounded = tt;
      same = λ ps q st cn c₁ q' st'. premises_refused (symbols_named args.source.premises) c₁ (pattern_of (symbols_named args.source.premises) ps [] (variables_of (args.source.premises.text.now) (args.variables.now) 0) (args.space.room)) (args.words.now) (args.space.used) (c.in_err-place.ensures.same ps q st (cn ∙ sym e)).1;
    })

pub returns-in_err-made : goal.returns-in_err-made
returns-in_err-made c =
    let args = c.args in
    let judgments = c.judgments in
    let e = length-take-le args.source.n args.heads.now (omega (arith, c.requires.fact_2)) in
    let pattern = c.pattern in
    rw (handed_on c.from_residual-in_err-made.result c.from_residual-in_err-made.ensures.1)
    (record {
      bounded = tt;
      same = λ ps q st cn c₁ q' st'. conclusion_refused (symbols_named args.source.premises) c₁ (pattern_of (symbols_named args.source.premises) ps [] (variables_of (args.source.premises.text.now) (args.variables.now) 0) (args.space.room)) (args.words.now) (args.space.used) _ _ _ _ _ (c.in_ok-place.ensures.same ps q st (cn ∙ sym e)).1 (c.in_err-made.ensures.same c₁ q' st').1;
    })

pub returns : goal.returns
returns c =
    let args = c.args in
    let judgments = c.judgments in
    let e = length-take-le args.source.n args.heads.now (omega (arith, c.requires.fact_2)) in
    let pattern = c.pattern in
    let j = c.in_ok-place.ensures.small in
    let k = c.in_ok-made.ensures.small in
    record {
      bounded = (k.2, j.3, k.3, omega arith);
      same = λ ps q st cn c₁ q' st'. rw (take-append-le args.source.n judgments.new.heads (drop args.source.n args.heads.now) (omega (arith, e, judgments.auto.heads)), ← e) (both_done (symbols_named args.source.premises) c₁ (pattern_of (symbols_named args.source.premises) ps [] (variables_of (args.source.premises.text.now) (args.variables.now) 0) (args.space.room)) (args.words.now) (args.space.used) _ _ _ _ _ (c.in_ok-place.ensures.same ps q st (cn ∙ sym e)).1 _ _ _ _ _ (c.in_ok-made.ensures.same c₁ q' st').1);
    }

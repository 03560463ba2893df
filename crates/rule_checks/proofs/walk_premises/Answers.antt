-- `walk_premises` meets its contract: the variables of premises of so many words are met.
use Rattle.std.proofs.Common.{◌≤◌, ◌<◌, arith, refl, ap, ◌∙◌, get_or}
use Rattle.meeting.specs.Contract.{term_of}
use Rattle.meeting.specs.WalkLaws.{walked_over, walked_words}
use Rattle.names.specs.Symbols.{column}
use Rattle.rule_checks.specs.Steps.{premises_of}
use Rattle.rule_checks.proofs.PremiseLaws.{heads_length, heads_index, walked_differs, walked_tells, going_on, going_over, going_words, going_records}
use Rattle.rule_checks.proofs.walk_premises.Goals as goal

pub meet-requires : goal.meet-requires
meet-requires c =
    let loop = c.loop-reference in
    let rule = c.args.rule.placed in
    let w = c.args.rule.walkable in
    let small = rule.counted.small in
    let n : loop.reference-index < column c.args.rule.placed.row.now 4 = omega (arith, heads_length c.args.rule.placed.row.now, rw c.premises-reference-items.ensures at c.loop-reference-test.true) in
    record {
      used = rule.end;
      within = w.within;
      low = w.low;
      formed = w.formed;
      root = rw (c.premises-reference-items.ensures, heads_index c.args.rule.placed.row.now loop.reference-index n) (w.roots loop.reference-index n);
      room = omega arith;
    }

pub returns-in_default : goal.returns-in_default
returns-in_default c =
    let loop = c.loop-reference in
    let args = c.args in
    let w = c.args.rule.walkable in
    let n : loop.reference-index < column args.rule.placed.row.now 4 = omega (arith, heads_length args.rule.placed.row.now, rw c.premises-reference-items.ensures at c.loop-reference-test.true) in
    let e = ap (λ l. get_or l loop.reference-index 0) c.premises-reference-items.ensures ∙ heads_index args.rule.placed.row.now loop.reference-index n in
    walked_differs (premises_of args.rule.placed.words.now args.rule.placed.row.now) (going_over (term_of args.rule.placed.words.now) args.rule.placed.row.now _ loop.invariant.1 n _ loop.invariant.0 (rw e at (walked_over c.meet.ensures c.in_default.is)))

pub overflow_add-spent : goal.overflow_add-spent
overflow_add-spent c =
    let counted = (walked_words c.meet.ensures _ c.in-Some.is).1 in
    let small = c.args.rule.placed.counted.small in
    let l = c.loop-reference.invariant.0 in
    omega arith

pub loop-reference-preserved : goal.loop-reference-preserved
loop-reference-preserved c =
    let loop = c.loop-reference in
    let args = c.args in
    let w = c.args.rule.walkable in
    let n : loop.reference-index < column args.rule.placed.row.now 4 = omega (arith, heads_length args.rule.placed.row.now, rw c.premises-reference-items.ensures at c.loop-reference-test.true) in
    let e = ap (λ l. get_or l loop.reference-index 0) c.premises-reference-items.ensures ∙ heads_index args.rule.placed.row.now loop.reference-index n in
    let counted = walked_words c.meet.ensures _ c.in-Some.is in
    let a = counted.1 in
    let l = loop.invariant.0 in (
      omega arith,
      going_on (term_of args.rule.placed.words.now) args.rule.placed.row.now _ loop.invariant.1 n (rw e at counted.0)
          (λ e' h. rw e at (c.meet.ensures.recorded (omega arith) e' h)),
    )

pub returns : goal.returns
returns c =
    let args = c.args in
    let loop = c.loop-reference in
    let l : column args.rule.placed.row.now 4 ≤ loop.reference-index = omega (arith, heads_length args.rule.placed.row.now, rw c.premises-reference-items.ensures at c.loop-reference-test.false) in
    walked_tells (premises_of args.rule.placed.words.now args.rule.placed.row.now) refl (going_words (term_of args.rule.placed.words.now) args.rule.placed.row.now _ loop.invariant.1 l)
    (going_records (term_of args.rule.placed.words.now) args.rule.placed.row.now _ loop.invariant.1 l)

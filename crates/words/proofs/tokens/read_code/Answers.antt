-- `read_code` meets its contract. The loop's invariant: the rows before n, and then the reading of the code from `at` on, come to the whole reading;
-- there is no more than one row for each byte passed.
use mathlib.Core.Path.{◌≡◌, refl, sym, ap, ◌∙◌}
use mathlib.Core.List.{[], ◌∷◌}
use Prim.Native.Nat.{◌≤◌, ◌<◌, ◌+◌}
use native.Mathlib.Nat.{add-zero}
use lib.ListN.{length, drop, take, length-set}
use Rattle.words.specs.Tokens.{and_then, read_after}
use Rattle.words.specs.Tokens.Reading.{tokens}
use Rattle.words.specs.Items.{item}
use Rattle.words.specs.Items.Item.{Token}
use Rattle.std.specs.Prelude.{Ok, Err}
use Rattle.words.specs.Rows.{outcome}
use Rattle.refusals.specs.Refused.{handed_on}
use Rattle.words.proofs.Readings.{mapped_ok, mapped_err, item_whole, item_within, read_end, read_blank, read_token, read_refused, push_row}
use borrow.Author.Rules.{rules}
use native.Mathlib.Omega.{arith}
use Rattle.words.proofs.tokens.read_code.Goals as goal

pub loop-at-init : goal.loop-at-init
loop-at-init c = (search rules, search rules, refl, simp add-zero)

pub loop-at-preserved-in-None : goal.loop-at-preserved-in-None
loop-at-preserved-in-None c =
    let loop = c.loop-at in
    let args = c.args in
    let loop-test = c.loop-at-test in
    let item-at = c.item_at in
    let told = item-at.ensures ∙ item_whole args.code.bytes.now loop.at in (
      omega arith,
      omega (arith, loop.invariant),
      loop.invariant.2,
      loop.invariant.3
          ∙ read_blank args.code.bytes.now loop.at args.code.start args.code.line _ loop-test.true (sym (ap item (mapped_ok item-at.result _ _ _ c.map_err.ensures.cases c.in_ok-item.was ∙ ap Ok c.in-None.is)) ∙ told),
    )

pub overflow_cast-rows-in-Some : goal.overflow_cast-rows-in-Some
overflow_cast-rows-in-Some c =
    let loop = c.loop-at in
    let args = c.args in
    let loop-test = c.loop-at-test in
    let item-at = c.item_at in
    let told = item-at.ensures ∙ item_whole args.code.bytes.now loop.at in
    let pre = c.requires in
    let w : (0 < c.in-Some.lexeme.length) × (loop.at + c.in-Some.lexeme.length ≤ length args.code.bytes.now) = item_within args.code.bytes.now loop.at args.code.start args.code.line (Token c.in-Some.lexeme.kind c.in-Some.lexeme.length) loop-test.true (sym (ap item (mapped_ok item-at.result _ _ _ c.map_err.ensures.cases c.in_ok-item.was ∙ ap Ok c.in-Some.is)) ∙ told) in
    omega (arith, pre.small)

pub bounds-rows-n : goal.bounds-rows-n
bounds-rows-n c = omega (arith, c.requires.lent, c.loop-at.invariant)

pub overflow_add-n : goal.overflow_add-n
overflow_add-n c = omega (arith, c.requires.small, c.loop-at.invariant)

pub overflow_add-at-in-Some : goal.overflow_add-at-in-Some
overflow_add-at-in-Some c =
    let loop = c.loop-at in
    let args = c.args in
    let loop-test = c.loop-at-test in
    let item-at = c.item_at in
    let told = item-at.ensures ∙ item_whole args.code.bytes.now loop.at in
    let pre = c.requires in
    let w : (0 < c.in-Some.lexeme.length) × (loop.at + c.in-Some.lexeme.length ≤ length args.code.bytes.now) = item_within args.code.bytes.now loop.at args.code.start args.code.line (Token c.in-Some.lexeme.kind c.in-Some.lexeme.length) loop-test.true (sym (ap item (mapped_ok item-at.result _ _ _ c.map_err.ensures.cases c.in_ok-item.was ∙ ap Ok c.in-Some.is)) ∙ told) in
    omega (arith, pre.small)

pub loop-at-smaller : goal.loop-at-smaller
loop-at-smaller c =
    let loop = c.loop-at in
    let args = c.args in
    let loop-test = c.loop-at-test in
    let item-at = c.item_at in
    let told = item-at.ensures ∙ item_whole args.code.bytes.now loop.at in
    let w : (0 < c.in-Some.lexeme.length) × (loop.at + c.in-Some.lexeme.length ≤ length args.code.bytes.now) = item_within args.code.bytes.now loop.at args.code.start args.code.line (Token c.in-Some.lexeme.kind c.in-Some.lexeme.length) loop-test.true (sym (ap item (mapped_ok item-at.result _ _ _ c.map_err.ensures.cases c.in_ok-item.was ∙ ap Ok c.in-Some.is)) ∙ told) in
    omega arith

pub loop-at-preserved : goal.loop-at-preserved
loop-at-preserved c =
    let loop = c.loop-at in
    let args = c.args in
    let loop-test = c.loop-at-test in
    let item-at = c.item_at in
    let told = item-at.ensures ∙ item_whole args.code.bytes.now loop.at in
    let pre = c.requires in
    let w : (0 < c.in-Some.lexeme.length) × (loop.at + c.in-Some.lexeme.length ≤ length args.code.bytes.now) = item_within args.code.bytes.now loop.at args.code.start args.code.line (Token c.in-Some.lexeme.kind c.in-Some.lexeme.length) loop-test.true (sym (ap item (mapped_ok item-at.result _ _ _ c.map_err.ensures.cases c.in_ok-item.was ∙ ap Ok c.in-Some.is)) ∙ told) in
    let room : loop.n < length loop.rows = omega (arith, pre.lent, loop.invariant) in (
      omega arith,
      omega (arith, loop.invariant),
      simp length-set loop.invariant.2,
      loop.invariant.3
          ∙ read_token args.code.bytes.now loop.at args.code.start args.code.line (take loop.n loop.rows) loop-test.true c.in-Some.lexeme.kind c.in-Some.lexeme.length (sym (ap item (mapped_ok item-at.result _ _ _ c.map_err.ensures.cases c.in_ok-item.was ∙ ap Ok c.in-Some.is)) ∙ told)
          ∙ ap (λ ts. and_then (tokens ts) (read_after (drop (loop.at + c.in-Some.lexeme.length) args.code.bytes.now) 0 (args.code.start + (loop.at + c.in-Some.lexeme.length)) args.code.line)) (sym (push_row loop.rows loop.n (c.in-Some.lexeme.kind ∷ (args.code.start + loop.at) ∷ c.in-Some.lexeme.length ∷ args.code.line ∷ []) room)),
    )

pub returns-in_err-item : goal.returns-in_err-item
returns-in_err-item c =
    let loop = c.loop-at in
    let args = c.args in
    let loop-test = c.loop-at-test in
    let told = c.item_at.ensures ∙ item_whole args.code.bytes.now loop.at in
    let refused = mapped_err c.item_at.result _ _ _ c.map_err.ensures.cases c.in_err-item.was in
    let learnt = refused.2 in
    let made : c.in_err-item.field-0.0 ≡ record { refusal = refused.0; line = args.code.line } = search rules in
    rw (handed_on c.from_residual.result c.from_residual.ensures.1)
    (record {
      reads = ap (λ e. outcome (Err e) loop.rows) made
          ∙ sym (loop.invariant.3
          ∙ read_refused args.code.bytes.now loop.at args.code.start args.code.line (take loop.n loop.rows) loop-test.true refused.0 (sym (ap item refused.1) ∙ told));
      fits = omega arith;
      long = loop.invariant.2;
    })

pub returns : goal.returns
returns c =
    let loop = c.loop-at in
    let args = c.args in
    let loop-test = c.loop-at-test in
    record {
      reads = sym (loop.invariant.3 ∙ read_end args.code.bytes.now loop.at args.code.start args.code.line (take loop.n loop.rows) loop-test.false);
      fits = omega (arith, loop.invariant);
      long = loop.invariant.2;
    }

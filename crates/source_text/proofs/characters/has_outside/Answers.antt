-- `has_outside` meets its contract. The loop's invariant: the line has a character outside the domain exactly when it has one from `at` on.
use mathlib.Core.Path.{refl, sym, ap, ◌∙◌}
use Rattle.source_text.specs.Characters.{class_number, classed_of, has_outside}
use Rattle.source_text.proofs.Encodings.{outside_number, inside_at, outside_next, outside_here, outside_end}
use borrow.Author.Rules.{rules}
use native.Mathlib.Omega.{arith}
use Rattle.source_text.proofs.characters.has_outside.Goals as goal

pub loop-at-init : goal.loop-at-init
unfolding has_outside
loop-at-init c = (search rules, refl)

pub returns-in-Outside : goal.returns-in-Outside
returns-in-Outside c =
    let loop = c.loop-at in
    let character-at = c.character_at-c in
    let loop-test = c.loop-at-test in
    sym (loop.invariant.1 ∙ outside_here _ loop.at (classed_of character-at.result) loop-test.true character-at.ensures (ap class_number c.in-Outside.is))

pub overflow_add-at : goal.overflow_add-at
overflow_add-at c =
    let args = c.args in
    let loop = c.loop-at in
    let character-at = c.character_at-c in
    let loop-test = c.loop-at-test in
    omega (arith, inside_at args.line.now loop.at (classed_of character-at.result) loop-test.true character-at.ensures (outside_number _ c.in_default.not-Outside))

pub loop-at-smaller : goal.loop-at-smaller
loop-at-smaller c =
    let args = c.args in
    let loop = c.loop-at in
    let character-at = c.character_at-c in
    let loop-test = c.loop-at-test in
    omega (arith, inside_at args.line.now loop.at (classed_of character-at.result) loop-test.true character-at.ensures (outside_number _ c.in_default.not-Outside))

pub loop-at-preserved : goal.loop-at-preserved
loop-at-preserved c =
    let args = c.args in
    let loop = c.loop-at in
    let character-at = c.character_at-c in
    let loop-test = c.loop-at-test in
    let h = inside_at args.line.now loop.at (classed_of character-at.result) loop-test.true character-at.ensures (outside_number _ c.in_default.not-Outside) in
    (omega arith, loop.invariant.1 ∙ outside_next _ loop.at (classed_of character-at.result) loop-test.true character-at.ensures (outside_number _ c.in_default.not-Outside) h.0)

pub returns : goal.returns
returns c = sym (c.loop-at.invariant.1 ∙ outside_end _ c.loop-at.at c.loop-at-test.false)

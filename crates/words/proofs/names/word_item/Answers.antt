-- `word_item` meets its contract.
use mathlib.Core.Path.{sym, ap, ◌∙◌}
use Rattle.std.specs.Option.{is_some}
use Rattle.refusals.specs.Refused.{handed_on, none_is}
use Rattle.words.proofs.Items.{fits_some, fits_none}
use borrow.Author.Tests.{eq-eqb, ne_eqb, lt-ltb, le-ltb}
use Rattle.words.specs.Names.{word_item}
use Rattle.words.proofs.names.word_item.Goals as goal

pub returns-then-length-gt-LONGEST : goal.returns-then-length-gt-LONGEST
unfolding word_item
returns-then-length-gt-LONGEST c = simp (lt-ltb _ _ c.if-length-gt-LONGEST.true)

pub returns-then-w-eq63 : goal.returns-then-w-eq63
unfolding word_item
returns-then-w-eq63 c = simp (le-ltb _ _ c.if-length-gt-LONGEST.false, eq-eqb _ _ c.if-w-eq63.true)

pub returns-in_err-ok_or : goal.returns-in_err-ok_or
unfolding word_item
returns-in_err-ok_or c =
    let none = c.in_err-ok_or.ensures.ok_part in
    rw (handed_on c.from_residual.result c.from_residual.ensures.1, none_is c.value.result none c.in_err-ok_or.ensures.value)
    (simp (le-ltb _ _ c.if-length-gt-LONGEST.false, ne_eqb _ _ c.if-w-eq63.false, ← c.all_digits.ensures, c.if-all_digits.true) (sym (fits_none _ _ (ap is_some (sym c.value.ensures) ∙ ap is_some none))))

pub returns-in_ok-ok_or : goal.returns-in_ok-ok_or
unfolding word_item
returns-in_ok-ok_or c =
    simp (le-ltb _ _ c.if-length-gt-LONGEST.false, ne_eqb _ _ c.if-w-eq63.false, ← c.all_digits.ensures, c.if-all_digits.true) (sym (fits_some _ _ (ap is_some (sym c.value.ensures) ∙ ap is_some c.in_ok-ok_or.ensures.ok_part)))

pub returns-else-all_digits : goal.returns-else-all_digits
unfolding word_item
returns-else-all_digits c =
    simp (le-ltb _ _ c.if-length-gt-LONGEST.false, ne_eqb _ _ c.if-w-eq63.false, ← c.all_digits.ensures, c.if-all_digits.false, c.keyword.ensures)

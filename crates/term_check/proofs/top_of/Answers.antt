-- `top_of` meets its contract: each way out is a kind of row.
use mathlib.Core.Path.{sym, ap, ◌∙◌}
use lib.Dec.{eqb}
use Rattle.std.specs.Prelude.{Some}
use Rattle.std.specs.Option.{option_eq}
use Rattle.source_text.specs.Numerals.{numeral_of}
use Rattle.names.specs.Symbols.{column}
use Rattle.term_check.specs.Walk.{word_in}
use borrow.Author.Rules.{rules}
use native.Mathlib.Omega.{arith}
use Rattle.term_check.proofs.RowLaws.{held_is, top_nowhere, top_numeral, top_application, top_word, top_other}
use Rattle.term_check.proofs.top_of.Goals as goal

pub returns-then-not-is_word_place : goal.returns-then-not-is_word_place
returns-then-not-is_word_place c = record { long = search rules; is = top_nowhere _ _ (sym c.is_word_place.ensures.is ∙ c.if-not-is_word_place.true) }

pub returns-in-14 : goal.returns-in-14
returns-in-14 c = record { long = search rules; is = c.then_some.ensures ∙ top_numeral _ _ (sym c.is_word_place.ensures.is ∙ c.if-not-is_word_place.false) c.in-14.is c.eq.result (c.eq.ensures ∙ ap (λ v. option_eq eqb v (Some (column c.args.row 3))) c.held.ensures ∙ held_is (numeral_of (word_in c.args.text.now c.args.row)) (column c.args.row 3)) }

pub returns-in-24 : goal.returns-in-24
returns-in-24 c = record { long = search rules; is = c.then_some-in-24.ensures ∙ top_application _ _ (sym c.is_word_place.ensures.is ∙ c.if-not-is_word_place.false) c.in-24.is }

pub returns-in-13 : goal.returns-in-13
returns-in-13 c = record { long = search rules; is = c.then_some-in-13.ensures ∙ top_word _ _ (sym c.is_word_place.ensures.is ∙ c.if-not-is_word_place.false) (omega arith) (omega arith) }

pub returns-in_default : goal.returns-in_default
returns-in_default c = record { long = search rules; is = top_other _ _ (sym c.is_word_place.ensures.is ∙ c.if-not-is_word_place.false) (λ e. omega arith) (λ e. omega arith) (λ e. omega arith) (λ e. omega arith) }

pub returns-in_default-2 : goal.returns-in_default-2
returns-in_default-2 c = record { long = search rules; is = top_other _ _ (sym c.is_word_place.ensures.is ∙ c.if-not-is_word_place.false) (λ e. omega arith) (λ e. omega arith) (λ e. omega arith) (λ e. omega arith) }

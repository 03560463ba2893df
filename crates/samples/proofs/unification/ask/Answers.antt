-- `ask` is safe: the tests before the call are what `occurs` asks.
use Rattle.checks.specs.ReadyLaws.{free_kept}
use native.Mathlib.Omega.{arith}
use borrow.Author.Rules.{rules}
use Rattle.samples.proofs.unification.ask.Goals as goal

pub is_reference-requires : goal.is_reference-requires
is_reference-requires c =
    let f = c.is_form.ensures.tells.yes (c.if-not-is_form.false) in f.form.lent_words

pub bounds-held-variable : goal.bounds-held-variable
bounds-held-variable c =
    let f = c.is_form.ensures.tells.yes (c.if-not-is_form.false) in let l = f.form.lent_rows in omega arith

pub occurs-answer-requires : goal.occurs-answer-requires
occurs-answer-requires c =
    let f = c.is_form.ensures.tells.yes (c.if-not-is_form.false) in
    record { fact_1 = f.form; fact_2 = c.is_reference.ensures.yes (c.if-not-is_reference.false); fact_3 = (search rules, search rules); fact_4 = free_kept c.is_form.ensures.kept f.free }

-- `evaluate_listed` meets its contract: the expression is asked over the words in use, and what it leaves is cleared behind. The buffers then hold what the
-- store holds that they were lent in.
use borrow.Author.Rules.{rules}
use mathlib.Core.Path.{refl, ap}
use Rattle.words.specs.declared.Limits.{Limits}
use Rattle.evaluator.proofs.TestingLaws.{symbols_within}
use Rattle.evaluator.proofs.PartLaws.{part_asked, part_answered}
use Rattle.evaluator.proofs.LeavingLaws.{expression_asked, left_refused, left_valued, given_wiped}
use Rattle.evaluator.proofs.evaluate_listed.Goals as goal

pub expression-requires : goal.expression-requires
expression-requires c =
    rw c.symbols_in_use.ensures
    (part_asked _ _ _ (symbols_within c.requires.readable)
    (expression_asked c.requires _ (ap (λ (l : Limits). l.words) c.capped-most.ensures) _ _ (c.fill.ensures.after (λ y e. e)) refl))

pub returns-in-Err-clause-left : goal.returns-in-Err-clause-left
returns-in-Err-clause-left c =
    let l = c.expression.ensures.lent in
    left_refused c.requires _ (ap (λ (l : Limits). l.words) c.capped-most.ensures) (c.fill.ensures.after (λ y e. e))
    (part_answered _ _ _ (symbols_within c.requires.readable) (rw c.symbols_in_use.ensures at c.expression.ensures.answered)) _ c.in-Err.is l.trees_kept _
    (given_wiped c.fill-in-Err.ensures.filled (search (rules, l.words)) (search (rules, l.links)) (search (rules, l.trees)))

pub returns-in-Ok-clause-left : goal.returns-in-Ok-clause-left
returns-in-Ok-clause-left c =
    let l = c.expression.ensures.lent in
    left_valued c.requires _ (ap (λ (l : Limits). l.words) c.capped-most.ensures) (c.fill.ensures.after (λ y e. e))
    (part_answered _ _ _ (symbols_within c.requires.readable) (rw c.symbols_in_use.ensures at c.expression.ensures.answered)) _ _ _ _ c.in-Ok.is l.trees_kept
    c.clear_from.ensures c.clear_from-in-Ok.ensures (search (rules, l.words)) (search (rules, l.links)) (search (rules, l.trees))

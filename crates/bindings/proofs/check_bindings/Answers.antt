-- `check_bindings` meets its contract: its parts hold together exactly where the rows are in form.
use mathlib.Core.Path.{refl}
use Rattle.bindings.specs.Checking.{checked_no, checked_last, tells_false, form_trailed, form_few}
use native.Mathlib.Omega.{arith}
use borrow.Author.Rules.{rules}
use Rattle.bindings.proofs.check_bindings.Goals as goal

pub returns-then-terms-bindings : goal.returns-then-terms-bindings
returns-then-terms-bindings c = checked_no (λ f. let l = form_few f in omega arith) _ refl

pub returns-then-check_rest : goal.returns-then-check_rest
returns-then-check_rest c =
    let pre = c.requires in
    let check-trail = c.check_trail in
    let if3 = c.if-check_trail in
    let check-rest = c.check_rest in
    let if4 = c.if-check_rest in
    let is-acyclic = c.is_acyclic in
    checked_last pre.fact_1 pre.fact_2 (search rules) check-trail.ensures if3.true check-rest.ensures if4.true is-acyclic.ensures

pub returns : goal.returns
returns c =
    checked_no (λ f. tells_false c.check_trail.ensures.tells c.if-check_trail.false (form_trailed f)) _ c.check_trail.ensures.marks

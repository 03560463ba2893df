-- `check_rule` meets its contract: it tells whether the row and the words are in form.
-- Each way out is one step of the test, and the steps together are the form.
use Rattle.unifier.specs.Checking.{tells_false}
use Rattle.rule_checks.proofs.ListedLaws.{checked_bad, checked_good, listed_parts, listed_order, listed_places, walkable}
use Rattle.rule_checks.proofs.check_rule.Goals as goal

pub returns-then-not-are_parts : goal.returns-then-not-are_parts
returns-then-not-are_parts c = checked_bad _ _ _ _ _ _ _ (λ next l. tells_false c.are_parts.ensures (c.if-not-are_parts.true) (listed_parts _ _ _ _ _ _ _ l))

pub invariant_of-formed : goal.invariant_of-formed
invariant_of-formed c =
    let are-numbers = c.are_numbers in
    let if1 = c.if-not-are_numbers in
    let pre = c.requires in
    let args = c.args in
    let are-parts = c.are_parts in
    let if3 = c.if-not-are_parts in
    let n = are-numbers.ensures.yes (if1.false) in
    record { walkable = walkable args.text.now args.arities.now args.words.now 0 _ args.rule.now args.from pre.fact_1 n (are-parts.ensures.yes (if3.false)) }

pub returns-then-not-is_in_order : goal.returns-then-not-is_in_order
returns-then-not-is_in_order c =
    checked_bad _ _ _ _ _ _ _ (λ next l. tells_false c.is_in_order.ensures (c.if-not-is_in_order.true) (listed_order _ _ _ _ _ _ _ l))

pub is_in_places-requires : goal.is_in_places-requires
is_in_places-requires c = c.is_in_order.ensures.yes c.if-not-is_in_order.false

pub returns-then-not-is_in_places : goal.returns-then-not-is_in_places
returns-then-not-is_in_places c =
    checked_bad _ _ _ _ _ _ _ (λ next l. tells_false c.is_in_places.ensures (c.if-not-is_in_places.true) (listed_places _ _ _ _ _ _ _ l))

pub returns : goal.returns
returns c =
    let args = c.args in
    let pre = c.requires in
    let are-numbers = c.are_numbers in
    let if1 = c.if-not-are_numbers in
    let are-parts = c.are_parts in
    let if3 = c.if-not-are_parts in
    let is-in-order = c.is_in_order in
    let if4 = c.if-not-is_in_order in
    let is-in-places = c.is_in_places in
    let if5 = c.if-not-is_in_places in
    let are-columns = c.are_columns in
    let if2 = c.if-not-are_columns in
    checked_good args.text.now args.arities.now args.words.now args.sorts args.used args.rule.now args.from pre.fact_1 (are-numbers.ensures.yes (if1.false)) (are-parts.ensures.yes (if3.false)) (is-in-order.ensures.yes (if4.false)) (is-in-places.ensures.yes (if5.false)) (are-columns.ensures.yes (if2.false))

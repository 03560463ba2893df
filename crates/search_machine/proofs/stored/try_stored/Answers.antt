-- `try_stored` meets its contract: the parts of the row that are lent are its premises and places.
use Rattle.search_machine.specs.Parts.{parts_asked, parts_tried, tried_lent}
use borrow.Author.Rules.{rules}
use Rattle.search_machine.proofs.stored.try_stored.Goals as goal

pub try_rule-requires : goal.try_rule-requires
try_rule-requires c = rw c.state-at.ensures (parts_asked c.requires c.premises.ensures c.places.ensures c.stored_in-stored.ensures)

pub returns-clause-tried : goal.returns-clause-tried
returns-clause-tried c =
    let lent = c.try_rule.ensures.lent in
    parts_tried c.requires c.premises.ensures c.places.ensures c.stored_in-stored.ensures
    (tried_lent (search (rules, lent.links)) (search (rules, lent.marks)) (search (rules, lent.stack)) (rw c.state-at.ensures at c.try_rule.ensures.tried))

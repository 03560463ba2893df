-- `are_names_listed` meets its contract: each test is one part of the form.
use Rattle.session_check.proofs.Laws.{names_told}
use Rattle.session_check.proofs.naming.are_names_listed.Goals as goal

pub returns : goal.returns
returns c = names_told (c.are_names_formed.ensures.yes c.if-not-are_names_formed.false)
    (c.are_rising.ensures.yes c.if-not-are_rising.false) c.are_places_distinct.ensures

-- The search cases that document 01 marks for proof, over its text's `add`: one list, and one lemma that all of them come out.
-- The definitions that it speaks of are in specs/Marked.
use Rattle.std.specs.Prelude.{◌≡◌, refl, true}
use Rattle.terms.specs.Numbers.{same, less}
use Rattle.terms.specs.Term.{mem}
use Rattle.resolution.specs.Search.{attempt}
use Rattle.resolution.specs.Session.{new_session}
use Rattle.resolution.specs.Cases.{compile_by}
use Rattle.resolution.specs.Marked.{add, add_rules, all_meet, marked, num, succ}

pub marked_meet : all_meet marked ≡ true
unfolding same less mem attempt new_session compile_by num add succ add_rules marked
marked_meet = refl

-- The premises passed are met, and their words are counted.
use Rattle.std.proofs.Common.{◌≤◌}
use Rattle.meeting.specs.Contract.{term_of}
use Rattle.names.specs.Symbols.{column}
use Rattle.rule_checks.proofs.PremiseLaws.{Going}
use Rattle.rule_checks.proofs.walk_premises.Given as goal

abbrev pub invariant-loop-reference : goal.invariant-loop-reference
invariant-loop-reference l = (l.spent ≤ l.size) × Going (term_of l.fn.rule.placed.words.now) l.fn.rule.placed.row.now (column l.fn.rule.placed.row.now 4) l.reference-index l.initial.places.places l.initial.places.count l.places.places l.places.count l.spent

-- The rules passed are in form one behind the other, and their words end at `at`.
use Rattle.std.proofs.Common.{◌≤◌}
use Rattle.arena.specs.Cells.{WellFormed, cells}
use Rattle.arena.specs.Copies.{pattern_room}
use Rattle.signature.specs.Parts.{RulesListed}
use Rattle.signature.proofs.are_rules_listed.Given as goal

abbrev pub invariant-loop-rule : goal.invariant-loop-rule
invariant-loop-rule l = (l.at ≤ l.counts.words) × RulesListed l.text l.arities l.signature.words.now l.counts.sorts l.signature.rules.now l.rule-index l.at × WellFormed pattern_room (cells l.signature.words.now) pattern_room l.at

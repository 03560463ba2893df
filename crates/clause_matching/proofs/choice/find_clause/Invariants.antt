-- `find_clause` meets its contract. The outer loop's invariant: no clause before i fits. The inner one's: matching what is left of the clause i, from the values that
-- the environment holds, comes to matching all of it.
use lib.ListN.{length}
use Rattle.clause_matching.proofs.Choosing.{Choosing, Trying}
use Rattle.clause_matching.proofs.choice.find_clause.Given as goal

abbrev pub invariant-loop-reference : goal.invariant-loop-reference
invariant-loop-reference l = Trying l.clauses.rules.now l.clauses.pattern.now l.arguments l.values.words.now l.values.used l.initial.environment l.initial.links l.initial.stack l.i l.base l.environment l.links l.stack (length l.yielded)

abbrev pub invariant-clauses : goal.invariant-clauses
invariant-clauses l = Choosing l.clauses.rules.now l.clauses.pattern.now 0 (length l.clauses.rules.now) l.arguments l.values.words.now l.values.used l.initial.environment l.initial.links l.initial.stack l.environment l.links l.stack l.i

-- `instantiate_arguments` meets its contract. The loop's invariant: the references built so far, and building what is left, come to building all.
use lib.ListN.{length}
use Rattle.clause_matching.proofs.Arguments.{Turn}
use Rattle.clause_matching.proofs.building.instantiate_arguments.Given as goal

abbrev pub invariant-loop-k : goal.invariant-loop-k
invariant-loop-k l = Turn l.pattern l.first (length l.initial.values) l.environment l.initial.words l.room.used l.room.limit l.initial.stack l.initial.values l.words l.stack l.values l.spent l.k

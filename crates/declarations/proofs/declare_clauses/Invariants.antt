-- `declare_clauses` meets its contract. The loop's invariant: the clauses before the number i are entered, and the others are left to enter from the row p on.
use Rattle.declarations.specs.Lent.{IsLent}
use Rattle.declarations.proofs.ClauseLaws.{Everywhere}
use Rattle.declarations.proofs.declare_clauses.Given as goal

abbrev pub invariant-loop-i : goal.invariant-loop-i
invariant-loop-i l =
    IsLent l.initial.store l.store
    × Everywhere l.source.text.now l.source.rows.now l.fn.source.at l.n l.word.start l.word.size l.symbols l.initial.store.rules.now l.initial.store.words.now l.fn.state l.store.rules.now l.store.words.now l.progress.state l.progress.next l.i

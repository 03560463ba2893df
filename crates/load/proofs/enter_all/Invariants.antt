-- `enter_all` meets its contract. The loop's invariant: the declarations before the number i are entered, and the others are left from the row `at` on.
use mathlib.Core.Path.{◌≡◌}
use lib.ListN.{length}
use Rattle.declarations.specs.Lent.{IsLent}
use Rattle.load.proofs.WalkLaws.{Everywhere}
use Rattle.load.proofs.enter_all.Given as goal

abbrev pub invariant-loop-i : goal.invariant-loop-i
invariant-loop-i l =
    (length l.sorts ≡ length l.initial.sorts) × (length l.symbols ≡ length l.initial.symbols) × (length l.evals ≡ length l.initial.evals) × IsLent l.initial.store l.store
    × Everywhere l.text l.fn.walk.limit l.rows l.fn.walk.n l.sorts l.symbols l.store.rules.now l.store.words.now l.evals l.progress.state l.count l.progress.next l._i

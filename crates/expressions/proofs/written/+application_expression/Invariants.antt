-- `expression` and `application` meet their contracts. What falls is 130 less the depth. The loop's invariant of `application`: the values so far, in front of what the
-- arguments that are left come to, are what all of them come to, and the rows list the trees of those so far.
use Rattle.expressions.proofs.Walking.{Turn}
use lib.ListN.{length}
use Rattle.function_calls.specs.Calls.{IsLent}
use Prim.Native.Nat.{◌-◌, ◌*◌}
use Rattle.expressions.proofs.written.+application_expression.Given as goal

abbrev pub decreases-application : goal.decreases-application
decreases-application l = 2 * (130 - l.depth) - 1

abbrev pub decreases-expression : goal.decreases-expression
decreases-expression l = 2 * (130 - l.depth)

abbrev pub invariant-application-loop-k : goal.invariant-application-loop-k
invariant-application-loop-k l = record {
  turn : Turn l.first.text.now l.first.rows.now l.first.at l.arguments l.program.symbols.now (length l.program.symbols.now) l.i
      l.program.rules.now l.program.pattern.now l.depth l.fn.before.calls l.fn.before.used l.program.limit
      l.initial.store.words.now l.initial.store.links.now l.initial.store.trees.now l.initial.store.stack.now
      l.store.words.now l.store.links.now l.store.trees.now l.store.stack.now l.values l.k l.p l.spent.calls l.spent.used;
  lent : IsLent l.initial.store l.store;
}

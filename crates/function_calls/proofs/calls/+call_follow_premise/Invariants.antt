-- `call`, `follow` and `premise` meet their contracts. What falls is 130 less the depth. The loop's invariant of `follow`: the premises that are left, from the values that
-- the environment holds, come to all of them.
use Rattle.function_calls.proofs.Following.{Turn}
use Rattle.function_calls.specs.Calls.{IsLent}
use Prim.Native.Nat.{◌-◌, ◌*◌}
use Rattle.function_calls.proofs.calls.+call_follow_premise.Given as goal

abbrev pub decreases-call : goal.decreases-call
decreases-call l = 3 * (130 - l.level.depth)

abbrev pub decreases-follow : goal.decreases-follow
decreases-follow l = 3 * (130 - l.level.depth) - 1

abbrev pub decreases-premise : goal.decreases-premise
decreases-premise l = 3 * (130 - l.level.depth) - 2

abbrev pub invariant-follow-loop-reference : goal.invariant-follow-loop-reference
invariant-follow-loop-reference l = record {
  turn : Turn l.program.symbols.now l.program.rules.now l.program.pattern.now l.rule l.level.depth l.level.height l.before.calls l.before.used l.program.limit
      l.initial.environment l.initial.store.words.now l.initial.store.links.now l.initial.store.trees.now l.initial.store.stack.now
      l.environment l.store.words.now l.store.links.now l.store.trees.now l.store.stack.now l.spent.calls l.spent.used l.reference-index;
  lent : IsLent l.initial.store l.store;
}

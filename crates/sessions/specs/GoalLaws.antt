-- Laws of goals: a goal's term has no variables but those of the session's names and its own; in a new session it compiles as a rule
-- without premises does; and its refusals are numbers of the signature's place, 19 to 28.
-- Here are the definitions; the theorems about them are in proofs/GoalLaws.
use Prim.Native.Nat.{◌≤◌}
use Rattle.std.specs.Prelude.{◌≡◌, map}
use Rattle.terms.specs.Term.{nil}
use Rattle.term_parser.specs.Source.{Arity}
use Rattle.patterns.specs.Patterns.{Out, bad, good}
use Rattle.rules.specs.Rules.{Ruled, barred, ruled}
use Rattle.resolution.specs.Session.{Compiled, refuses, compiles}
use Rattle.resolution.specs.Session as theory

-- In a new session
-- A rule and a compiled goal agree: the same refusal; or the same term, with the same sorts for its variables.
abbrev pub Agrees : Ruled → Compiled → Type 0
Agrees (barred e) (refuses n) = e ≡ n
Agrees (barred e) (compiles new p) = ⊥
Agrees (ruled R room) (refuses n) = ⊥
Agrees (ruled R room) (compiles new p) = (R.premises ≡ nil) × (R.conclusion ≡ p) × (R.sorts ≡ map (λ (n : theory.Name). n.sort) new)

-- Its refusals
-- A refusal is one of the signature's place.
abbrev pub Refusing : {n : Arity} → Out n → Type 0
Refusing (bad e) = (19 ≤ e) × (e ≤ 28)
Refusing (good p vs room) = Unit {0}

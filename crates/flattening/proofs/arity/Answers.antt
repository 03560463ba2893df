-- `arity` meets its contract: only an application has arguments.
use borrow.Author.Rules.{rules}
use borrow.Author.Tests.{eq-eqb, ne_eqb}
use Rattle.flattening.proofs.arity.Goals as goal

pub returns-then-kind-eq-APPLICATION : goal.returns-then-kind-eq-APPLICATION
returns-then-kind-eq-APPLICATION c = record { value = simp (eq-eqb _ _ c.if-kind-eq-APPLICATION.true); upper_bound = search rules }

pub returns : goal.returns
returns c = record { value = simp (ne_eqb _ _ c.if-kind-eq-APPLICATION.false); upper_bound = search rules }

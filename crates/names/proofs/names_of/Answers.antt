-- `names_of` meets its contract: the table holds the names of the flattening variables.
use borrow.Author.Tests.{eq-eqb}
use mathlib.Core.Path.{refl}
use Rattle.names.specs.Names.{result_names}
use Rattle.names.proofs.names_of.Goals as goal

pub returns-then-kind-eq-RESULT : goal.returns-then-kind-eq-RESULT
unfolding result_names
returns-then-kind-eq-RESULT c = rw (eq-eqb c.args.kind 27 c.if-kind-eq-RESULT.true) refl

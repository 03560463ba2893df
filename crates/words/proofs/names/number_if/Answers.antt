-- `number_if` meets its contract.
use Rattle.words.proofs.names.number_if.Goals as goal

pub returns-then-same : goal.returns-then-same
returns-then-same c = simp (← c.same.ensures, c.if-same.true)

pub returns : goal.returns
returns c = simp (← c.same.ensures, c.if-same.false)

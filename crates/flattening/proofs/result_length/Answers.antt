-- `result_length` meets its contract: the first nine numbers have one digit.
use borrow.Author.Tests.{lt-ltb, le-ltb}
use Rattle.flattening.proofs.result_length.Goals as goal

pub returns-then-j-lt9 : goal.returns-then-j-lt9
returns-then-j-lt9 c = simp (lt-ltb _ _ c.if-j-lt9.true)

pub returns-else-j-lt9 : goal.returns-else-j-lt9
returns-else-j-lt9 c = simp (le-ltb _ _ c.if-j-lt9.false)

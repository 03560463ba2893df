-- `are_same` meets its contract: rows of two numbers are the same where both numbers are.
use Rattle.std.specs.Cmp.Lexicographic.{bytes_decides}
use Rattle.std.proofs.lemmas.Slice.Eq.{slice_eq-Decides}
use Rattle.samples.proofs.SameLaws.{same_told}
use Rattle.samples.proofs.rows.are_same.Goals as goal

pub returns : goal.returns
returns c = same_told c.told-left c.told-right (slice_eq-Decides bytes_decides c.args.left.now c.args.right.now c.eq.result c.eq.ensures)

-- `part_of_row` meets its contract: the part of the row is its columns.
use native.Mathlib.Omega.{arith}
use Rattle.names.specs.SearchLaws.{part_columns}
use Rattle.rules.proofs.part_of_row.Goals as goal

pub returns : goal.returns
returns c = part_columns c.args.row.now c.args.first c.args.count (omega (arith, c.requires))

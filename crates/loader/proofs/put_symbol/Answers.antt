-- `put_symbol` meets its contract: the row without inputs, and then the inputs, which are a part of it.
use Prim.Native.Nat.{◌+◌, ◌-◌}
use lib.ListN.{length}
use native.Mathlib.Omega.{arith}
use Rattle.rules.proofs.RowLaws.{sets_part}
use Rattle.loader.proofs.put_symbol.Goals as goal

pub returns : goal.returns
returns c =
    let a = c.args in
    rw c.copy_from_slice.ensures.after (sets_part a.inputs.now _ 8 (8 + length a.inputs.now - 8) (omega arith) (omega (arith, c.requires)))

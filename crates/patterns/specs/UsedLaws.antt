-- What the compiler asks, of the symbols in use, lent as a part of a table.
use Rattle.std.specs.Prelude.{ℕ, ◌≤◌, List, length, take}
use Rattle.std.proofs.Common.{arith}
use Rattle.names.specs.Symbols.{Rows, column}
use Rattle.names.specs.UsedLaws.{used_length, used_each}
use Rattle.patterns.specs.Promises.{Ready}

pub ready_used : {symbols vs : Rows} {n nv u room : ℕ} {w : List ℕ} → Ready symbols n vs nv w u room → Ready (take n symbols) (length (take n symbols)) vs nv w u room
ready_used {symbols} {n = n} h =
    let e = used_length symbols n h.lent in
    record {
      lent = omega arith;
      few = omega (arith, h.few);
      inputs = used_each symbols n h.lent (λ row. column row 6 ≤ 16) h.inputs;
      variables = h.variables;
      entered = h.entered;
      words = h.words;
      low = h.low;
    }

-- What `clause` asks, of the symbols in use, lent as a part of a table.
use Rattle.std.specs.Prelude.{ℕ, ◌≤◌, List, length, take}
use Rattle.std.proofs.Common.{arith}
use Rattle.names.specs.Symbols.{Rows, column}
use Rattle.names.specs.UsedLaws.{used_length, used_each, symbols_used}
use Rattle.clauses.specs.Promises.{ClauseAsked}

pub clause_used : {text w : List ℕ} {rows symbols rules out calls : Rows} {p n count u room : ℕ}
    → ClauseAsked text rows p n symbols count w u room rules out calls → ClauseAsked text rows p n (take count symbols) (length (take count symbols)) w u room rules out calls
clause_used {text} {symbols = symbols} {count = count} h =
    let e = used_length symbols count h.lent in
    record {
      source = h.source;
      lent = omega arith;
      few = omega (arith, h.few);
      inputs = used_each symbols count h.lent (λ row. column row 6 ≤ 16) h.inputs;
      upto = rw (symbols_used symbols count h.lent text) h.upto;
      formed = h.formed;
      words = h.words;
      low = h.low;
      small = h.small;
      rules_lent = h.rules_lent;
      later = h.later;
      here = h.here;
      short = h.short;
      out_lent = h.out_lent;
      calls_lent = h.calls_lent;
    }

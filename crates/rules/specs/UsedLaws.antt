-- What `rule` asks, of the symbols in use, lent as a part of a table.
use Rattle.std.specs.Prelude.{ℕ, ◌≤◌, List, length, take}
use Rattle.std.proofs.Common.{arith}
use Rattle.names.specs.Symbols.{Rows, column}
use Rattle.names.specs.UsedLaws.{used_length, used_each, symbols_used}
use Rattle.rules.specs.Promises.{RuleAsked}

pub rule_used : {text w : List ℕ} {premises conclusions symbols rules : Rows} {p n here count u room : ℕ}
    → RuleAsked text premises p n conclusions here symbols count w u room rules → RuleAsked text premises p n conclusions here (take count symbols) (length (take count symbols)) w u room rules
rule_used {text} {symbols = symbols} {count = count} h =
    let e = used_length symbols count h.lent in
    record {
      source = h.source;
      lent = omega arith;
      few = omega (arith, h.few);
      inputs = used_each symbols count h.lent (λ row. column row 6 ≤ 16) h.inputs;
      upto = rw (symbols_used symbols count h.lent text) h.upto;
      formed = h.formed;
      words = h.words;
      low = h.low;
      small = h.small;
      rows = h.rows;
    }

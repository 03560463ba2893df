use Rattle.std.proofs.Common.{arith, ap, length}
use Rattle.byte_output.specs.OutputLaws.{said_as}
use Rattle.printing.proofs.SymbolLaws.{is_name}
use Rattle.printing.proofs.printed.PrintedTerms.write_name.Goals as goal

pub write-requires : goal.write-requires
write-requires c =
    let e = ap length (is_name c.args.self c.args.symbol c.requires.known c.part.ensures c.at_start-word.ensures) in
    let r = c.requires.room in omega arith

pub returns : goal.returns
returns c = said_as c.write.ensures (is_name c.args.self c.args.symbol c.requires.known c.part.ensures c.at_start-word.ensures)

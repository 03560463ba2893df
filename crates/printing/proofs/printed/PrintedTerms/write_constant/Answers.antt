use Rattle.std.proofs.Common.{arith, sym}
use Rattle.byte_output.specs.OutputLaws.{said_as, written_on, length_kept}
use Rattle.printing.proofs.SymbolLaws.{predicate_alone, predicate_length, constructor_alone}
use Rattle.printing.proofs.printed.PrintedTerms.write_constant.Goals as goal

pub write_head-requires-clause-room : goal.write_head-requires-clause-room
write_head-requires-clause-room c =
    let e = predicate_length c.args.self c.args.symbol c.requires.known c.if-self-symbol-eq0.true in let r = c.requires.room in omega arith

pub write_byte-requires : goal.write_byte-requires
write_byte-requires c =
    let e = predicate_length c.args.self c.args.symbol c.requires.known c.if-self-symbol-eq0.true in
    let k = length_kept c.write_head.ensures in
    let p = c.write_head.ensures.written.place in
    let r = c.requires.room in omega arith

pub returns-then-self-symbol-eq0 : goal.returns-then-self-symbol-eq0
returns-then-self-symbol-eq0 c =
    said_as (written_on c.write_head.ensures c.write_byte.ensures) (sym (predicate_alone c.args.self c.args.symbol c.requires.known c.if-self-symbol-eq0.true))

pub returns : goal.returns
returns c = said_as c.write_name.ensures (sym (constructor_alone c.args.self c.args.symbol c.requires.known c.if-self-symbol-eq0.false))

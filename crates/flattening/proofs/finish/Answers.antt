-- `finish` meets its contract: the call's row, its arguments and its result variable are written behind the premises.
use Rattle.flattening.proofs.PremiseLaws.{replaced}
use native.Mathlib.Omega.{arith}
use Rattle.flattening.proofs.finish.Goals as goal

pub returns : goal.returns
returns c =
    let args = c.args in
    let pre = c.requires in
    let if1 = c.if-number-eq-PREMISES in
    replaced args.out.now args.calls.now _ args.top args.from.top args.from.end args.from.number args.word.start args.word.size args.args c.result_length-n.result args.from.next _ c.copy.ensures.after (omega arith) pre.0 pre.1 pre.2 (omega (arith, if1.false)) c.result_length-n.ensures

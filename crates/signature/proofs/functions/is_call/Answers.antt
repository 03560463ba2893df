-- `is_call` meets its contract: a node is a call where its symbol's row has the function mark.
use mathlib.Core.Path.{refl}
use Rattle.std.proofs.Common.{length, le_refl}
use Rattle.names.specs.Symbols.{symbols_of}
use Rattle.unifier.specs.Checking.{tells_no}
use Rattle.signature.proofs.ClauseLaws.{no_call, call_by}
use Rattle.signature.proofs.functions.is_call.Goals as goal

pub returns-in_default : goal.returns-in_default
returns-in_default c =
    λ text. tells_no (λ h. no_call c.args.words.now c.args.reference (symbols_of text c.args.symbols.now (length c.args.symbols.now)) c.in_default.ensures h)

pub returns : goal.returns
returns c =
    let rows = c.args.symbols.now in
    let h = c.in-Some.ensures in
    λ text. call_by text c.args.words.now c.args.reference rows (length rows) c.in-Some.i (le_refl _) h.0 h.1 c.get.result c.is_some_and.result refl c.get.ensures.lookup.0 c.get.ensures.lookup.1 c.is_some_and.ensures

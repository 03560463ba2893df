-- `are_rules_of` meets its contract: the numbers of inputs are the symbols' arities.
use Rattle.std.proofs.Common.{length, arith, le_refl}
use Rattle.signature.proofs.RuleLaws.{arities_of_lem}
use Rattle.signature.proofs.are_rules_of.Goals as goal

pub returns : goal.returns
returns c =
    let symbols = c.args.symbols.now in
    rw (arities_of_lem c.args.text.now c.put_column.new.numbers symbols (length symbols) (le_refl _) (omega (arith, c.requires.0, c.put_column.auto.numbers)) c.put_column.ensures) at c.are_rules_listed.ensures

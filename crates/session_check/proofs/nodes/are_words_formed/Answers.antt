-- `are_words_formed` meets its contract: the numbers of inputs are the symbols' arities.
use Rattle.std.proofs.Common.{length, arith, le_refl}
use Rattle.signature.proofs.RuleLaws.{arities_of_lem}
use Rattle.session_check.proofs.nodes.are_words_formed.Goals as goal

pub returns : goal.returns
returns c =
    let symbols = c.args.symbols.now in
    λ text. rw (arities_of_lem text c.put_column.new.numbers symbols (length symbols) (le_refl _) (omega (arith, c.requires.0, c.put_column.auto.numbers)) c.put_column.ensures) at c.check_words.ensures

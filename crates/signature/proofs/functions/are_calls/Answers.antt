-- `are_calls` meets its contract: each of the row's premises is asked.
use Rattle.std.proofs.Common.{rules, length, ◌∙◌}
use Rattle.std.proofs.lemmas.Iterator.{YieldsList-from_slice}
use Rattle.meeting.specs.Contract.{term_of}
use Rattle.names.specs.Symbols.{symbols_of}
use Rattle.loader.specs.Legal.{Calls}
use Rattle.rules.specs.StoredRows.{heads_in}
use Rattle.signature.proofs.Laws.{same, all_tell}
use Rattle.signature.proofs.ClauseLaws.{all_call, each_calls}
use Rattle.signature.proofs.functions.are_calls.Goals as goal

pub returns : goal.returns
returns c =
    let words = c.args.words.now in
    let heads = heads_in c.args.rule.now in
    λ text. let symbols = symbols_of text c.args.symbols.now (length c.args.symbols.now) in
    same (all_call symbols (term_of words) heads) (each_calls symbols (term_of words) heads)
    (all_tell (λ r. Calls symbols (term_of words r)) 0 _ _ c.all.result c.all.ensures.ran (YieldsList-from_slice heads (c.iter.ensures.rest ∙ c.premises.ensures)) (λ x b q e. (search rules, search rules)))

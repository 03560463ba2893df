-- `is_short` meets its contract: too few rows for sorts are told first, and the other lengths are told together.
use Rattle.words.specs.Lexer.{capped_of}
use Rattle.load_storage.proofs.ShortLaws.{few_sorts}
use Rattle.load_storage.proofs.is_short.Goals as goal

pub returns-then-lengths-lt-SORTS : goal.returns-then-lengths-lt-SORTS
returns-then-lengths-lt-SORTS c =
    let b = c.args.lengths in
    let capped = capped_of c.args.limits in
    few_sorts capped.text capped.nodes b.tokens b.rows b.calls b.sorts b.symbols b.rules b.words b.evals c.if-lengths-lt-SORTS.true

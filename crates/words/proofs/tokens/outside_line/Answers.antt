-- `outside_line` meets its contract: each line that is taken has no character outside the domain, or is the one that is answered.
use mathlib.Core.Path.{◌∙◌}
use borrow.Author.Rules.{rules}
use borrow.Author.Tests.{tests}
use Rattle.words.proofs.Readings.{outside_found, mapped_some}
use Rattle.words.proofs.tokens.outside_line.Goals as goal

pub returns : goal.returns
returns c =
    let ran = c.find.ensures.ran in
    let found = outside_found _ (λ x b q k. search (rules, tests)) ran.1 c.find.new.self c.find.result ran.0 c.args.all c.requires ran.2 ran.3 ran.4 in
    mapped_some (λ x. x.line) c.find.result c.map.result _ (λ x y k. search (rules, tests)) c.map.ensures.cases ∙ found

-- `peek` meets its contract.
use mathlib.Core.Path.{ap, ◌∙◌}
use mathlib.Core.List.{[], ◌∷◌}
use Rattle.std.specs.Prelude.{unwrap_or}
use Rattle.term_parser.specs.Parsing.{token_of}
use Rattle.term_parser.proofs.TokenLaws.{token_at}
use native.Mathlib.Omega.{arith}
use Rattle.term_parser.proofs.tokens.peek.Goals as goal

pub returns : goal.returns
returns c =
    let row = c.unwrap_or.ensures ∙ ap (λ v. unwrap_or v (0 ∷ 0 ∷ 0 ∷ 0 ∷ [])) c.copied.ensures ∙ c.get.ensures.lookup.4 (omega arith) (0 ∷ 0 ∷ 0 ∷ 0 ∷ []) in
    c.from.ensures ∙ ap (λ r. token_of (r ∷ [])) row ∙ token_at c.args.tokens.now c.args.at

-- `line` meets its contract.
use mathlib.Core.Path.{ap, ◌∙◌}
use Prim.Native.Nat.{◌-◌, min}
use lib.ListN.{length, drop}
use Rattle.std.proofs.Common.{rules, ◌≡◌}
use Rattle.term_parser.specs.Parsing.{token_of}
use Rattle.term_parser.proofs.TokenLaws.{line_at}
use Rattle.term_parser.proofs.tokens.line.Goals as goal

pub returns : goal.returns
returns c =
    let e : c.min.result ≡ min c.args.at (length c.args.tokens.now - 1) = search rules in
    ap (λ t. t.line) c.peek.ensures ∙ ap (λ q. (token_of (drop q c.args.tokens.now)).line) e ∙ line_at c.args.tokens.now c.args.at

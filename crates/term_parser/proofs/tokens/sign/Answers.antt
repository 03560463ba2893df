-- `sign` meets its contract.
use mathlib.Core.Path.{◌≡◌, sym, ap, ◌∙◌}
use lib.ListN.{drop}
use Rattle.term_parser.specs.Parsing.{kind_of, last_line}
use native.Mathlib.Omega.{arith}
use Rattle.term_parser.specs.Promises.{signed}
use Rattle.term_parser.specs.Steps.Step.{Refused}
use Rattle.term_parser.proofs.TokenLaws.{token_there, sign_there, sign_not}
use Rattle.term_parser.proofs.tokens.sign.Goals as goal

pub past_token-requires : goal.past_token-requires
past_token-requires c =
    let args = c.args in
    let peek = c.peek in
    let if1 = c.if-peek-kind in
    let pre = c.requires in
    let e : kind_of (drop (args.from.at) (args.input.tokens.now)) ≡ args.kind = sym (ap (λ t. t.kind) peek.ensures) ∙ if1.true in
    let h = token_there (args.input.tokens.now) (args.from.at) (omega (arith, pre)) in
    omega (arith, pre)

pub returns-then-peek-kind : goal.returns-then-peek-kind
returns-then-peek-kind c =
    let args = c.args in
    let peek = c.peek in
    let if1 = c.if-peek-kind in
    let pre = c.requires in
    let e : kind_of (drop (args.from.at) (args.input.tokens.now)) ≡ args.kind = sym (ap (λ t. t.kind) peek.ensures) ∙ if1.true in
    let h = token_there (args.input.tokens.now) (args.from.at) (omega (arith, pre)) in
    rw c.past_token.ensures (record {
      is = sym (ap (signed (args.from.at) (args.from.used)) (sign_there (last_line (args.input.tokens.now)) (args.kind) (drop (args.from.at) (args.input.tokens.now)) e));
      within = (omega arith, omega arith, omega arith, omega arith);
    })

pub returns : goal.returns
returns c =
    let args = c.args in
    record {
      is = ap (λ e. Refused e.refusal e.line) c.rejection.ensures
          ∙ sym (ap (signed (args.from.at) (args.from.used)) (sign_not (last_line (args.input.tokens.now)) (args.kind) (drop (args.from.at) (args.input.tokens.now)) (λ e. c.if-peek-kind.false (ap (λ t. t.kind) c.peek.ensures ∙ e))));
      within = tt;
    }

-- `body` meets its contract: the keyword's number says which declaration is read.
use mathlib.Core.Path.{◌≡◌}
use Prim.Native.Nat.{◌+◌, ◌<◌}
use mathlib.Core.Logic.{◌⊎◌, inl, inr}
use native.Mathlib.Omega.{arith}
use lib.ListN.{drop}
use Rattle.term_parser.specs.Parsing.{last_line}
use Rattle.parser.specs.Rows.{declaration_rows}
use Rattle.parser.proofs.DeclarationLaws.{barred, starts_sort, starts_ctor, starts_pred, starts_rule, starts_def, starts_theorem, starts_asked, starts_nothing, no_keyword}
use Rattle.parser.proofs.declarations.body.Goals as goal
use Rattle.parser.proofs.declarations.body.Goals.{in_default-via-then-token-lt1, in_default-via-else-token-lt1+else-token-lt10+else-token-lt12}

pub returns-in-1 : goal.returns-in-1
returns-in-1 c = rw (starts_sort c.args.input.text.now (last_line c.args.input.tokens.now) (drop c.args.from.at c.args.input.tokens.now) (drop (c.args.from.at + 1) c.args.input.tokens.now) c.args.token.kind c.in-1.is) c.sort.ensures

pub returns-in-2 : goal.returns-in-2
returns-in-2 c = rw (starts_ctor c.args.input.text.now (last_line c.args.input.tokens.now) (drop c.args.from.at c.args.input.tokens.now) (drop (c.args.from.at + 1) c.args.input.tokens.now) c.args.token.kind c.in-2.is) c.ctor.ensures

pub returns-in-3 : goal.returns-in-3
returns-in-3 c = rw (starts_pred c.args.input.text.now (last_line c.args.input.tokens.now) (drop c.args.from.at c.args.input.tokens.now) (drop (c.args.from.at + 1) c.args.input.tokens.now) c.args.token.kind c.in-3.is) c.pred.ensures

pub returns-in-4 : goal.returns-in-4
returns-in-4 c = rw (starts_rule c.args.input.text.now (last_line c.args.input.tokens.now) (drop c.args.from.at c.args.input.tokens.now) (drop (c.args.from.at + 1) c.args.input.tokens.now) c.args.token.kind c.in-4.is) c.rule.ensures

pub returns-in-5 : goal.returns-in-5
returns-in-5 c = rw (starts_def c.args.input.text.now (last_line c.args.input.tokens.now) (drop c.args.from.at c.args.input.tokens.now) (drop (c.args.from.at + 1) c.args.input.tokens.now) c.args.token.kind c.in-5.is) c.def.ensures

pub returns-in-6 : goal.returns-in-6
returns-in-6 c = rw (starts_theorem c.args.input.text.now (last_line c.args.input.tokens.now) (drop c.args.from.at c.args.input.tokens.now) (drop (c.args.from.at + 1) c.args.input.tokens.now) c.args.token.kind c.in-6.is) c.theorem.ensures

pub returns-in-10 : goal.returns-in-10
returns-in-10 c = rw (starts_asked c.args.input.text.now (last_line c.args.input.tokens.now) (drop c.args.from.at c.args.input.tokens.now) (drop (c.args.from.at + 1) c.args.input.tokens.now) c.args.token.kind (omega arith) (omega arith)) c.asked.ensures

pub returns-in-7 : goal.returns-in-7
returns-in-7 c = rw c.rejection.ensures (barred (declaration_rows c.args.token.line) (starts_nothing c.args.input.text.now (last_line c.args.input.tokens.now) (drop c.args.from.at c.args.input.tokens.now) (drop (c.args.from.at + 1) c.args.input.tokens.now) c.args.token.kind (omega arith) (omega arith)))

pub returns-in_default : goal.returns-in_default
returns-in_default c =
    let d : (c.args.token.kind ≡ 0) ⊎ (11 < c.args.token.kind) = elim c.in_default.branch [
      | in_default-via-then-token-lt1 w ↦ inl (omega arith)
      | in_default-via-else-token-lt1+else-token-lt10+else-token-lt12 w ↦ inr (omega arith)
    ] in
    rw c.rejection-in_default.ensures (barred (declaration_rows c.args.token.line) (no_keyword c.args.input.text.now (last_line c.args.input.tokens.now) (drop c.args.from.at c.args.input.tokens.now) (drop (c.args.from.at + 1) c.args.input.tokens.now) c.args.token.kind d))

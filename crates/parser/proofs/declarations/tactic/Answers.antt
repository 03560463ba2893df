-- `tactic` meets its contract.
use mathlib.Core.Path.{◌≡◌, refl, sym, ap, ◌∙◌}
use Prim.Native.Nat.{◌+◌}
use native.Mathlib.Omega.{arith}
use lib.ListN.{drop}
use Rattle.term_parser.specs.Parsing.{kind_of}
use Rattle.term_parser.proofs.TokenLaws.{token_there}
use Rattle.term_parser.proofs.TermLaws.{room_on}
use Rattle.parser.proofs.TacticLaws.{no_tactic, no_by, by_auto, neither, by_induction}
use Rattle.parser.proofs.declarations.tactic.Goals as goal

pub returns-then-peek-ne-DEFINES : goal.returns-then-peek-ne-DEFINES
returns-then-peek-ne-DEFINES c =
    let args = c.args in
    let pre = c.requires in
    let if1 = c.if-peek-ne-DEFINES in
    let peek = c.peek in
    no_tactic args.input.tokens.now args.from.at args.from.used _ pre.here (λ e. if1.true (ap (λ x. x.kind) peek.ensures ∙ e))

pub returns-then-peek-ne-BY : goal.returns-then-peek-ne-BY
returns-then-peek-ne-BY c =
    let args = c.args in
    let peek = c.peek in
    let if1 = c.if-peek-ne-DEFINES in
    let if2 = c.if-peek-ne-BY in
    let peek2 = c.peek-2 in
    rw c.rejection.ensures (no_by args.input.tokens.now args.from.at args.from.used _ (sym (ap (λ x. x.kind) peek.ensures)
    ∙ if1.false) (λ e. if2.true (ap (λ x. x.kind) peek2.ensures ∙ e)) refl)

pub returns-in-8 : goal.returns-in-8
returns-in-8 c =
    by_auto c.args.input.tokens.now c.args.from.at c.args.from.used _ (sym (ap (λ x. x.kind) c.peek.ensures) ∙ c.if-peek-ne-DEFINES.false)
    (sym (ap (λ x. x.kind) c.peek-2.ensures) ∙ c.if-peek-ne-BY.false) (sym (ap (λ x. x.kind) c.peek-3.ensures) ∙ c.in-8.is)

pub name-requires : goal.name-requires
name-requires c =
    let e : kind_of (drop (c.args.from.at + 2) c.args.input.tokens.now) ≡ 9 = sym (ap (λ x. x.kind) c.peek-3.ensures) ∙ c.in-9.is in
    let h = token_there c.args.input.tokens.now (c.args.from.at + 2) (omega arith) in
    room_on c.requires _ _ _ (omega arith) (omega arith) refl

pub returns-in-9 : goal.returns-in-9
returns-in-9 c =
    by_induction c.args.input.tokens.now c.args.from.at c.args.from.used _ (sym (ap (λ x. x.kind) c.peek.ensures) ∙ c.if-peek-ne-DEFINES.false)
    (sym (ap (λ x. x.kind) c.peek-2.ensures) ∙ c.if-peek-ne-BY.false) (sym (ap (λ x. x.kind) c.peek-3.ensures) ∙ c.in-9.is) c.name.ensures

pub returns-in_default : goal.returns-in_default
returns-in_default c =
    rw c.rejection-in_default.ensures (neither c.args.input.tokens.now c.args.from.at c.args.from.used _ (sym (ap (λ x. x.kind) c.peek.ensures) ∙ c.if-peek-ne-DEFINES.false)
    (sym (ap (λ x. x.kind) c.peek-2.ensures) ∙ c.if-peek-ne-BY.false)
    (λ e. let k : c.peek-3.result.kind ≡ 8 = ap (λ x. x.kind) c.peek-3.ensures ∙ e in omega arith)
    (λ e. let k : c.peek-3.result.kind ≡ 9 = ap (λ x. x.kind) c.peek-3.ensures ∙ e in omega arith) refl)

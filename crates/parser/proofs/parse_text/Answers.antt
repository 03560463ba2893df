-- `parse_text` meets its contract.
use mathlib.Core.Path.{◌≡◌, refl, sym, ap, ◌∙◌}
use native.Mathlib.Omega.{arith}
use Prim.Native.Nat.{◌≤◌}
use lib.ListN.{length}
use Rattle.words.specs.Lexer.{capped_of}
use Rattle.parser.proofs.StorageLaws.{text_short, short_tokens, short_rows, text_unread, tokens_in, text_parsed, text_refused}
use Rattle.parser.proofs.parse_text.Goals as goal

pub returns-then-tokens-limit : goal.returns-then-tokens-limit
returns-then-tokens-limit c =
    let capped = c.capped-limit in
    let args = c.args in
    let if1 = c.if-tokens-limit in
    let e : capped.result.text ≡ (capped_of args.limits).text = ap (λ l. l.text) capped.ensures in
    rw c.from.ensures (text_short args.text.now args.limits args.tokens.now args.rows.now (short_tokens args.text.now args.limits args.tokens.now args.rows.now (omega (arith, e, if1.true))))

pub returns-then-rows-limit : goal.returns-then-rows-limit
returns-then-rows-limit c =
    let capped = c.capped-limit in
    let args = c.args in
    let if2 = c.if-rows-limit in
    let e : capped.result.text ≡ (capped_of args.limits).text = ap (λ l. l.text) capped.ensures in
    rw c.from-then-rows-limit.ensures (text_short args.text.now args.limits args.tokens.now args.rows.now (short_rows args.text.now args.limits args.tokens.now args.rows.now (omega (arith, e, if2.true))))

pub slice_bounds-parse-end : goal.slice_bounds-parse-end
slice_bounds-parse-end c =
    let args = c.args in
    let e : c.capped-limit.result.text ≡ (capped_of args.limits).text = ap (λ l. l.text) c.capped-limit.ensures in
    let h : (capped_of args.limits).text ≤ length args.tokens.now = omega (arith, e, c.if-tokens-limit.false) in
    let k : (capped_of args.limits).text ≤ length args.rows.now = omega (arith, e, c.if-rows-limit.false) in
    let i = tokens_in args.text.now args.limits args.tokens.now args.rows.now h k c.lex.ensures c.in-Ok.is in
    omega (arith, i, h, c.lex.auto.tokens)

pub returns-then-is_err : goal.returns-then-is_err
returns-then-is_err c =
    let args = c.args in
    let e : c.capped-limit.result.text ≡ (capped_of args.limits).text = ap (λ l. l.text) c.capped-limit.ensures in
    let h : (capped_of args.limits).text ≤ length args.tokens.now = omega (arith, e, c.if-tokens-limit.false) in
    let k : (capped_of args.limits).text ≤ length args.rows.now = omega (arith, e, c.if-rows-limit.false) in
    text_refused args.text.now args.limits args.tokens.now args.rows.now h k c.lex.ensures c.in-Ok.is refl c.parse-answer.ensures (sym c.is_err.ensures.value ∙ c.if-is_err.true) c.lex.auto.tokens c.clear_from.ensures

pub returns-else-is_err : goal.returns-else-is_err
returns-else-is_err c =
    let args = c.args in
    let e : c.capped-limit.result.text ≡ (capped_of args.limits).text = ap (λ l. l.text) c.capped-limit.ensures in
    let h : (capped_of args.limits).text ≤ length args.tokens.now = omega (arith, e, c.if-tokens-limit.false) in
    let k : (capped_of args.limits).text ≤ length args.rows.now = omega (arith, e, c.if-rows-limit.false) in
    text_parsed args.text.now args.limits args.tokens.now args.rows.now h k c.lex.ensures c.in-Ok.is refl c.parse-answer.ensures (sym c.is_err.ensures.value ∙ c.if-is_err.false)

pub returns-in-Err : goal.returns-in-Err
returns-in-Err c =
    let args = c.args in
    let e : c.capped-limit.result.text ≡ (capped_of args.limits).text = ap (λ l. l.text) c.capped-limit.ensures in
    let h : (capped_of args.limits).text ≤ length args.tokens.now = omega (arith, e, c.if-tokens-limit.false) in
    let k : (capped_of args.limits).text ≤ length args.rows.now = omega (arith, e, c.if-rows-limit.false) in
    text_unread args.text.now args.limits args.tokens.now args.rows.now h k c.lex.ensures c.in-Err.is c.clear_from-in-Err.ensures

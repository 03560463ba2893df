-- `lex` meets its contract: on each way out the answer and the rows are those of the definition.
-- After `read` the rows are those of its reading, and `clear_from` zeroes what lies past them.
use mathlib.Core.Path.{◌≡◌, sym, ap, ◌∙◌}
use Prim.Native.Nat.{min}
use lib.ListN.{length}
use borrow.Author.Tests.{lt-ltb, le-ltb}
use Rattle.words.specs.Lexer.{lex_of, answer_of, rows_of, count_of}
use Rattle.words.specs.Rows.{outcome}
use Rattle.words.proofs.Readings.{then_nil, counted, leaves}
use Rattle.words.proofs.AnswerLaws.{lexing}
use native.Mathlib.Omega.{arith}
use Rattle.words.proofs.lex.Goals as goal

pub returns-then-tokens-limit : goal.returns-then-tokens-limit
returns-then-tokens-limit c =
    let e : c.capped-limit.result.text ≡ min (c.args.limits.text) 65536 = ap (λ l. l.text) c.capped-limit.ensures in
    lexing c.args.text.now c.args.limits c.args.tokens.now _
    (sym (simp (← e, lt-ltb _ _ c.if-tokens-limit.true, c.from.ensures)))
    (sym (simp (← e, lt-ltb _ _ c.if-tokens-limit.true)))
    (omega arith)

pub read-read-requires : goal.read-read-requires
read-read-requires c =
    let e : c.capped-limit.result.text ≡ min (c.args.limits.text) 65536 = ap (λ l. l.text) c.capped-limit.ensures in
    (omega arith, omega arith)

pub returns : goal.returns
returns c =
    let read' = c.read-read in
    let short = c.if-tokens-limit in
    let e : c.capped-limit.result.text ≡ min (c.args.limits.text) 65536 = ap (λ l. l.text) c.capped-limit.ensures in
    let reads : outcome read'.result read'.new.rows ≡ lex_of c.capped-limit.result.text c.args.text.now = read'.ensures.reads ∙ then_nil _ in
    let n : c.unwrap_or.result ≡ count_of read'.result = c.unwrap_or.ensures ∙ counted c.read-read.result in
    let left : ((read'.result ≡ answer_of (outcome read'.result read'.new.rows)) × (c.clear_from.new.items ≡ rows_of (length c.args.tokens.now) (outcome read'.result read'.new.rows))) =
    leaves (length c.args.tokens.now) read'.new.rows c.clear_from.new.items read'.ensures.long read'.result (omega (arith, read'.ensures.fits, short.false)) (rw n at c.clear_from.ensures) in
    lexing c.args.text.now c.args.limits c.args.tokens.now _
    (left.0 ∙ ap answer_of reads ∙ sym (simp (← e, le-ltb _ _ short.false)))
    (left.1 ∙ ap (rows_of (length c.args.tokens.now)) reads ∙ sym (simp (← e, le-ltb _ _ short.false)))
    (omega (arith, read'.ensures.fits))

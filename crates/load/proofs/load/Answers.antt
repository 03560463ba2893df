-- `load` meets its contract: a buffer is too short; the parser refuses the text; or its declarations are entered.
use mathlib.Core.Path.{refl, sym, ap, ◌∙◌}
use lib.ListN.{length}
use Rattle.terms.specs.Numbers.{true_false}
use Rattle.words.specs.Lexer.{capped_of}
use Rattle.words.specs.declared.Limits.{Limits}
use Rattle.parser.specs.Parser.{text_of}
use Rattle.load.specs.Load.{declared_in}
use Rattle.load_storage.specs.Storage.{Buffers}
use Rattle.load_storage.specs.Lent.{buffers_of}
use Rattle.load_storage.proofs.ShortLaws.{enough}
use Rattle.load_storage.proofs.WipeLaws.{SameLengths}
use Rattle.load.proofs.LoadLaws.{answered, declared, rows_asked, accepted_left}
use Rattle.load.proofs.ToldLaws.{as_loading}
use Rattle.load.proofs.load.Goals as goal

pub returns-then-is_short-clause-loaded : goal.returns-then-is_short-clause-loaded
returns-then-is_short-clause-loaded c = as_loading _ _ _ _ _ (λ z. (rw c.from.ensures (refl, refl), refl)) (λ z. let told = rw c.lengths.ensures at c.is_short.ensures in true_false (sym told ∙ c.if-is_short.true) z)

pub load_rows-requires : goal.load_rows-requires
load_rows-requires c =
    let args = c.args in
    let b = buffers_of args.buffers.now in
    let parse-text = c.parse_text in
    let told = rw c.lengths.ensures at c.is_short.ensures in
    let no = sym told ∙ c.if-is_short.false in
    let lent = enough (capped_of args.limits).text (capped_of args.limits).nodes (length b.tokens) (length b.rows) (length b.calls) (length b.sorts) (length b.symbols) (length b.rules) (length b.words) (length b.evals) no in
    let an = rw (c.in-Ok.is) at (answered parse-text.ensures lent.tokens_lent lent.rows_lent) in
    let lm = ap (λ (x : Limits). x.nodes) c.capped.ensures in
    rows_asked args.text.now args.limits b.tokens b.rows b.calls b.sorts b.symbols b.rules b.words b.evals lent an c.capped.result.nodes parse-text.new.tokens lm parse-text.auto.tokens parse-text.auto.rows

pub returns-in-Ok-clause-loaded : goal.returns-in-Ok-clause-loaded
returns-in-Ok-clause-loaded c =
    let args = c.args in
    let b = buffers_of args.buffers.now in
    let parse-text = c.parse_text in
    let told = rw c.lengths.ensures at c.is_short.ensures in
    let no = sym told ∙ c.if-is_short.false in
    let lent = enough (capped_of args.limits).text (capped_of args.limits).nodes (length b.tokens) (length b.rows) (length b.calls) (length b.sorts) (length b.symbols) (length b.rules) (length b.words) (length b.evals) no in
    let an = rw (c.in-Ok.is) at (answered parse-text.ensures lent.tokens_lent lent.rows_lent) in
    let lm = ap (λ (x : Limits). x.nodes) c.capped.ensures in
    let m : Buffers = record {
      tokens = parse-text.new.tokens;
      rows = parse-text.new.rows;
      calls = b.calls;
      sorts = b.sorts;
      symbols = b.symbols;
      rules = b.rules;
      words = b.words;
      evals = b.evals;
    } in
    let l : SameLengths b m = record { tokens = parse-text.auto.tokens; calls = refl; sorts = refl; symbols = refl; rules = refl; words = refl; evals = refl } in
    let load-rows = c.load_rows in
    let q = declared args.text.now args.limits b.tokens b.rows b.calls b.sorts b.symbols b.rules b.words b.evals lent an c.capped.result.nodes in
    as_loading _ _ _ _ _ (λ z. true_false z no)
    (λ z. accepted_left args.text.now args.limits b.tokens b.rows b.calls b.sorts b.symbols b.rules b.words b.evals lent an c.capped.result.nodes lm b m (buffers_of load-rows.new.buffers) l refl refl parse-text.auto.rows load-rows.result (load-rows.ensures.loaded.same (declared_in (text_of args.text.now args.limits)) q.0 q.1 q.2))

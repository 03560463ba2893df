-- `load_rows` meets its contract: everything is wiped, or the signature is kept with zero past it.
use mathlib.Core.Path.{sym, ap, ◌∙◌}
use lib.ListN.{length}
use lib.Seq.{length-take-le}
use Rattle.loader.specs.Signature.{load_of}
use Rattle.loader.specs.Stored.{titles_of}
use Rattle.load.specs.Load.{evals_from}
use Rattle.load_storage.specs.Storage.{Buffers}
use Rattle.load_storage.specs.Lent.{buffers_of}
use Rattle.load.proofs.LentLaws.{scratch_as, signature_as}
use Rattle.load.proofs.WalkLaws.{evals_few}
use Rattle.load_storage.proofs.WipeLaws.{SameLengths}
use Rattle.load.proofs.RowsLaws.{came_done, rows_done}
use native.Mathlib.Omega.{arith}
use borrow.Author.Rules.{rules}
use Rattle.load.proofs.load_rows.Goals as goal

pub overflow_cast-result : goal.overflow_cast-result
overflow_cast-result c =
    let args = c.args in
    let pre = c.requires in
    let enter-all = c.enter_all in
    let g = came_done args.walk.text.now args.walk.limit (titles_of pre.declared.0) (evals_from 0 pre.declared.0) enter-all.result enter-all.new.sorts enter-all.new.symbols enter-all.new.store.rules.now enter-all.new.store.words.now enter-all.new.evals (load_of args.walk.limit args.walk.text.now pre.declared.0) (enter-all.ensures.walked.same pre.declared.0 pre.declared.1 pre.declared.2 pre.declared.3) c.in-Ok.is in
    let m = g.number in
    let f = evals_few pre.declared.0 0 in
    let e = ap length (sym pre.declared.1) ∙ length-take-le args.walk.used args.buffers.now.rows.now pre.within in
    let s = pre.short in
    omega arith

pub returns-in-Ok-clause-loaded : goal.returns-in-Ok-clause-loaded
returns-in-Ok-clause-loaded c =
    let args = c.args in
    let enter-all = c.enter_all in
    let b = buffers_of args.buffers.now in
    let m : Buffers = record {
      tokens = enter-all.new.store.out.now;
      rows = b.rows;
      calls = enter-all.new.store.calls.now;
      sorts = enter-all.new.sorts;
      symbols = enter-all.new.symbols;
      rules = enter-all.new.store.rules.now;
      words = enter-all.new.store.words.now;
      evals = enter-all.new.evals;
    } in
    let lent = enter-all.ensures.lent in
    let l : SameLengths b m = record {
      tokens = lent.out_long;
      calls = lent.calls_long;
      sorts = enter-all.auto.sorts;
      symbols = enter-all.auto.symbols;
      rules = lent.rules_long;
      words = lent.words_long;
      evals = enter-all.auto.evals;
    } in
    record {
      same = λ ds x y t. rows_done b m (buffers_of c.leave.new.buffers) l args.walk.text.now args.walk.limit ds enter-all.result args.walk.n (load_of args.walk.limit args.walk.text.now ds) (came_done args.walk.text.now args.walk.limit (titles_of ds) (evals_from 0 ds) enter-all.result m.sorts m.symbols m.rules m.words m.evals (load_of args.walk.limit args.walk.text.now ds) (enter-all.ensures.walked.same ds x y t) c.in-Ok.is) c.leave.ensures.rows (scratch_as (search rules) (search rules) c.leave.ensures.scratch_cleared) (signature_as (search rules) (search rules) c.leave.ensures.signature_cleared);
    }

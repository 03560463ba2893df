-- `horn_load` meets its contract: the counts of what was loaded are told one by one, and those of what was refused are zero.
use borrow.Author.Rules.{rules}
use mathlib.Core.Path.{refl}
use native.Mathlib.Omega.{arith}
use Rattle.capi.proofs.Laws.{loading_lent}
use Rattle.capi.proofs.horn_load.Goals as goal

pub returns-in-Err : goal.returns-in-Err
returns-in-Err c =
    let lent = c.load.ensures.lent in
    record {
      short = λ l. absurd (let z = c.if-counts-lt5.false in omega arith);
      enough = λ l. record {
        given = c.load.result;
        is = rw (c.packed_rejection.ensures, c.in-Err.is) refl;
        loading = loading_lent c.load.new.buffers (search (rules, lent.tokens)) (search (rules, lent.rows)) (search (rules, lent.calls))
            (search (rules, lent.sorts)) (search (rules, lent.symbols)) (search (rules, lent.rules)) (search (rules, lent.words))
            (search (rules, lent.evals)) (rw c.text_limits.ensures at c.load.ensures.loaded);
        counted = rw c.in-Err.is (rw c.from.ensures at c.clear_numbers.ensures);
      };
    }

pub returns-in-Ok : goal.returns-in-Ok
returns-in-Ok c =
    let lent = c.load.ensures.lent in
    record {
      short = λ l. absurd (let z = c.if-counts-lt5.false in omega arith);
      enough = λ l. record {
        given = c.load.result;
        is = rw c.in-Ok.is refl;
        loading = loading_lent c.load.new.buffers (search (rules, lent.tokens)) (search (rules, lent.rows)) (search (rules, lent.calls))
            (search (rules, lent.sorts)) (search (rules, lent.symbols)) (search (rules, lent.rules)) (search (rules, lent.words))
            (search (rules, lent.evals)) (rw c.text_limits.ensures at c.load.ensures.loaded);
        counted = rw c.in-Ok.is c.put_numbers.ensures;
      };
    }

-- `declare_def` meets its contract: the symbol is refused, or it is entered and its clauses behind it.
use mathlib.Core.Path.{◌≡◌, refl, sym}
use Prim.Native.Nat.{◌<◌}
use Rattle.names.specs.Symbols.{column, row_at}
use Rattle.refusals.specs.Refused.{handed_on}
use Rattle.declarations.proofs.DefLaws.{def_no, first_is, def_none, def_refused, def_entered, def_ready, def_stepped}
use native.Mathlib.Omega.{arith}
use Rattle.declarations.proofs.declare_def.Goals as goal

pub returns-in_err-some_behind-clause-declared : goal.returns-in_err-some_behind-clause-declared
returns-in_err-some_behind-clause-declared c =
    let args = c.args in
    let pre = c.requires in
    rw (handed_on c.from_residual.result c.from_residual.ensures.1, c.in_err-some_behind.ensures.0)
    (record {
      same = λ limit ts s held cs q st e legal. def_no held args.source.rows.now args.source.at pre.inside cs 0 q _ _ _ _ refl (def_none held args.source.rows.now args.source.at pre.inside cs c.in_err-some_behind.ensures.1);
    })

pub returns-in_err-entered-clause-declared : goal.returns-in_err-entered-clause-declared
returns-in_err-entered-clause-declared c =
    let args = c.args in
    let pre = c.requires in
    let first-clause = c.first_clause in
    let h = c.in_err-entered.ensures in
    let none : h.refusal ≡ 0 → ⊥ = λ y. (let l = h.is.1 in let m = h.is.0 in omega arith) in
    rw (handed_on c.from_residual-in_err-entered.result c.from_residual-in_err-entered.ensures.1)
    (record {
      same = λ limit ts s held cs q st e legal. def_no held args.source.rows.now args.source.at pre.inside cs h.refusal q _ _ _ _ h.is.0 (def_refused held args.source.rows.now args.source.at pre.inside cs c.in_ok-some_behind.ensures.1 (first_is held args.source.rows.now args.source.at pre.inside cs first-clause.ensures e) e h.entered none);
    })

pub declare_clauses-requires : goal.declare_clauses-requires
declare_clauses-requires c =
    let args = c.args in
    let pre = c.requires in
    let first-clause = c.first_clause in
    let h = c.in_ok-entered.ensures in
    let held = pre.ready.3 in
    let cs = pre.stand.0 in
    let e = pre.stand.3 in
    let some : 0 < column (row_at args.source.rows.now args.source.at) 2 = c.in_ok-some_behind.ensures.1 in
    let f = first_is held args.source.rows.now args.source.at pre.inside cs first-clause.ensures e in
    let d = def_entered held args.source.rows.now args.source.at pre.inside cs some f e h.entered (sym h.is.0) in
    rw (c.from_row-clauses.ensures, h.is.1, c.behind_kind-word.ensures)
    (record {
      short = pre.short;
      few = pre.few;
      out_lent = pre.out_lent;
      calls_lent = pre.calls_lent;
      inside = pre.inside;
      ready = (pre.ready.0, pre.ready.1.rules, _, def_ready held args.source.rows.now args.source.at pre.inside cs some f e h.entered d);
      stand = (cs, pre.stand.1, pre.stand.2, e);
    })

pub returns-clause-declared : goal.returns-clause-declared
returns-clause-declared c =
    let args = c.args in
    let pre = c.requires in
    let first-clause = c.first_clause in
    let h = c.in_ok-entered.ensures in
    let declared = rw (c.from_row-clauses.ensures, h.is.1, c.behind_kind-word.ensures) at c.declare_clauses.ensures.declared in
    let some : 0 < column (row_at args.source.rows.now args.source.at) 2 = c.in_ok-some_behind.ensures.1 in
    record {
      same = λ limit ts s held cs q st e legal.
          let f = first_is held args.source.rows.now args.source.at pre.inside cs first-clause.ensures e in
          let d = def_entered held args.source.rows.now args.source.at pre.inside cs some f e h.entered (sym h.is.0) in
          def_stepped held args.source.rows.now args.source.at pre.inside cs some f e h.entered d q _ _ _ (declared.same limit ts.rules _ (def_ready held args.source.rows.now args.source.at pre.inside cs some f e h.entered d) cs q st e) legal;
    }

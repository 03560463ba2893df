-- `declare` meets its contract: the keyword in the declaration's row says which function declares it.
use Rattle.declarations.proofs.DeclareLaws.{sort_done, ctor_asked, ctor_none, ctor_done, pred_asked, pred_done, rule_asked, rule_done, def_asked, def_done, eval_done, others_done}
use Rattle.refusals.specs.Refused.{handed_on}
use Rattle.declarations.proofs.declare.Goals as goal

pub returns-in_err-some_behind-in-2-clause-declared : goal.returns-in_err-some_behind-in-2-clause-declared
returns-in_err-some_behind-in-2-clause-declared c =
    rw (handed_on c.from_residual.result c.from_residual.ensures.1, c.in_err-some_behind-in-2.ensures.0) (record { same = λ limit ts s held d q st. ctor_none held st _ _ _ _ c.in-2.is c.in_err-some_behind-in-2.ensures.1 })

pub declare_symbol-requires : goal.declare_symbol-requires
declare_symbol-requires c =
    let pre = c.requires in
    ctor_asked pre.ready.3 pre.stand.2 pre.short c.in-2.is

pub declare_symbol-requires-in-3 : goal.declare_symbol-requires-in-3
declare_symbol-requires-in-3 c =
    let pre = c.requires in
    pred_asked pre.ready.3 pre.stand.2 pre.short c.in-3.is

pub declare_rule-requires : goal.declare_rule-requires
declare_rule-requires c =
    let pre = c.requires in
    rule_asked pre.ready.3 pre.stand.2 pre.short c.in-4.is

pub declare_def-requires : goal.declare_def-requires
declare_def-requires c =
    let pre = c.requires in
    def_asked pre.ready.3 pre.stand.2 _ _ pre.short pre.out_lent pre.calls_lent c.in-5.is

pub returns-in-1-clause-declared : goal.returns-in-1-clause-declared
returns-in-1-clause-declared c =
    record {
      same = λ limit ts s held d q st. sort_done held st _ _ c.in-1.is c.declare_sort.ensures.value c.declare_sort.ensures.sorts_after;
    }

pub returns-in_ok-some_behind-in-2-clause-declared : goal.returns-in_ok-some_behind-in-2-clause-declared
returns-in_ok-some_behind-in-2-clause-declared c =
    record {
      same = λ limit ts s held d q st. ctor_done held st _ _ c.in-2.is c.in_ok-some_behind-in-2.ensures.1 c.declare_symbol.ensures;
    }

pub returns-in-3-clause-declared : goal.returns-in-3-clause-declared
returns-in-3-clause-declared c =
    record {
      same = λ limit ts s held d q st. pred_done held st _ _ c.in-3.is c.declare_symbol-in-3.ensures;
    }

pub returns-in-4-clause-declared : goal.returns-in-4-clause-declared
returns-in-4-clause-declared c =
    record {
      same = λ limit ts s held d q st. rule_done held st _ _ _ c.in-4.is c.declare_rule.ensures.declared;
    }

pub returns-in-5-clause-declared : goal.returns-in-5-clause-declared
returns-in-5-clause-declared c =
    let declare-def = c.declare_def in
    record {
      same = λ limit ts s held d q st. def_done held st _ _ _ _ c.in-5.is declare-def.ensures.declared;
    }

pub returns-in-10-clause-declared : goal.returns-in-10-clause-declared
returns-in-10-clause-declared c = record { same = λ limit ts s held d q st. eval_done held st _ c.in-10.is c.skip.ensures }

pub returns-in_default-clause-declared : goal.returns-in_default-clause-declared
returns-in_default-clause-declared c =
    record {
      same = λ limit ts s held d q st. others_done held st _ _ _ _ c.in_default.in_default-own.rest.0.0.0.0.0.1 c.in_default.in_default-own.rest.0.0.0.0.1 c.in_default.in_default-own.rest.0.0.0.1 c.in_default.in_default-own.rest.0.0.1 c.in_default.in_default-own.rest.0.1 c.in_default.in_default-own.rest.1;
    }

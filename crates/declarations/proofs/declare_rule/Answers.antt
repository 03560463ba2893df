-- `declare_rule` meets its contract: the rule is entered with the room that is left.
use Prim.Native.Nat.{ℕ, ◌+◌}
use mathlib.Core.Path.{◌∙◌, refl, ap}
use mathlib.Core.List.{List, ◌∷◌}
use Rattle.std.specs.Prelude.{Err, min}
use Rattle.term_parser.specs.Source.{all_of}
use Rattle.term_parser.specs.Standing.{spelled}
use Rattle.names.specs.Symbols.{Symbol, column, row_at}
use Rattle.rules.specs.Rules.{rule_of}
use Rattle.loader.specs.Signature.{front_of, last_judgment}
use Rattle.names.specs.UsedLaws.{symbols_used}
use Rattle.refusals.specs.Refused.{handed_on}
use Rattle.declarations.specs.Steps.{name_at}
use Rattle.declarations.proofs.UsedLaws.{storage_used}
use Rattle.declarations.proofs.FilledLaws.{storage, told_by, advanced_by}
use native.Mathlib.Omega.{arith}
use Rattle.declarations.proofs.declare_rule.Goals as goal

pub enter_rule-requires : goal.enter_rule-requires
enter_rule-requires c =
    let pre = c.requires in
    let counted = c.in_ok-k.ensures in
    let place = c.next_rule-place in
    let st = pre.stand counted.1 in
    let here = pre.here in
    rw c.from_row.ensures
    (record {
      first = st.0;
      others = st.1;
      end = st.2;
      stand = st.3;
      number = counted.0 ∙ st.4;
      here = here;
      later = omega arith;
      short = pre.short;
      storage = rw (place.ensures) (storage_used (storage (pre.ready.3)));
    })

pub with_rule-requires : goal.with_rule-requires
with_rule-requires c =
    let known = symbols_used c.args.symbols.now c.args.state.symbols (omega (arith, c.requires.ready.3.lent, c.requires.ready.3.few)) c.args.source.text.now in
    let pre = c.requires in
    let counted = c.in_ok-k.ensures in
    let args = c.args in
    let place = c.next_rule-place in
    let enter-rule = c.enter_rule in
    let st = pre.stand counted.1 in
    rw place.ensures (rw c.in_ok-rule.was at (told_by pre.ready.3 (record { word = record { start = column (row_at args.source.rows.now (args.source.at + 1)) 1; size = column (row_at args.source.rows.now (args.source.at + 1)) 2 }; clause = 0 }) (λ (F : List Symbol) (m : ℕ). rule_of F (name_at args.source.text.now args.source.rows.now (args.source.at + 1)) (spelled args.source.text.now (all_of (front_of (st.0 ∷ st.1)))) (spelled args.source.text.now (last_judgment st.0 st.1)) m) (min 1024 args.state.left) refl (enter-rule.new.rules) (enter-rule.new.words) enter-rule.result ((rw (c.from_row.ensures, known, place.ensures, c.behind_kind-word.ensures) at enter-rule.ensures).same st.0 st.1 st.2 st.3 (counted.0 ∙ st.4)).1))

pub returns-in_err-k-clause-declared : goal.returns-in_err-k-clause-declared
returns-in_err-k-clause-declared c =
    let none = c.in_err-k.ensures in
    rw (handed_on c.from_residual.result c.from_residual.ensures.1)
    (record {
      none = λ z. ap Err none.0;
      same = λ limit ts s ready inside j js q st kn. (let n = none.1 in absurd (omega arith));
    })

pub returns-in_err-rule-clause-declared : goal.returns-in_err-rule-clause-declared
returns-in_err-rule-clause-declared c =
    let known = symbols_used c.args.symbols.now c.args.state.symbols (omega (arith, c.requires.ready.3.lent, c.requires.ready.3.few)) c.args.source.text.now in
    let counted = c.in_ok-k.ensures in
    let enter-rule = c.enter_rule in
    let args = c.args in
    let place = c.next_rule-place in
    rw (handed_on c.from_residual-in_err-rule.result c.from_residual-in_err-rule.ensures.1)
    (record {
      none = λ z. (let l = counted.1 in absurd (omega (arith, z)));
      same = λ limit ts s ready inside j js q st kn. let h = (rw (c.from_row.ensures, known, place.ensures, c.behind_kind-word.ensures) at enter-rule.ensures).same j js q st (counted.0 ∙ kn) in
          advanced_by ready (record { word = record { start = column (row_at args.source.rows.now (args.source.at + 1)) 1; size = column (row_at args.source.rows.now (args.source.at + 1)) 2 }; clause = 0 }) inside (omega arith) (enter-rule.new.rules) (enter-rule.new.words) (enter-rule.auto.rules) (enter-rule.auto.words) (λ (F : List Symbol) (m : ℕ). rule_of F (name_at args.source.text.now args.source.rows.now (args.source.at + 1)) (spelled args.source.text.now (all_of (front_of (j ∷ js)))) (spelled args.source.text.now (last_judgment j js)) m) (min 1024 args.state.left) refl q enter-rule.result _ h.0 h.1 (rw c.in_err-rule.was refl);
    })

pub returns-clause-declared : goal.returns-clause-declared
returns-clause-declared c =
    let known = symbols_used c.args.symbols.now c.args.state.symbols (omega (arith, c.requires.ready.3.lent, c.requires.ready.3.few)) c.args.source.text.now in
    let counted = c.in_ok-k.ensures in
    let enter-rule = c.enter_rule in
    let args = c.args in
    let place = c.next_rule-place in
    record {
      none = λ z. (let l = counted.1 in absurd (omega (arith, z)));
      same = λ limit ts s ready inside j js q st kn. let h = (rw (c.from_row.ensures, known, place.ensures, c.behind_kind-word.ensures) at enter-rule.ensures).same j js q st (counted.0 ∙ kn) in
          advanced_by ready (record { word = record { start = column (row_at args.source.rows.now (args.source.at + 1)) 1; size = column (row_at args.source.rows.now (args.source.at + 1)) 2 }; clause = 0 }) inside (omega arith) (enter-rule.new.rules) (enter-rule.new.words) (enter-rule.auto.rules) (enter-rule.auto.words) (λ (F : List Symbol) (m : ℕ). rule_of F (name_at args.source.text.now args.source.rows.now (args.source.at + 1)) (spelled args.source.text.now (all_of (front_of (j ∷ js)))) (spelled args.source.text.now (last_judgment j js)) m) (min 1024 args.state.left) refl q enter-rule.result _ h.0 h.1 (rw c.in_ok-rule.was (rw place.ensures at c.with_rule.ensures));
    }

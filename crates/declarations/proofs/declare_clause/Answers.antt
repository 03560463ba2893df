-- `declare_clause` meets its contract: the clause is entered with the room that is left.
use mathlib.Core.Path.{◌≡◌, refl}
use Prim.Native.Nat.{ℕ, suc, ◌+◌}
use mathlib.Core.List.{List}
use Rattle.std.specs.Prelude.{min}
use Rattle.source_text.specs.Parts.{part_of}
use Rattle.term_parser.specs.Source.{all_of}
use Rattle.term_parser.specs.Standing.{spelled}
use Rattle.names.specs.Symbols.{Symbol}
use Rattle.names.specs.UsedLaws.{symbols_used}
use Rattle.clauses.specs.Clauses.{clause_of}
use Rattle.refusals.specs.Refused.{handed_on}
use Rattle.declarations.proofs.UsedLaws.{storage_used}
use Rattle.declarations.proofs.FilledLaws.{storage, told_by, advanced_by}
use Rattle.declarations.proofs.ClauseLaws.{patterns_number, clause_asked}
use native.Mathlib.Omega.{arith}
use Rattle.declarations.proofs.declare_clause.Goals as goal

pub clause-requires : goal.clause-requires
clause-requires c =
    let pre = c.requires in
    let place = c.next_rule-place in
    clause_asked (pre.stand.2) refl pre.short pre.out_lent pre.calls_lent (rw (place.ensures) (storage_used (storage (pre.ready.3))))

pub with_rule-requires : goal.with_rule-requires
with_rule-requires c =
    let known = symbols_used c.args.symbols.now c.args.state.symbols (omega (arith, c.requires.ready.3.lent, c.requires.ready.3.few)) c.args.source.text.now in
    let pre = c.requires in
    let args = c.args in
    let place = c.next_rule-place in
    let clause = c.clause in
    let st = pre.stand.2 in
    let e : args.number + 1 ≡ suc args.number = omega arith in
    rw place.ensures (rw c.in_ok-rule.was at (told_by pre.ready.3 (record { word = args.word; clause = args.number + 1 }) (λ (F : List Symbol) (m : ℕ). clause_of F (part_of args.source.text.now args.word.start args.word.size) args.number (spelled args.source.text.now (all_of pre.stand.0.patterns)) (spelled args.source.text.now pre.stand.0.body) m) (min 1024 args.state.left) refl (clause.new.rules) (clause.new.words) clause.result ((rw (known, place.ensures) at clause.ensures).same _ _ st.patterns (patterns_number st) _ _ st.right args.number e).1))

pub returns-in_err-rule-clause-declared : goal.returns-in_err-rule-clause-declared
returns-in_err-rule-clause-declared c =
    let known = symbols_used c.args.symbols.now c.args.state.symbols (omega (arith, c.requires.ready.3.lent, c.requires.ready.3.few)) c.args.source.text.now in
    let args = c.args in
    let clause = c.clause in
    let place = c.next_rule-place in
    rw (handed_on c.from_residual.result c.from_residual.ensures.1)
    (record {
      same = λ limit ts s ready inside counted cl q st. let e : args.number + 1 ≡ suc args.number = omega arith in
          let h = (rw (known, place.ensures) at clause.ensures).same _ _ st.patterns (patterns_number st) _ _ st.right args.number e in
          advanced_by ready (record {
            word = args.word;
            clause = args.number + 1;
          }) inside (omega (arith, counted)) (clause.new.rules) (clause.new.words) (clause.auto.rules) (clause.auto.words) (λ (F : List Symbol) (m : ℕ). clause_of F (part_of args.source.text.now args.word.start args.word.size) args.number (spelled args.source.text.now (all_of cl.patterns)) (spelled args.source.text.now cl.body) m) (min 1024 args.state.left) refl q clause.result _ h.0 h.1 (rw c.in_err-rule.was refl);
    })

pub returns-clause-declared : goal.returns-clause-declared
returns-clause-declared c =
    let known = symbols_used c.args.symbols.now c.args.state.symbols (omega (arith, c.requires.ready.3.lent, c.requires.ready.3.few)) c.args.source.text.now in
    let args = c.args in
    let clause = c.clause in
    let place = c.next_rule-place in
    record {
      same = λ limit ts s ready inside counted cl q st. let e : args.number + 1 ≡ suc args.number = omega arith in
          let h = (rw (known, place.ensures) at clause.ensures).same _ _ st.patterns (patterns_number st) _ _ st.right args.number e in
          advanced_by ready (record {
            word = args.word;
            clause = args.number + 1;
          }) inside (omega (arith, counted)) (clause.new.rules) (clause.new.words) (clause.auto.rules) (clause.auto.words) (λ (F : List Symbol) (m : ℕ). clause_of F (part_of args.source.text.now args.word.start args.word.size) args.number (spelled args.source.text.now (all_of cl.patterns)) (spelled args.source.text.now cl.body) m) (min 1024 args.state.left) refl q clause.result _ h.0 h.1 (rw c.in_ok-rule.was (rw place.ensures at c.with_rule.ensures));
    }

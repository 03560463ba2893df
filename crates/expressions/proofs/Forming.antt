-- Words in form: what a node asks of its symbol; and answers by their constructors, so that a refused one says nothing of its words.
use Prim.Native.Nat.{ℕ, suc, ◌+◌, ◌*◌, ◌≤◌, ◌<◌}
use native.Mathlib.Omega.{arith}
use mathlib.Core.Path.{◌≡◌, sym, ap, ◌∙◌}
use mathlib.Core.Bool.{true}
use mathlib.Core.List.{List, ◌∷◌}
use lib.ListN.{length, get_or, length-map, get_or-map}
use lib.Seq.{sets}
use Rattle.terms.specs.Numbers.{same_refl, less_yes, less_no}
use Rattle.arena.specs.Cells.{headers, cells}
use Rattle.arena.specs.NodeLaws.{HeaderOf, header_of}
use Rattle.arena.specs.Form.{is_header}
use Rattle.arena.specs.FormLaws.{reference_accepted}
use Rattle.arena.specs.FormKept.{place, push_form}
use Rattle.names.specs.Symbols.{Rows, Symbol, column, row_at, symbols_of, no_symbol}
use Rattle.rules.specs.PatternLaws.{arities_of}
use Rattle.clause_matching.specs.Stored.{Value, Formed}
use Rattle.std.specs.Prelude.{Err}
use Rattle.refusals.specs.declared.Refusal.{Refusal}
use Rattle.clause_matching.specs.declared.building.Built.{Built}
use Rattle.clause_matching.specs.Building.{built_at}
use Rattle.clause_matching.proofs.Forming.{ok_is}
use Rattle.function_calls.specs.declared.calls.Outcome.{Outcome}
use Rattle.function_calls.specs.Calls.{outcome}
use Rattle.expressions.specs.declared.written.Expressed.{Expressed}
use Rattle.expressions.specs.Terms.{expressed}
use Rattle.forward_calls.proofs.Tables.{symbols_length, arity_at_lem}

-- The arity of a symbol of a table.
module _ (text : List ℕ) (rows : Rows) (n : ℕ) (h : n ≤ length rows) (i : ℕ) (l : i < n) where
  pub arity_within : i < length (arities_of (symbols_of text rows n))
  arity_within =
      let a : length (arities_of (symbols_of text rows n))
      ≡ length (symbols_of text rows n) = length-map (symbols_of text rows n) (λ (f : Symbol). length f.inputs) in
      let b = symbols_length text rows n h in
      omega arith

  pub arity_known : get_or (arities_of (symbols_of text rows n)) i 0 ≡ column (row_at rows i) 6
  arity_known = get_or-map (λ (f : Symbol). length f.inputs) (symbols_of text rows n) i no_symbol ∙ arity_at_lem text rows n h i l

-- The header of a symbol that has an arity, with this arity.
header_known : (arities : List ℕ) {f n h : ℕ} → HeaderOf f n h → f < length arities → get_or arities f 0 ≡ n → n ≤ 16
    → is_header arities h ≡ true
unfolding is_header
header_known arities {f} {n} {h} a l e b = rw (less_no a.high, a.symbol, less_yes l, a.arity, e, same_refl n, less_no b)

-- A node behind words in form.
pub node_formed : (words : List ℕ) (used symbol : ℕ) (values arities : List ℕ) → used + suc (length values) ≤ length words
    → ((k : ℕ) → k < length values → Value words used (cells values k)) → length values ≤ 16 → symbol < length arities
    → get_or arities symbol 0 ≡ length values
    → Formed arities words used → Formed arities (sets words used ((headers + 32 * symbol + length values) ∷ values))
    (used + suc (length values))
node_formed words used symbol values arities room roots few known own formed =
    let n : ℕ = length values in
    let a : HeaderOf symbol n (headers + 32 * symbol + n) = header_of symbol n (omega arith) in
    push_form words 0 used 0 0 (headers + 32 * symbol + n) values arities (omega arith) room formed
    (header_known arities a known own few) a.arity
    (λ i l. reference_accepted (place words 0 0 0) used (get_or values i 0) (roots i l) (λ v. omega arith))

-- Refused answers.
pub barred_at : {P : Type 0} {x : Refusal} {value u : ℕ} → Err x ≡ built_at value u → P
barred_at e = absurd (let z : ⊥ = cc in z)

pub denied_worth : {P : Type 0} {x : Refusal} {value calls u : ℕ} → Err x ≡ outcome value calls u → P
denied_worth e = absurd (let z : ⊥ = cc in z)

pub refused_answer : {P : Type 0} {x : Refusal} {value next calls u : ℕ} → Err x ≡ expressed value next calls u → P
refused_answer e = absurd (let z : ⊥ = cc in z)

-- The calls made and the words used by an answer.
pub made_worth : {v c u value calls used : ℕ} → outcome value calls used ≡ outcome v c u → c ≡ calls
made_worth e = ap (λ (o : Outcome). o.spent.calls) (sym (ok_is e))

pub made_answer : {v n c u value next calls used : ℕ} → expressed value next calls used ≡ expressed v n c u → c ≡ calls
made_answer e = ap (λ (o : Expressed). o.outcome.spent.calls) (sym (ok_is e))

pub value_at_lem : {v u value used : ℕ} → built_at value used ≡ built_at v u → v ≡ value
value_at_lem e = ap (λ (o : Built). o.value) (sym (ok_is e))

pub used_at : {v u value used : ℕ} → built_at value used ≡ built_at v u → u ≡ used
used_at e = ap (λ (o : Built). o.used) (sym (ok_is e))

pub value_worth : {v c u value calls used : ℕ} → outcome value calls used ≡ outcome v c u → v ≡ value
value_worth e = ap (λ (o : Outcome). o.value) (sym (ok_is e))

pub used_worth : {v c u value calls used : ℕ} → outcome value calls used ≡ outcome v c u → u ≡ used
used_worth e = ap (λ (o : Outcome). o.spent.used) (sym (ok_is e))

pub value_answer : {v n c u value next calls used : ℕ} → expressed value next calls used ≡ expressed v n c u → v ≡ value
value_answer e = ap (λ (o : Expressed). o.outcome.value) (sym (ok_is e))

pub next_answer : {v n c u value next calls used : ℕ} → expressed value next calls used ≡ expressed v n c u → n ≡ next
next_answer e = ap (λ (o : Expressed). o.next) (sym (ok_is e))

pub used_answer : {v n c u value next calls used : ℕ} → expressed value next calls used ≡ expressed v n c u → u ≡ used
used_answer e = ap (λ (o : Expressed). o.outcome.spent.used) (sym (ok_is e))

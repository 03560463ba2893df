-- What is asked and told of the rows in use, which are lent as a part of their table.
use Rattle.std.specs.Prelude.{ℕ, Bool, Result, List, ◌≤◌, length, take}
use Rattle.std.proofs.Common.{arith, le_refl}
use Rattle.refusals.specs.declared.Refusal.{Refusal}
use Rattle.names.specs.Symbols.{Rows, column}
use Rattle.names.specs.UsedLaws.{used_length, used_each, sorts_used, symbols_used}
use Rattle.loader.specs.Entering.{Storage}
use Rattle.loader.specs.SymbolEntry.{SymbolAnswered}

pub storage_used : {text : List ℕ} {symbols : Rows} {n : ℕ} {words : List ℕ} {u room : ℕ} {rules : Rows} → Storage text symbols n words u room rules
    → Storage text (take n symbols) (length (take n symbols)) words u room rules
storage_used {text} {symbols} {n} s =
    let e = used_length symbols n s.lent in
    record {
      lent = le_refl _;
      few = omega (arith, s.few);
      inputs = used_each symbols n s.lent (λ row. column row 6 ≤ 16) s.inputs;
      upto = (s.upto.0, rw (symbols_used symbols n s.lent text) s.upto.1);
      formed = s.formed;
      words = s.words;
      low = s.low;
      small = s.small;
      rules_lent = s.rules_lent;
    }

pub answered_used : {text : List ℕ} {rows : Rows} {p k start size : ℕ} {constructor : Bool} {function first clauses : ℕ} {sorts : Rows} {many : ℕ} {symbols : Rows} {count : ℕ}
    {r : Result (Unit {0}) Refusal} {symbols' : Rows} → many ≤ length sorts
    → SymbolAnswered text rows p k start size constructor function first clauses (take many sorts) (length (take many sorts)) symbols count r symbols'
    → SymbolAnswered text rows p k start size constructor function first clauses sorts many symbols count r symbols'
answered_used {text} {sorts = sorts} {many = many} l h =
    let e = sorts_used sorts many l text in
    let c = h.comes_to in
    record {
      number = h.number;
      answer = h.answer;
      comes_to = record { refusal = rw e at c.refusal; refused = c.refused; entered = λ z ns q. c.entered z ns (rw e q) };
    }

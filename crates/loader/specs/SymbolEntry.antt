-- A symbol entered by its arrow (document 01, "Terms and declarations"): a constructor's last sort is its output; a predicate and a function have all
-- sorts as inputs.
use Rattle.std.specs.Prelude.{ℕ, ◌≡◌, Bool, true, false, Result, List, length, set}
use Rattle.names.specs.Names.{Name}
use Rattle.source_text.specs.Parts.{part_of}
use Rattle.names.specs.Symbols.{Rows, Symbol, sorts_of, symbols_of}
use Rattle.refusals.specs.declared.Refusal.{Refusal}
use Rattle.patterns.specs.Promises.{RefusedFor}
use Rattle.loader.specs.Signature.{Numbers, unknown, numbers, numbers_of, front_of, last_of, symbol_refusal}
use Rattle.loader.specs.Rows.{symbol_row}
use Rattle.loader.specs.Arrows.{names_at}

abbrev pub inputs_of : Bool → List ℕ → List ℕ
inputs_of true ns = front_of ns
inputs_of false ns = ns

abbrev pub output_of : Bool → List ℕ → ℕ
output_of true ns = last_of ns
output_of false ns = 0

abbrev pub symbol_named : Bool → Name → ℕ → ℕ → ℕ → List ℕ → Symbol
symbol_named constructor w function first clauses ns =
    record { name = w; inputs = inputs_of constructor ns; output = output_of constructor ns; function = function; first = first; clauses = clauses }

-- What it is refused for: 18 for an unknown sort, before all else; 0: nothing.
abbrev pub arrow_refusal : List Name → List Symbol → Name → Bool → Numbers → ℕ
arrow_refusal sorts symbols w constructor unknown = 18
arrow_refusal sorts symbols w constructor (numbers ns) = symbol_refusal sorts symbols w (length (inputs_of constructor ns))

-- What a symbol comes to: the number of its refusal; and without one (0) the symbol behind the others, in a row of its own.
pub record SymbolEntered (text : List ℕ) (rows : Rows) (p k start size : ℕ) (constructor : Bool) (function first clauses : ℕ) (sorts : Rows) (many : ℕ) (symbols : Rows) (count r : ℕ)
    (symbols' : Rows) : Type 0 where
  pub refusal : r ≡ arrow_refusal (sorts_of text sorts many) (symbols_of text symbols count) (part_of text start size) constructor (numbers_of (sorts_of text sorts many) (names_at text rows p k))
  pub refused : (r ≡ 0 → ⊥) → symbols' ≡ symbols
  pub entered : r ≡ 0 → (ns : List ℕ) → numbers_of (sorts_of text sorts many) (names_at text rows p k) ≡ numbers ns
      → symbols' ≡ set symbols count (symbol_row start size (output_of constructor ns) function first clauses (length (inputs_of constructor ns)) (inputs_of constructor ns))

-- What `enter_symbol` owes: what the symbol comes to, and the answer that says it.
pub record SymbolAnswered (text : List ℕ) (rows : Rows) (p k start size : ℕ) (constructor : Bool) (function first clauses : ℕ) (sorts : Rows) (many : ℕ) (symbols : Rows) (count : ℕ)
    (r : Result (Unit {0}) Refusal) (symbols' : Rows) : Type 0 where
  pub number : ℕ
  pub answer : RefusedFor number r
  pub comes_to : SymbolEntered text rows p k start size constructor function first clauses sorts many symbols count number symbols'

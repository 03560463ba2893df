-- The parts of a symbol's form and of a signature's, put together and taken apart.
use Prim.Native.Nat.{ℕ, ◌≤◌}
use native.Mathlib.Omega.{arith}
use mathlib.Core.Bool.{Bool}
use mathlib.Core.List.{List}
use lib.ListN.{length, take}
use Rattle.names.specs.Names.{Distinct}
use Rattle.names.specs.NamePlaces.{NamePlace}
use Rattle.names.specs.Symbols.{Rows, column, sorts_of, symbols_of}
use Rattle.unifier.specs.Promises.{Tells}
use Rattle.rules.specs.PatternLaws.{arities_of}
use Rattle.loader.specs.Legal.{names_of}
use Rattle.signature.specs.Form.{SymbolFormed, Listed, Checked}
use Rattle.signature.specs.Parts.{Lent, Counted, SortsNamed, NumbersFormed, MarkFormed, ClausesFormed, InputsFormed, SymbolsFormed, RulesListed, ClausesAsked, ClausesListed}
use Rattle.signature.specs.StoreLaws.{row_kept}
use Rattle.signature.proofs.UsedLaws.{used_asked}

-- A symbol's row.
module _ (text : List ℕ) (sorts rules : ℕ) (row : List ℕ) where
  pub row_formed : NamePlace text (column row 0) (column row 1) → NumbersFormed sorts (column row 2) (column row 6) (column row 7)
      → MarkFormed (column row 2) (column row 3) (column row 5) (column row 6) → ClausesFormed (column row 4) (column row 5) rules → InputsFormed sorts row
      → SymbolFormed text sorts rules row
  row_formed i n m c p =
      let few = n.few in
      record {
        named = i;
        output = n.output;
        few = n.few;
        inputs = λ j l. (p j (omega arith)).used l;
        clear = λ j l b. (p j b).clear l;
        free = n.free;
        mark = m.mark;
        predicate = m.predicate;
        result = m.result;
        clauses = c.clauses;
        none = c.none;
        others = m.others;
      }

  module _ (h : SymbolFormed text sorts rules row) where
    pub row_numbers : NumbersFormed sorts (column row 2) (column row 6) (column row 7)
    row_numbers = record { output = h.output; few = h.few; free = h.free }

    pub row_mark : MarkFormed (column row 2) (column row 3) (column row 5) (column row 6)
    row_mark = record { mark = h.mark; predicate = h.predicate; result = h.result; others = h.others }

    pub row_clauses : ClausesFormed (column row 4) (column row 5) rules
    row_clauses = record { clauses = h.clauses; none = h.none }

    pub row_inputs : InputsFormed sorts row
    row_inputs j l = record { used = h.inputs j; clear = λ b. h.clear j b l }

-- A signature.
module _ {sorts symbols rules : Rows} {words : List ℕ} {n m k u : ℕ} (lent : Lent sorts symbols rules) (counted : Counted words n m k u) where
  pub sorts_there_lem : n ≤ length sorts
  sorts_there_lem = let a = lent.sorts_lent in let b = counted.few_sorts in omega arith

  pub symbols_there_lem : m ≤ length symbols
  symbols_there_lem = let a = lent.symbols_lent in let b = counted.few_symbols in omega arith

  pub rules_there_lem : k ≤ length rules
  rules_there_lem = let a = lent.rules_lent in let b = counted.few_rules in omega arith

  pub listed : {text : List ℕ} → SortsNamed text sorts n → Distinct (names_of (sorts_of text sorts n) (symbols_of text symbols m)) → SymbolsFormed text n k symbols m
      → RulesListed text (arities_of (symbols_of text symbols m)) words n rules k u → ClausesListed text symbols m rules words
      → Listed text sorts symbols rules words n m k u
  listed named distinct formed kept clauses =
      record {
        sorts_lent = lent.sorts_lent;
        symbols_lent = lent.symbols_lent;
        rules_lent = lent.rules_lent;
        few_sorts = counted.few_sorts;
        few_symbols = counted.few_symbols;
        few_rules = counted.few_rules;
        few_words = counted.few_words;
        words_lent = counted.words_lent;
        sorts_named = named;
        distinct = distinct;
        symbols_formed = formed;
        rules_kept = kept.kept;
        rules_formed = kept.formed;
        clauses_formed = clauses;
      }

  -- What the test of the clauses asks of the rows in use.
  pub clauses_asked : {text arities : List ℕ} → SymbolsFormed text n k symbols m → RulesListed text arities words n rules k u → ClausesAsked (take m symbols) (take k rules)
  clauses_asked {text} {arities} formed kept =
      used_asked text words symbols rules m k symbols_there_lem rules_there_lem (λ i l. (formed i l).clauses)
      (λ r l. (row_kept text arities words rules k u r rules_there_lem kept.kept l).2.premises)

module _ {text : List ℕ} {sorts symbols rules : Rows} {words : List ℕ} {n m k u : ℕ} where
  pub checked : {r : Bool} → Tells r (Listed text sorts symbols rules words n m k u) → Checked text sorts symbols rules words n m k u r
  checked d = record { sound = d.yes; complete = d.back }

  module _ (h : Listed text sorts symbols rules words n m k u) where
    pub listed_lent : Lent sorts symbols rules
    listed_lent = record { sorts_lent = h.sorts_lent; symbols_lent = h.symbols_lent; rules_lent = h.rules_lent }

    pub listed_counted : Counted words n m k u
    listed_counted = record { few_sorts = h.few_sorts; few_symbols = h.few_symbols; few_rules = h.few_rules; few_words = h.few_words; words_lent = h.words_lent }

    pub listed_rules : RulesListed text (arities_of (symbols_of text symbols m)) words n rules k u
    listed_rules = record { kept = h.rules_kept; formed = h.rules_formed }

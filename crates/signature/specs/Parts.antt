-- The parts of the listed form, each decided by a function of its own.
use Rattle.std.specs.Prelude.{ℕ, ◌+◌, ◌-◌, ◌≤◌, ◌<◌, ◌≡◌, Option, Some, None, List, [], ◌∷◌, length, get_or}
use Rattle.arena.specs.Cells.{symbol_of}
use Rattle.names.specs.NamePlaces.{NamePlace}
use Rattle.names.specs.Symbols.{Rows, column, row_at, symbols_of}
use Rattle.rule_checks.specs.RuleForm.{rule_in, RuleFormed}
use Rattle.loader.specs.Holding.{RulesKept}
use Rattle.loader.specs.Legal.{ClauseFormed}
use Rattle.signature.specs.Form.{rules_of, SymbolFormed}

-- As many rows are lent as there may be,
pub record Lent (sorts symbols rules : Rows) : Type 0 where
  pub sorts_lent : 256 ≤ length sorts
  pub symbols_lent : 1024 ≤ length symbols
  pub rules_lent : 1024 ≤ length rules

-- and the counts are within document 01's limits and the words lent.
pub record Counted (words : List ℕ) (n m k u : ℕ) : Type 0 where
  pub few_sorts : n ≤ 256
  pub few_symbols : m ≤ 1024
  pub few_rules : k ≤ 1024
  pub few_words : u ≤ 65536
  pub words_lent : u ≤ length words

-- The names of the first n sorts have places in the text.
abbrev pub SortsNamed : List ℕ → Rows → ℕ → Type 0
SortsNamed text sorts n = (i : ℕ) → i < n → NamePlace text (column (row_at sorts i) 0) (column (row_at sorts i) 1)

-- A symbol's output, number of inputs and free column,
pub record NumbersFormed (sorts o inputs f : ℕ) : Type 0 where
  pub output : o ≤ sorts
  pub few : inputs ≤ 16
  pub free : f ≡ 0

-- its function mark,
pub record MarkFormed (output f clauses inputs : ℕ) : Type 0 where
  pub mark : f ≤ 1
  pub predicate : f ≡ 1 → output ≡ 0
  pub result : f ≡ 1 → 0 < inputs
  pub others : f ≡ 0 → clauses ≡ 0

-- its clauses,
pub record ClausesFormed (first count rules : ℕ) : Type 0 where
  pub clauses : first + count ≤ rules
  pub none : count ≡ 0 → first ≡ 0

-- and the columns of its inputs, of which n are used.
pub record InputFormed (sorts n j input : ℕ) : Type 0 where
  pub used : j < n → (0 < input) × (input ≤ sorts)
  pub clear : n ≤ j → input ≡ 0

abbrev pub InputsFormed : ℕ → List ℕ → Type 0
InputsFormed sorts row = (j : ℕ) → j < 16 → InputFormed sorts (column row 6) j (column row (8 + j))

-- The first m symbols are in form.
abbrev pub SymbolsFormed : List ℕ → ℕ → ℕ → Rows → ℕ → Type 0
SymbolsFormed text sorts rules symbols m = (i : ℕ) → i < m → SymbolFormed text sorts rules (row_at symbols i)

-- The first k rules are kept one behind the other in u words, and are in form.
pub record RulesListed (text arities words : List ℕ) (sorts : ℕ) (rules : Rows) (k u : ℕ) : Type 0 where
  pub kept : RulesKept text arities words rules 0 (rules_of text words rules k) 0 u
  pub formed : (i : ℕ) → i < k → RuleFormed text words sorts (row_at rules i)

-- What the test of the clauses asks: clauses that are among the rules, and at most 16 premises in each rule.
pub record ClausesAsked (symbols rules : Rows) : Type 0 where
  pub within : (i : ℕ) → i < length symbols → column (row_at symbols i) 4 + column (row_at symbols i) 5 ≤ length rules
  pub premises : (r : ℕ) → r < length rules → column (row_at rules r) 4 ≤ 16

-- The clauses of the symbol i are in form,
abbrev pub ClausesOf : List ℕ → Rows → ℕ → Rows → List ℕ → ℕ → Type 0
ClausesOf text symbols m rules words i =
    (j : ℕ) → j < column (row_at symbols i) 5 → ClauseFormed (symbols_of text symbols m) i (rule_in text words (row_at rules (column (row_at symbols i) 4 + j)))

-- and those of all m symbols.
abbrev pub ClausesListed : List ℕ → Rows → ℕ → Rows → List ℕ → Type 0
ClausesListed text symbols m rules words = (i : ℕ) → i < m → ClausesOf text symbols m rules words i

-- What a reference's node has as its symbol: that of its header. References below 64 are variables, and have none.
abbrev pub NodeSymbol : List ℕ → ℕ → Option ℕ → Type 0
NodeSymbol words r None = r < 64
NodeSymbol words r (Some f) = (64 ≤ r) × (f ≡ symbol_of (get_or words (r - 64) 0))

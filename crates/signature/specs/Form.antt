-- The listed form of a stored signature (document 01, refusal 1; docs/STORAGE.md, "A signature's storage"): what `load` leaves and `check_signature` accepts,
-- for rows and words of any contents. It goes by document 01's limits and by what is lent, and not by the limits of a call. Names are places in the text; what
-- stands past the counts is of no concern.
use Rattle.std.specs.Prelude.{ℕ, ◌+◌, ◌≤◌, ◌<◌, ◌≡◌, Bool, true, List, map, length, take}
use Rattle.resolution.specs.Rules.{Rule}
use Rattle.names.specs.Names.{Distinct}
use Rattle.names.specs.NamePlaces.{NamePlace}
use Rattle.names.specs.Symbols.{Rows, column, row_at, sorts_of, symbols_of}
use Rattle.rules.specs.PatternLaws.{arities_of}
use Rattle.rule_checks.specs.RuleForm.{rule_in, RuleFormed}
use Rattle.loader.specs.Legal.{names_of, ClauseFormed}
use Rattle.loader.specs.Holding.{RulesKept}

-- The rules of the first n rows.
unfoldable pub rules_of : List ℕ → List ℕ → Rows → ℕ → List Rule
rules_of text words rows n = map (rule_in text words) (take n rows)

-- A symbol's row, where there are so many sorts and rules.
pub record SymbolFormed (text : List ℕ) (sorts rules : ℕ) (row : List ℕ) : Type 0 where
  pub named : NamePlace text (column row 0) (column row 1)
  -- the output is a sort, or 0;
  pub output : column row 2 ≤ sorts
  -- at most 16 inputs, each a sort, and zero past them;
  pub few : column row 6 ≤ 16
  pub inputs : (j : ℕ) → j < column row 6 → (0 < column row (8 + j)) × (column row (8 + j) ≤ sorts)
  pub clear : (j : ℕ) → column row 6 ≤ j → j < 16 → column row (8 + j) ≡ 0
  pub free : column row 7 ≡ 0
  -- a function has no output, and its last input is its result; its clauses are rules that there are;
  pub mark : column row 3 ≤ 1
  pub predicate : column row 3 ≡ 1 → column row 2 ≡ 0
  pub result : column row 3 ≡ 1 → 0 < column row 6
  pub clauses : column row 4 + column row 5 ≤ rules
  -- without clauses both numbers are zero, and only a function has clauses.
  pub none : column row 5 ≡ 0 → column row 4 ≡ 0
  pub others : column row 3 ≡ 0 → column row 5 ≡ 0

-- The form: n sorts, m symbols, k rules and u words.
pub record Listed (text : List ℕ) (sorts symbols rules : Rows) (words : List ℕ) (n m k u : ℕ) : Type 0 where
  -- as many rows are lent as there may be, and the counts are within document 01's limits and the words lent;
  pub sorts_lent : 256 ≤ length sorts
  pub symbols_lent : 1024 ≤ length symbols
  pub rules_lent : 1024 ≤ length rules
  pub few_sorts : n ≤ 256
  pub few_symbols : m ≤ 1024
  pub few_rules : k ≤ 1024
  pub few_words : u ≤ 65536
  pub words_lent : u ≤ length words
  -- names are in the text, and none serves twice among sorts and symbols together;
  pub sorts_named : (i : ℕ) → i < n → NamePlace text (column (row_at sorts i) 0) (column (row_at sorts i) 1)
  pub distinct : Distinct (names_of (sorts_of text sorts n) (symbols_of text symbols m))
  -- the symbols' rows are in form;
  pub symbols_formed : (i : ℕ) → i < m → SymbolFormed text n k (row_at symbols i)
  -- so are the rules', which keep rules over these symbols, one behind the other in the words;
  pub rules_kept : RulesKept text (arities_of (symbols_of text symbols m)) words rules 0 (rules_of text words rules k) 0 u
  pub rules_formed : (i : ℕ) → i < k → RuleFormed text words n (row_at rules i)
  -- and each clause of a function concludes in it and calls only functions.
  pub clauses_formed : (i : ℕ) → i < m → (j : ℕ) → j < column (row_at symbols i) 5
      → ClauseFormed (symbols_of text symbols m) i (rule_in text words (row_at rules (column (row_at symbols i) 4 + j)))

-- What `check_signature` answers: whether the storage is in the listed form.
pub record Checked (text : List ℕ) (sorts symbols rules : Rows) (words : List ℕ) (n m k u : ℕ) (r : Bool) : Type 0 where
  pub sound : r ≡ true → Listed text sorts symbols rules words n m k u
  pub complete : Listed text sorts symbols rules words n m k u → r ≡ true

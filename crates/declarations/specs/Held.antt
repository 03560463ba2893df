-- What storage holds between two declarations: the rows of sorts and symbols are those of the signature, each rule is kept, its words behind those of the rule
-- before, and the names have places in the text. All are exactly those of the stored signature with these titles.
use Rattle.std.specs.Prelude.{ℕ, ◌+◌, ◌*◌, ◌≤◌, ◌<◌, ◌≡◌, List, length, take}
use Rattle.arena.specs.Cells.{WellFormed, cells}
use Rattle.arena.specs.Copies.{pattern_room}
use Rattle.term_parser.specs.Source.{Place}
use Rattle.resolution.specs.Rules.{Rule}
use Rattle.names.specs.NamePlaces.{NamePlace}
use Rattle.names.specs.Symbols.{Rows, Symbol, column, row_at, sorts_of, symbols_of}
use Rattle.rules.specs.PatternLaws.{arities_of}
use Rattle.rules.specs.declared.Title.{Title}
use Rattle.rule_checks.specs.RuleForm.{RuleNamed}
use Rattle.loader.specs.Signature.{Signature}
use Rattle.loader.specs.Legal.{Legal}
use Rattle.loader.specs.Stored.{Titles, sort_rows, symbol_rows, rule_rows, words_from}
use Rattle.loader.specs.Holding.{RulesKept}
use Rattle.loader.specs.SymbolRows.{SymbolShaped}
use Rattle.declarations.specs.declared.State.{State}

-- The first rows of sorts and symbols are those of names at these places.
pub record NamesStored (ps qs : List Place) (fs : List Symbol) (sorts symbols : Rows) (n m : ℕ) : Type 0 where
  pub sorts_are_lem : take n sorts ≡ sort_rows ps
  pub symbols_are_lem : take m symbols ≡ symbol_rows qs fs
  pub number : length qs ≡ length fs

-- The first rows and words of rules are those of rules with these titles.
pub record RulesStored (ts : List Title) (Rs : List Rule) (rules : Rows) (words : List ℕ) (n u : ℕ) : Type 0 where
  pub rows_are : take n rules ≡ rule_rows ts Rs 0
  pub words_are : take u words ≡ words_from Rs 0
  pub number : length ts ≡ length Rs

-- The rows of sorts and symbols.
pub record NamesHeld (text : List ℕ) (t : Titles) (s : Signature) (sorts symbols : Rows) (st : State) : Type 0 where
  pub sorts_lent : 256 ≤ length sorts
  pub symbols_lent : 1024 ≤ length symbols
  pub few_sorts : st.sorts ≤ 256
  pub few_symbols : st.symbols ≤ 1024
  pub sorts_are : sorts_of text sorts st.sorts ≡ s.sorts
  pub symbols_are : symbols_of text symbols st.symbols ≡ s.symbols
  pub sorts_inside : (i : ℕ) → i < st.sorts → NamePlace text (column (row_at sorts i) 0) (column (row_at sorts i) 1)
  pub symbols_inside : (i : ℕ) → i < st.symbols → NamePlace text (column (row_at symbols i) 0) (column (row_at symbols i) 1)
  pub shaped : (i : ℕ) → i < st.symbols → SymbolShaped (row_at symbols i)
  pub exact : NamesStored t.sorts t.symbols s.symbols sorts symbols st.sorts st.symbols

-- The rows and words of rules, where `limit` nodes are allowed in all.
pub record RulesHeld (text : List ℕ) (limit : ℕ) (ts : List Title) (s : Signature) (rules : Rows) (words : List ℕ) (st : State) : Type 0 where
  pub rules_lent : 1024 ≤ length rules
  pub words_lent : 2 * limit ≤ length words
  pub limited : limit ≤ 32768
  pub rules_are : RulesKept text (arities_of s.symbols) words rules 0 s.rules 0 st.used
  pub number : st.rules ≡ length s.rules
  pub few_rules : st.rules ≤ 1024
  pub left : st.left + s.nodes ≡ limit
  pub fits : st.used + 2 * st.left ≤ 2 * limit
  pub formed : WellFormed pattern_room (cells words) pattern_room st.used
  pub rules_inside : (i : ℕ) → i < st.rules → RuleNamed text (row_at rules i)
  pub exact : RulesStored ts s.rules rules words st.rules st.used

pub record Held (text : List ℕ) (limit : ℕ) (t : Titles) (s : Signature) (sorts symbols rules : Rows) (words : List ℕ) (st : State) : Type 0 where
  pub names : NamesHeld text t s sorts symbols st
  pub kept : RulesHeld text limit t.rules s rules words st
  pub legal : Legal s

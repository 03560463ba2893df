-- What holds of every signature that was loaded: names serve once, sorts and rules that are named are there, a function's clauses conclude in it and call
-- functions, and each rule's variables are numbered in the order in which they appear. The later layers go by these laws.
use Rattle.std.specs.Prelude.{ℕ, ◌+◌, ◌≤◌, ◌<◌, ◌≡◌, List, [], ◌++◌, map, length, get_or}
use Rattle.terms.specs.Term.{Kind, Syn, Terms, count, var, app, nil, cons}
use Rattle.resolution.specs.Rules.{Rule}
use Rattle.resolution.specs.Fresh.{met}
use Rattle.resolution.specs.Search.{words}
use Rattle.meeting.specs.Places.{numbers_below}
use Rattle.names.specs.Names.{Name, Distinct}
use Rattle.names.specs.Symbols.{Symbol, symbol_at}
use Rattle.rules.specs.LayingLaws.{Fits}
use Rattle.rules.specs.PatternLaws.{arities_of, Judgment}
use Rattle.loader.specs.Signature.{Signature}

-- The names of sorts and symbols together.
abbrev pub names_of : List Name → List Symbol → List Name
names_of sorts symbols = sorts ++ map (λ f. f.name) symbols

-- A symbol, where there are so many sorts and rules.
pub record SymbolLegal (sorts rules : ℕ) (f : Symbol) : Type 0 where
  pub output : f.output ≤ sorts
  pub few : length f.inputs ≤ 16
  pub inputs : (j : ℕ) → j < length f.inputs → (0 < get_or f.inputs j 0) × (get_or f.inputs j 0 ≤ sorts)
  -- a function is a predicate whose last input is its result; its clauses are rules that there are;
  pub mark : f.function ≤ 1
  pub predicate : f.function ≡ 1 → f.output ≡ 0
  pub result : f.function ≡ 1 → 0 < length f.inputs
  pub clauses : f.first + f.clauses ≤ rules
  -- without clauses both numbers are zero, and only a function has clauses.
  pub none : f.clauses ≡ 0 → f.first ≡ 0
  pub others : f.function ≡ 0 → f.clauses ≡ 0

-- A rule over these symbols, where there are so many sorts.
pub record RuleLegal (symbols : List Symbol) (sorts : ℕ) (R : Rule) : Type 0 where
  -- each symbol is there and has as many arguments as it has inputs, and judgments are predicates or variables;
  pub premises_fit : Fits (arities_of symbols) R.premises
  pub conclusion_fits : Fits (arities_of symbols) R.conclusion
  pub premises_judge : Judgment symbols R.premises
  pub conclusion_judges : Judgment symbols R.conclusion
  -- at most 16 premises; at most 64 variables, each with a sort that there is, numbered as they appear, premises first;
  pub few : count R.premises ≤ 16
  pub variables : length R.sorts ≤ 64
  pub sorted : (i : ℕ) → i < length R.sorts → (0 < get_or R.sorts i 0) × (get_or R.sorts i 0 ≤ sorts)
  pub order : met R.conclusion (met R.premises []) ≡ numbers_below (length R.sorts)
  -- at most 2 words for each of 1,024 nodes.
  pub small : words R.premises + words R.conclusion ≤ 2048

-- Each of these terms is a call: a node of a function.
abbrev pub Calls : {k : Kind} → List Symbol → Syn k → Type 0
Calls symbols (var x) = ⊥
Calls symbols (app f ts) = (symbol_at symbols f).function ≡ 1
Calls symbols nil = Unit {0}
Calls symbols (cons t ts) = Calls symbols t × Calls symbols ts

-- A clause of the function with number i: its conclusion is a node of that function, and each premise is a call.
pub record ClauseFormed (symbols : List Symbol) (i : ℕ) (R : Rule) : Type 0 where
  pub conclusion : (ts : Terms) × (R.conclusion ≡ app i ts)
  pub premises : Calls symbols R.premises

abbrev pub no_rule : Rule
no_rule = record { name = []; sorts = []; premises = nil; conclusion = var 0 }

pub record Legal (s : Signature) : Type 0 where
  pub few_sorts : length s.sorts ≤ 256
  pub few_symbols : length s.symbols ≤ 1024
  pub few_rules : length s.rules ≤ 1024
  pub distinct : Distinct (names_of s.sorts s.symbols)
  pub symbols : (i : ℕ) → i < length s.symbols → SymbolLegal (length s.sorts) (length s.rules) (symbol_at s.symbols i)
  pub clauses : (i : ℕ) → i < length s.symbols → (j : ℕ) → j < (symbol_at s.symbols i).clauses
      → ClauseFormed s.symbols i (get_or s.rules ((symbol_at s.symbols i).first + j) no_rule)
  pub rules : (i : ℕ) → i < length s.rules → RuleLegal s.symbols (length s.sorts) (get_or s.rules i no_rule)

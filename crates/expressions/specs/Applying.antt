-- A symbol on values in storage (`apply_of` of `evaluation`).
use Rattle.std.specs.Prelude.{ℕ, ◌+◌, ◌*◌, ◌≤◌, ◌<◌, ◌≡◌, List, length, Result}
use Rattle.arena.specs.Cells.{cells}
use Rattle.term_parser.specs.Source.{one}
use Rattle.names.specs.Symbols.{Rows, column, row_at, symbols_of}
use Rattle.resolution.specs.Rules.{Rule, leaf}
use Rattle.rules.specs.PatternLaws.{arities_of}
use Rattle.evaluation.specs.Expressions.{Evaluated, failed, evaluated, apply_of}
use Rattle.clause_matching.specs.Stored.{Value, Headed, Formed}
use Rattle.clause_matching.specs.Building.{Stands}
use Rattle.refusals.specs.Refused.{Refuses}
use Rattle.clause_matching.specs.Choice.{values_of}
use Rattle.function_calls.specs.Calls.{outcome, Program, Working, TreesListed, CallSpent}
use Rattle.function_calls.specs.declared.calls.Outcome.{Outcome}
use Rattle.refusals.specs.declared.Refusal.{Refusal}

-- The symbols and the clauses in storage: the names stand in a text.
pub record Tables (text : List ℕ) (symbol_rows : Rows) (count : ℕ) (rule_rows : Rows) (pattern : List ℕ) (size : ℕ) (rules : List Rule) : Type 0 where
  pub program : Program symbol_rows rule_rows pattern size (symbols_of text symbol_rows count) rules
  pub lent : count ≤ length symbol_rows
  pub few : count ≤ 1024
  pub inputs : (i : ℕ) → i < count → column (row_at symbol_rows i) 6 ≤ 16
  pub marks : (i : ℕ) → i < count → column (row_at symbol_rows i) 3 ≤ 1
  pub results : (i : ℕ) → i < count → column (row_at symbol_rows i) 3 ≤ column (row_at symbol_rows i) 6

pub record ApplyAsked (symbol_rows rule_rows : Rows) (pattern : List ℕ) (i : ℕ) (values : List ℕ) (depth calls used limit : ℕ)
    (words links : List ℕ) (trees stack : Rows) : Type 0 where
  pub text : List ℕ
  pub count : ℕ
  pub size : ℕ
  pub rules : List Rule
  pub tables : Tables text symbol_rows count rule_rows pattern size rules
  pub known : i < count
  pub arguments : length values + column (row_at symbol_rows i) 3 ≡ column (row_at symbol_rows i) 6
  pub working : Working words used limit links trees stack
  pub roots : (k : ℕ) → k < length values → Value words used (cells values k)
  pub deep : depth ≤ 128
  -- no call is open, and each that was made has taken two words at least:
  pub spent : 2 * calls ≤ used

-- An answer says what an expression comes to: the value among the words, and at height 1 the trees of its calls, from the row `calls` on.
abbrev pub Concludes : Evaluated one → Result Outcome Refusal → List ℕ → Rows → List ℕ → Rows → ℕ → ℕ → ℕ → Type 0
Concludes (failed e) r words trees words' trees' used limit calls = Refuses r e
Concludes (evaluated v ps c) r words trees words' trees' used limit calls =
    (value : ℕ) × (r ≡ outcome value c.calls c.words) × Stands words used limit words' v value c.words × TreesListed trees calls 1 words' trees' ps c

-- Words in form over the symbols stay so, where an expression has a value.
abbrev pub OutcomeFormed : List ℕ → Rows → ℕ → List ℕ → Result Outcome Refusal → List ℕ → List ℕ → ℕ → Type 0
OutcomeFormed text symbol_rows count pattern r words words' used =
    Headed (arities_of (symbols_of text symbol_rows count)) pattern → Formed (arities_of (symbols_of text symbol_rows count)) words used
    → (value calls u : ℕ) → r ≡ outcome value calls u → Formed (arities_of (symbols_of text symbol_rows count)) words' u

pub record ApplyAnswered (symbol_rows rule_rows : Rows) (pattern : List ℕ) (i : ℕ) (values : List ℕ) (depth calls used limit : ℕ)
    (words links : List ℕ) (trees : Rows) (r : Result Outcome Refusal) (words' links' : List ℕ) (trees' : Rows) : Type 0 where
  -- by itself it has the tree of its own call at most, which stands behind those of the arguments:
  pub says : (text : List ℕ) (count size : ℕ) (rules : List Rule) → Tables text symbol_rows count rule_rows pattern size rules → i < count
      → Concludes (apply_of limit (symbols_of text symbol_rows count) rules i depth (evaluated (values_of words values) leaf (record { calls = calls; words = used })))
      r words trees words' trees' used limit calls
  pub forms : (text : List ℕ) (count size : ℕ) (rules : List Rule) → Tables text symbol_rows count rule_rows pattern size rules → i < count
      → OutcomeFormed text symbol_rows count pattern r words words' used
  pub spends : CallSpent r calls used
  pub kept : length words' ≡ length words
  pub restored : links' ≡ links

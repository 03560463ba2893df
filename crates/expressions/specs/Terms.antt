-- Written terms as values in storage (`expression_of` of `evaluation`).
use Rattle.std.specs.Prelude.{ℕ, suc, ◌+◌, ◌*◌, ◌≤◌, ◌<◌, ◌≡◌, List, length, Result, Ok}
use Rattle.term_parser.specs.Source.{one, many}
use Rattle.term_parser.specs.Standing as standing
use Rattle.term_parser.specs.Standing.{Written, size}
use Rattle.names.specs.Symbols.{Rows, column, row_at, symbols_of, symbol_at}
use Rattle.resolution.specs.Rules.{Rule}
use Rattle.rules.specs.PatternLaws.{arities_of}
use Rattle.evaluation.specs.Expressions.{Evaluated, failed, evaluated, apply_of, expression_of}
use Rattle.clause_matching.specs.Building.{Stands}
use Rattle.refusals.specs.Refused.{Refuses}
use Rattle.clause_matching.specs.Stored.{Headed, Formed}
use Rattle.function_calls.specs.Calls.{Working, TreesListed}
use Rattle.expressions.specs.Applying.{Tables}
use Rattle.expressions.specs.declared.written.Expressed.{Expressed}
use Rattle.refusals.specs.declared.Refusal.{Refusal}

-- A value, with the row behind its term, the calls made and the words used then.
abbrev pub expressed : ℕ → ℕ → ℕ → ℕ → Result Expressed Refusal
expressed value next calls used = Ok (record { outcome = record { value = value; spent = record { calls = calls; used = used } }; next = next })

-- The rows from a place on stand for a term.
pub record ExpressionAsked (text : List ℕ) (rows : Rows) (at : ℕ) (symbol_rows : Rows) (count : ℕ) (rule_rows : Rows) (pattern : List ℕ)
    (depth calls used limit : ℕ) (words links : List ℕ) (trees stack : Rows) : Type 0 where
  pub wide : ℕ
  pub rules : List Rule
  pub tables : Tables text symbol_rows count rule_rows pattern wide rules
  pub term : Written one
  pub next : ℕ
  pub stands : standing.Stands text rows at term next
  pub working : Working words used limit links trees stack
  pub deep : depth ≤ 129
  -- no call is open, and each that was made has taken two words at least:
  pub spent : 2 * calls ≤ used

-- An answer says what an expression comes to, and where the next one stands: the value among the words, and at height 1 the trees of its calls, from the
-- row `calls` on.
abbrev pub Evaluates : Evaluated one → ℕ → Result Expressed Refusal → List ℕ → Rows → List ℕ → Rows → ℕ → ℕ → ℕ → Type 0
Evaluates (failed e) q r words trees words' trees' used limit calls = Refuses r e
Evaluates (evaluated v ps c) q r words trees words' trees' used limit calls =
    (value : ℕ) × (r ≡ expressed value q c.calls c.words) × Stands words used limit words' v value c.words × TreesListed trees calls 1 words' trees' ps c

-- Words in form over the symbols stay so, where an expression has a value.
abbrev pub ExpressionFormed : List ℕ → Rows → ℕ → List ℕ → Result Expressed Refusal → List ℕ → List ℕ → ℕ → Type 0
ExpressionFormed text symbol_rows count pattern r words words' used =
    Headed (arities_of (symbols_of text symbol_rows count)) pattern → Formed (arities_of (symbols_of text symbol_rows count)) words used
    → (value next calls u : ℕ) → r ≡ expressed value next calls u → Formed (arities_of (symbols_of text symbol_rows count)) words' u

-- Where an expression has a value, each call that was made in it has taken two words at least.
abbrev pub ExpressionSpent : Result Expressed Refusal → ℕ → ℕ → Type 0
ExpressionSpent r calls used = (value next calls' used' : ℕ) → r ≡ expressed value next calls' used' → 2 * calls' + used ≤ 2 * calls + used'

pub record ExpressionAnswered (text : List ℕ) (rows : Rows) (at : ℕ) (symbol_rows : Rows) (count : ℕ) (rule_rows : Rows) (pattern : List ℕ)
    (depth calls used limit : ℕ) (words links : List ℕ) (trees : Rows) (r : Result Expressed Refusal) (words' links' : List ℕ) (trees' : Rows) : Type 0 where
  pub says : (wide : ℕ) (rules : List Rule) → Tables text symbol_rows count rule_rows pattern wide rules → (t : Written one) (q : ℕ) → standing.Stands text rows at t q
      → (sorts : List ℕ)
      → Evaluates (expression_of limit (symbols_of text symbol_rows count) rules t sorts depth (record { calls = calls; words = used }))
      q r words trees words' trees' used limit calls
  pub forms : ExpressionFormed text symbol_rows count pattern r words words' used
  pub spends : ExpressionSpent r calls used
  pub kept : length words' ≡ length words
  pub restored : links' ≡ links

-- The rows from a place on stand for the arguments of the symbol i.
pub record ApplicationAsked (text : List ℕ) (rows : Rows) (at arguments : ℕ) (symbol_rows : Rows) (count i : ℕ) (rule_rows : Rows) (pattern : List ℕ)
    (depth calls used limit : ℕ) (words links : List ℕ) (trees stack : Rows) : Type 0 where
  pub wide : ℕ
  pub rules : List Rule
  pub tables : Tables text symbol_rows count rule_rows pattern wide rules
  pub known : i < count
  pub counted : arguments + column (row_at symbol_rows i) 3 ≡ column (row_at symbol_rows i) 6
  pub terms : Written many
  pub next : ℕ
  pub stands : standing.Stands text rows at terms next
  pub many : size terms ≡ arguments
  pub working : Working words used limit links trees stack
  pub deep : depth ≤ 128
  pub spent : 2 * calls ≤ used

pub record ApplicationAnswered (text : List ℕ) (rows : Rows) (at arguments : ℕ) (symbol_rows : Rows) (count i : ℕ) (rule_rows : Rows) (pattern : List ℕ)
    (depth calls used limit : ℕ) (words links : List ℕ) (trees : Rows) (r : Result Expressed Refusal) (words' links' : List ℕ) (trees' : Rows) : Type 0 where
  pub says : (wide : ℕ) (rules : List Rule) → Tables text symbol_rows count rule_rows pattern wide rules → (ts : Written many) (q : ℕ)
      → standing.Stands text rows at ts q → size ts ≡ arguments
      → Evaluates (apply_of limit (symbols_of text symbol_rows count) rules i depth
      (expression_of limit (symbols_of text symbol_rows count) rules ts (symbol_at (symbols_of text symbol_rows count) i).inputs (suc depth)
      (record { calls = calls; words = used })))
      q r words trees words' trees' used limit calls
  pub forms : ExpressionFormed text symbol_rows count pattern r words words' used
  pub spends : ExpressionSpent r calls used
  pub kept : length words' ≡ length words
  pub restored : links' ≡ links

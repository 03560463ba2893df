-- What the functions that enter rules ask and owe.
use Rattle.std.specs.Prelude.{ℕ, ◌+◌, ◌*◌, ◌≤◌, ◌<◌, ◌≡◌, Result, List, ◌∷◌, length}
use Rattle.source_text.specs.Parts.{part_of}
use Rattle.arena.specs.Cells.{WellFormed, cells}
use Rattle.arena.specs.Copies.{pattern_room}
use Rattle.term_parser.specs.Source.{Source, one, all_of}
use Rattle.term_parser.specs.Standing.{spelled}
use Rattle.names.specs.Symbols.{Rows, Symbol, column, row_at, symbols_of}
use Rattle.rules.specs.Rules.{rule_of, entering}
use Rattle.rules.specs.PatternLaws.{arities_of, InputsUpto}
use Rattle.rules.specs.Promises.{Entering}
use Rattle.clauses.specs.Promises.{entered, NextIs}
use Rattle.clauses.specs.declared.EnteredRule.{EnteredRule}
use Rattle.refusals.specs.declared.Refusal.{Refusal}
use Rattle.loader.specs.Signature.{front_of, last_judgment}
use Rattle.loader.specs.TermRows.{JudgmentsStand}

-- Symbols with at most 16 inputs; well formed words, with 2 words for each of at most 1,024 nodes; rows for all rules.
pub record Storage (text : List ℕ) (symbols : Rows) (count : ℕ) (w : List ℕ) (u room : ℕ) (rules : Rows) : Type 0 where
  pub lent : count ≤ length symbols
  pub few : count ≤ 1024
  pub inputs : (i : ℕ) → i < count → column (row_at symbols i) 6 ≤ 16
  pub upto : (ns : ℕ) × InputsUpto ns (symbols_of text symbols count)
  pub formed : WellFormed pattern_room (cells w) pattern_room u
  pub words : u + 2 * room ≤ length w
  pub low : u + 2 * room ≤ 65536
  pub small : room ≤ 1024
  pub rules_lent : 1024 ≤ length rules

-- What `enter_rule` asks: k judgments from the row p on, behind the row of the rule's name.
pub record RuleAsked (text : List ℕ) (rows : Rows) (p k : ℕ) (symbols : Rows) (count : ℕ) (w : List ℕ) (u room : ℕ) (rules : Rows) : Type 0 where
  pub first : Source one
  pub others : List (Source one)
  pub end : ℕ
  pub stand : JudgmentsStand text rows p first others end
  pub number : k ≡ length (first ∷ others)
  pub here : p ≤ length rows
  pub later : 0 < p
  pub short : length rows ≤ 65536
  pub storage : Storage text symbols count w u room rules

-- What it owes: the last judgment is the conclusion, the others are the premises; the row behind them is answered.
pub record RuleEntered (text : List ℕ) (rows : Rows) (p k start size : ℕ) (symbols : List Symbol) (w : List ℕ) (u room : ℕ) (rules : Rows) (number : ℕ)
    (r : Result EnteredRule Refusal) (w' : List ℕ) (rules' : Rows) : Type 0 where
  pub same : (j : Source one) (js : List (Source one)) (q : ℕ) → JudgmentsStand text rows p j js q → k ≡ length (j ∷ js)
      → NextIs q r × Entering text (arities_of symbols) (record { word = record { start = start; size = size }; clause = 0 }) w u room rules number w' rules'
      (entering number (rule_of symbols (part_of text start size) (spelled text (all_of (front_of (j ∷ js)))) (spelled text (last_judgment j js)) room)) (entered r)

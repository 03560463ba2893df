-- Numerals as values in storage (`tower_of` and `numeral_of` of `evaluation`).
use Rattle.std.specs.Prelude.{ℕ, ◌≤◌, ◌<◌, min, ◌≡◌, List, length, Result}
use Rattle.arena.specs.Cells.{headers}
use Rattle.term_parser.specs.Source.{one}
use Rattle.names.specs.Symbols.{Rows, column, row_at, symbols_of}
use Rattle.resolution.specs.Rules.{Rule}
use Rattle.rules.specs.PatternLaws.{arities_of}
use Rattle.evaluation.specs.Expressions.{Evaluated, failed, evaluated, tower_of, numeral_of}
use Rattle.clause_matching.specs.Stored.{Values, Formed}
use Rattle.clause_matching.specs.Building.{built_at, Tells, Stands}
use Rattle.refusals.specs.Refused.{Refuses}
use Rattle.clause_matching.specs.declared.building.Built.{Built as Answer}
use Rattle.refusals.specs.declared.Refusal.{Refusal}

-- The symbols and the words that values are built in.
pub record NumeralAsked (symbols : Rows) (count depth : ℕ) (words : List ℕ) (used limit : ℕ) : Type 0 where
  pub lent : count ≤ length symbols
  pub few : count ≤ 1024
  pub deep : depth ≤ 128
  pub stored : Values words used
  pub fits : used ≤ limit
  pub low : limit ≤ headers
  pub room : limit ≤ length words

-- Words in form over the symbols stay so, where a value is built.
abbrev pub ValueFormed : List ℕ → Rows → ℕ → Result Answer Refusal → List ℕ → List ℕ → ℕ → Type 0
ValueFormed text symbols count r words words' used =
    Formed (arities_of (symbols_of text symbols count)) words used → (value u : ℕ) → r ≡ built_at value u → Formed (arities_of (symbols_of text symbols count)) words' u

-- z has no input, and where there is a y, it has one.
pub record TowerAsked (symbols : Rows) (count y z n : ℕ) (words : List ℕ) (used limit : ℕ) : Type 0 where
  pub working : NumeralAsked symbols count 0 words used limit
  pub nullary : column (row_at symbols z) 6 ≡ 0
  pub unary : 0 < n → column (row_at symbols y) 6 ≡ 1

pub record TowerAnswered (symbols : Rows) (count y z n : ℕ) (words : List ℕ) (used limit : ℕ) (r : Result Answer Refusal) (words' : List ℕ) : Type 0 where
  pub tells : (text : List ℕ) (rules : List Rule) → Tells (tower_of limit (symbols_of text symbols count) rules y z n used) r words words' used limit
  pub forms : (text : List ℕ) → ValueFormed text symbols count r words words' used
  pub kept : length words' ≡ length words

-- An answer says what an expression comes to that makes no call.
abbrev pub Gives : Evaluated one → ℕ → Result Answer Refusal → List ℕ → List ℕ → ℕ → ℕ → Type 0
Gives (failed e) calls r words words' used limit = Refuses r e
Gives (evaluated v ps c) calls r words words' used limit =
    (value : ℕ) × (r ≡ built_at value c.words) × Stands words used limit words' v value c.words × (c.calls ≡ calls)

-- A row has the least of the value and 2^32 - 1.
pub record NumeralAnswered (text : List ℕ) (symbols : Rows) (count n depth : ℕ) (words : List ℕ) (used limit : ℕ) (r : Result Answer Refusal) (words' : List ℕ) : Type 0 where
  pub says : (v : ℕ) → n ≡ min v 4294967295 → (rules : List Rule) (calls : ℕ)
      → Gives (numeral_of limit (symbols_of text symbols count) rules v depth (record { calls = calls; words = used })) calls r words words' used limit
  pub forms : ValueFormed text symbols count r words words' used
  pub kept : length words' ≡ length words

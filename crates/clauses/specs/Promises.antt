-- What the functions of `clauses` ask of and owe to each other.
use Rattle.std.specs.Prelude.{ℕ, suc, ◌+◌, ◌-◌, ◌*◌, ◌≤◌, ◌<◌, ◌≡◌, Result, Ok, Err, List, [], ◌∷◌, length}
use Rattle.source_text.specs.Parts.{part_of}
use Rattle.term_parser.specs.Source.{one, many}
use Rattle.term_parser.specs.Rows.{application_kind}
use Rattle.term_parser.specs.Standing as parsed
use Rattle.term_parser.specs.Standing.{Written, size}
use Rattle.arena.specs.Cells.{WellFormed, cells}
use Rattle.arena.specs.Copies.{pattern_room}
use Rattle.names.specs.Symbols.{Rows, Symbol, column, row_at, symbols_of}
use Rattle.names.specs.Standing.{Stands}
use Rattle.rules.specs.Rules.{entering}
use Rattle.rules.specs.PatternLaws.{arities_of, InputsUpto}
use Rattle.rules.specs.Promises.{Entering}
use Rattle.rules.specs.declared.Title.{Title}
use Rattle.rules.specs.declared.Space.{Space}
use Rattle.refusals.specs.declared.Refusal.{Refusal}
use Rattle.clauses.specs.Clauses.{clause_of}
use Rattle.clauses.specs.declared.EnteredRule.{EnteredRule}

-- What `skip` owes: whatever n terms stand from the row p on, it answers the row behind them.
pub record Skipped (rows : Rows) (p n r : ℕ) : Type 0 where
  pub onward : p ≤ r
  pub behind : (text : List ℕ) (ts : Written many) (q : ℕ) → parsed.Stands text rows p ts q → size ts ≡ n → r ≡ q

-- What `heading` asks: n patterns from the row p on, and as many rows to write.
pub record HeadingAsked (rows : Rows) (p n : ℕ) (out : Rows) : Type 0 where
  pub patterns : (text : List ℕ) × (ts : Written many) × (q : ℕ) × parsed.Stands text rows p ts q × (size ts ≡ n)
  pub later : 0 < p
  pub here : p ≤ length rows
  pub short : length rows ≤ 65536
  pub lent : length rows ≤ length out

-- What `heading` owes: the row of the function applied to n + 1 terms, and behind it the patterns.
pub record Headed (rows : Rows) (p n start length₁ : ℕ) (out : Rows) (r : ℕ) (out' : Rows) : Type 0 where
  pub onward : p ≤ r
  pub within : r ≤ length rows
  pub kept : length out' ≡ length out
  pub heads : row_at out' 0 ≡ application_kind ∷ start ∷ length₁ ∷ (n + 1) ∷ []
  pub behind : (text : List ℕ) (ts : Written many) (q : ℕ) → parsed.Stands text rows p ts q → size ts ≡ n → (r ≡ q) × Stands text out' 1 ts (1 + (q - p))

-- A clause in rows: n patterns from the row p on, and then the right side.
pub record Source (text : List ℕ) (rows : Rows) (p n : ℕ) : Type 0 where
  pub patterns : Written many
  pub behind : ℕ
  pub stand : parsed.Stands text rows p patterns behind
  pub number : size patterns ≡ n
  pub right : Written one
  pub end : ℕ
  pub stands : parsed.Stands text rows behind right end

-- What `clause` asks: a source; storage as `rule` asks; rows for flattening.
pub record ClauseAsked (text : List ℕ) (rows : Rows) (p n : ℕ) (symbols : Rows) (count : ℕ) (w : List ℕ) (u room : ℕ) (rules out calls : Rows) : Type 0 where
  pub source : Source text rows p n
  pub lent : count ≤ length symbols
  pub few : count ≤ 1024
  pub inputs : (i : ℕ) → i < count → column (row_at symbols i) 6 ≤ 16
  pub upto : (ns : ℕ) × InputsUpto ns (symbols_of text symbols count)
  pub formed : WellFormed pattern_room (cells w) pattern_room u
  pub words : u + 2 * room ≤ length w
  pub low : u + 2 * room ≤ 65536
  pub small : room ≤ 1024
  pub rules_lent : 1024 ≤ length rules
  pub later : 0 < p
  pub here : p ≤ length rows
  pub short : length rows ≤ 65536
  pub out_lent : length rows ≤ length out
  pub calls_lent : length rows + 32 ≤ length calls

-- The rule's answer in it, and the row behind the clause.
abbrev pub entered : Result EnteredRule Refusal → Result Space Refusal
entered (Err e) = Err e
entered (Ok r) = Ok r.space

abbrev pub NextIs : ℕ → Result EnteredRule Refusal → Type 0
NextIs q (Err e) = Unit {0}
NextIs q (Ok r) = r.next ≡ q

-- What `clause` owes.
pub record ClauseEntered (text : List ℕ) (rows : Rows) (p n : ℕ) (symbols : List Symbol) (title : Title) (w : List ℕ) (u room : ℕ) (rules : Rows) (number : ℕ)
    (r : Result EnteredRule Refusal) (w' : List ℕ) (rules' : Rows) : Type 0 where
  pub same : (ts : Written many) (q : ℕ) → parsed.Stands text rows p ts q → size ts ≡ n → (t : Written one) (q' : ℕ) → parsed.Stands text rows q t q' → (k : ℕ) → title.clause ≡ suc k
      → NextIs q' r × Entering text (arities_of symbols) title w u room rules number w' rules' (entering number (clause_of symbols (part_of text title.word.start title.word.size) k ts t room)) (entered r)

-- What calls in storage ask and answer (document 01, "Evaluated terms"; `call_of` of `evaluation`).
use Rattle.std.specs.Prelude.{ℕ, suc, ◌+◌, ◌-◌, ◌*◌, ◌/◌, ◌≤◌, ◌<◌, min, ◌≡◌, List, length, Result, Ok}
use Rattle.std.proofs.Math.Option.{some}
use Rattle.terms.specs.Term.{Kind, nil, cons}
use Rattle.terms.specs.Term.Kind.{many as several}
use Rattle.terms.specs.Bindings.{Bindings}
use Rattle.arena.specs.Cells.{headers, cells, symbol_of, arity_of, args, denote, Same}
use Rattle.arena.specs.Copies.{pattern_room}
use Rattle.names.specs.Symbols.{Rows, Symbol, column, row_at, symbol_at}
use Rattle.resolution.specs.Rules.{Rule, rule_at_lem, Tree}
use Rattle.tree_rows.specs.Trees.{Lists}
use Rattle.evaluation.specs.Calls.{Spent, Called, refused, returned, Walked, stopped, walked, max_calls, premises_of, concluded, call_of}
use Rattle.evaluation.specs.Expressions.{max_depth}
use Rattle.clause_matching.specs.Stored.{Value, Values, PatternIn, Holds, Links, Headed, Formed, pattern_at}
use Rattle.clause_matching.specs.Building.{rule_words, Stands}
use Rattle.refusals.specs.Refused.{Refuses}
use Rattle.clause_matching.specs.Choice.{ConclusionIn, values_of}
use Rattle.refusals.specs.declared.Refusal.{Refusal}
use Rattle.function_calls.specs.declared.calls.Outcome.{Outcome}
use Rattle.function_calls.specs.declared.calls.Store.{Store}

-- A value, with the calls made and the words used then.
abbrev pub outcome : ℕ → ℕ → ℕ → Result Outcome Refusal
outcome value calls used = Ok (record { value = value; spent = record { calls = calls; used = used } })

-- The same buffers are lent, and the rows of trees and of the stack are as many as before.
pub record IsLent (s s' : Store) : Type 0 where
  pub words : s'.words.ghost_name ≡ s.words.ghost_name
  pub links : s'.links.ghost_name ≡ s.links.ghost_name
  pub trees : s'.trees.ghost_name ≡ s.trees.ghost_name
  pub stack : s'.stack.ghost_name ≡ s.stack.ghost_name
  pub trees_kept : length s'.trees.now ≡ length s.trees.now
  pub stack_kept : length s'.stack.now ≡ length s.stack.now

-- A premise in storage: a node of a function, with all its inputs.
pub record PremiseIn (symbols : List Symbol) (pattern : List ℕ) (size reference : ℕ) : Type 0 where
  pub patterned : PatternIn pattern size reference rule_words
  pub node : pattern_room ≤ reference
  pub known : symbol_of (cells pattern (reference - pattern_room)) < length symbols
  pub inputs : arity_of (cells pattern (reference - pattern_room)) ≡ length (symbol_at symbols (symbol_of (cells pattern (reference - pattern_room)))).inputs
  pub some_inputs : 0 < arity_of (cells pattern (reference - pattern_room))
  pub few : arity_of (cells pattern (reference - pattern_room)) ≤ 16

-- A clause of n patterns in storage.
pub record ClauseIn (symbols : List Symbol) (pattern : List ℕ) (size : ℕ) (row : List ℕ) (n : ℕ) (R : Rule) : Type 0 where
  pub conclusion : ConclusionIn pattern size (column row 5) n
  pub concludes : pattern_at pattern (column row 5) ≡ R.conclusion
  pub few : column row 4 ≤ 16
  pub premises : (j : ℕ) → j < column row 4 → PremiseIn symbols pattern size (column row (10 + j))
  pub premised : args (denote pattern_room (cells pattern)) (column row) 10 (column row 4) ≡ R.premises

-- The functions and their clauses in storage.
pub record Program (symbol_rows rule_rows : Rows) (pattern : List ℕ) (size : ℕ) (symbols : List Symbol) (rules : List Rule) : Type 0 where
  pub few : length symbols ≤ length symbol_rows
  pub limited : length symbols ≤ 1024
  pub lent : length rules ≤ length rule_rows
  pub small : length rules ≤ 1024
  pub first : (f : ℕ) → f < length symbols → (symbol_at symbols f).first ≡ column (row_at symbol_rows f) 4
  pub clauses : (f : ℕ) → f < length symbols → (symbol_at symbols f).clauses ≡ column (row_at symbol_rows f) 5
  pub within : (f : ℕ) → f < length symbols → column (row_at symbol_rows f) 4 + column (row_at symbol_rows f) 5 ≤ length rules
  pub clause : (f i n : ℕ) → f < length symbols → suc n ≡ length (symbol_at symbols f).inputs
      → column (row_at symbol_rows f) 4 ≤ i → i < column (row_at symbol_rows f) 4 + column (row_at symbol_rows f) 5
      → (R : Rule) × (rule_at_lem rules i ≡ some R) × ClauseIn symbols pattern size (row_at rule_rows i) n R

-- One row of trees for each call. Few words allow few calls: at most 128 are open, and each other one has taken two words at least, for
-- its conclusion, a node with an argument.
abbrev pub tree_rows : ℕ → ℕ
tree_rows limit = min max_calls (limit / 2 + max_depth)

-- The storage that calls work in.
pub record Working (words : List ℕ) (used limit : ℕ) (links : List ℕ) (trees stack : Rows) : Type 0 where
  pub stored : Values words used
  pub fits : used ≤ limit
  pub low : limit ≤ headers
  pub scratch : limit + rule_words < length words
  pub linked : Links links limit
  pub rows : rule_words < length stack
  pub listed : tree_rows limit ≤ length trees

-- The rows of trees, from the row `calls` on and before the one that is free then; the rows before are as they were.
pub record TreesListed {s : Kind} (trees : Rows) (calls height : ℕ) (words' : List ℕ) (trees' : Rows) (ps : Tree s) (c : Spent) : Type 0 where
  pub lists : Lists 0 0 words' c.words trees' calls height ps c.calls
  pub before : (j : ℕ) → j < calls → row_at trees' j ≡ row_at trees j

-- An answer says what a call comes to: the value among the words, and a row for each call that was made.
abbrev pub Answers : Called → Result Outcome Refusal → List ℕ → Rows → List ℕ → Rows → ℕ → ℕ → ℕ → ℕ → Type 0
Answers (refused e) r words trees words' trees' used limit calls height = Refuses r e
Answers (returned v p c) r words trees words' trees' used limit calls height =
    (value : ℕ) × (r ≡ outcome value c.calls c.words) × Stands words used limit words' v value c.words × TreesListed trees calls height words' trees' p c

-- Words in form over a pattern's symbols stay so, where a call returns.
abbrev pub CallFormed : List ℕ → Result Outcome Refusal → List ℕ → List ℕ → ℕ → Type 0
CallFormed pattern r words words' used =
    (arities : List ℕ) → Headed arities pattern → Formed arities words used → (value calls u : ℕ) → r ≡ outcome value calls u → Formed arities words' u

-- Where a call returns, each call that was made in it has taken two words at least.
abbrev pub CallSpent : Result Outcome Refusal → ℕ → ℕ → Type 0
CallSpent r calls used = (value calls' used' : ℕ) → r ≡ outcome value calls' used' → 2 * calls' + used ≤ 2 * calls + used'

pub record CallAsked (symbol_rows rule_rows : Rows) (pattern : List ℕ) (symbol : ℕ) (values : List ℕ) (depth height calls used limit : ℕ)
    (words links : List ℕ) (trees stack : Rows) : Type 0 where
  pub size : ℕ
  pub symbols : List Symbol
  pub rules : List Rule
  pub program : Program symbol_rows rule_rows pattern size symbols rules
  pub known : symbol < length symbols
  pub inputs : suc (length values) ≡ length (symbol_at symbols symbol).inputs
  pub working : Working words used limit links trees stack
  pub roots : (k : ℕ) → k < length values → Value words used (cells values k)
  pub deep : depth ≤ 129
  -- of the calls before it and itself at most `depth` are open, and each other one has taken two words at least:
  pub spent : 2 * suc calls ≤ used + 2 * depth

pub record CallAnswered (symbol_rows rule_rows : Rows) (pattern : List ℕ) (symbol : ℕ) (values : List ℕ) (depth height calls used limit : ℕ)
    (words links : List ℕ) (trees : Rows) (r : Result Outcome Refusal) (words' links' : List ℕ) (trees' : Rows) : Type 0 where
  pub says : (size : ℕ) (symbols : List Symbol) (rules : List Rule) → Program symbol_rows rule_rows pattern size symbols rules → symbol < length symbols
      → suc (length values) ≡ length (symbol_at symbols symbol).inputs
      → Answers (call_of limit symbols rules (129 - depth) symbol (values_of words values) (record { calls = calls; words = used }))
      r words trees words' trees' used limit calls height
  pub forms : CallFormed pattern r words words' used
  pub spends : CallSpent r calls used
  pub kept : length words' ≡ length words
  pub restored : links' ≡ links

-- The clause that was taken, with the values of its variables.
pub record FollowAsked (symbol_rows rule_rows : Rows) (pattern : List ℕ) (rule depth height calls used limit : ℕ)
    (environment words links : List ℕ) (trees stack : Rows) : Type 0 where
  pub size : ℕ
  pub symbols : List Symbol
  pub rules : List Rule
  pub program : Program symbol_rows rule_rows pattern size symbols rules
  pub patterns : ℕ
  pub R : Rule
  pub clause : ClauseIn symbols pattern size (row_at rule_rows rule) patterns R
  pub numbered : rule < length rules
  pub long : pattern_room ≤ length environment
  pub known : (β : Bindings) × Holds environment words used β
  pub working : Working words used limit links trees stack
  pub deep : depth ≤ 128
  pub many : calls < 10000
  pub spent : 2 * suc calls ≤ used + 2 * depth

pub record Followed (symbol_rows rule_rows : Rows) (pattern : List ℕ) (rule depth height calls used limit : ℕ) (environment words links : List ℕ) (trees : Rows)
    (r : Result Outcome Refusal) (words' links' : List ℕ) (trees' : Rows) : Type 0 where
  pub says : (size : ℕ) (symbols : List Symbol) (rules : List Rule) → Program symbol_rows rule_rows pattern size symbols rules
      → (n : ℕ) (R : Rule) → ClauseIn symbols pattern size (row_at rule_rows rule) n R → (β : Bindings) → Holds environment words used β
      → Answers (concluded limit rule R.conclusion
      (premises_of limit (call_of limit symbols rules (128 - depth)) R.premises β (record { calls = suc calls; words = used })))
      r words trees words' trees' used limit calls height
  pub forms : CallFormed pattern r words words' used
  pub spends : CallSpent r calls used
  pub kept : length words' ≡ length words
  pub restored : links' ≡ links

-- An answer says what a premise comes to: its call's rows stand one level below.
pub record Stepped (words : List ℕ) (trees : Rows) (used limit calls height : ℕ) (words' environment' : List ℕ) (trees' : Rows) (γ : Bindings) (ps : Tree several)
    (c : Spent) (r : Result Outcome Refusal) : Type 0 where
  pub value : ℕ
  pub is : r ≡ outcome value c.calls c.words
  pub stored : Values words' c.words
  pub holds : Holds environment' words' c.words γ
  pub same : Same 0 (cells words) (cells words') used
  pub grows : used ≤ c.words
  pub within : c.words ≤ limit
  pub listed : TreesListed trees calls (suc height) words' trees' ps c

abbrev pub Steps : Walked → Result Outcome Refusal → List ℕ → Rows → List ℕ → List ℕ → Rows → ℕ → ℕ → ℕ → ℕ → Type 0
Steps (stopped e) r words trees words' environment' trees' used limit calls height = Refuses r e
Steps (walked γ ps c) r words trees words' environment' trees' used limit calls height =
    Stepped words trees used limit calls height words' environment' trees' γ ps c r

pub record PremiseAsked (symbol_rows rule_rows : Rows) (pattern : List ℕ) (header first depth height calls used limit : ℕ)
    (environment words links : List ℕ) (trees stack : Rows) : Type 0 where
  pub size : ℕ
  pub symbols : List Symbol
  pub rules : List Rule
  pub program : Program symbol_rows rule_rows pattern size symbols rules
  pub reference : ℕ
  pub premise : PremiseIn symbols pattern size reference
  pub header_is : header ≡ cells pattern (reference - pattern_room)
  pub first_is : first ≡ suc (reference - pattern_room)
  pub long : pattern_room ≤ length environment
  pub known : (β : Bindings) × Holds environment words used β
  pub working : Working words used limit links trees stack
  pub deep : depth ≤ 128
  -- the call whose premise this is has been counted:
  pub spent : 2 * calls ≤ used + 2 * depth

pub record PremiseAnswered (symbol_rows rule_rows : Rows) (pattern : List ℕ) (header first depth height calls used limit : ℕ) (environment words links : List ℕ)
    (trees : Rows) (r : Result Outcome Refusal) (environment' words' links' : List ℕ) (trees' : Rows) : Type 0 where
  pub says : (size : ℕ) (symbols : List Symbol) (rules : List Rule) → Program symbol_rows rule_rows pattern size symbols rules
      → (reference : ℕ) → PremiseIn symbols pattern size reference → header ≡ cells pattern (reference - pattern_room) → first ≡ suc (reference - pattern_room)
      → (β : Bindings) → Holds environment words used β
      → Steps (premises_of limit (call_of limit symbols rules (128 - depth)) (cons (pattern_at pattern reference) nil) β (record { calls = calls; words = used }))
      r words trees words' environment' trees' used limit calls height
  pub forms : CallFormed pattern r words words' used
  pub spends : CallSpent r calls used
  pub kept : length words' ≡ length words
  pub keeps : length environment' ≡ length environment
  pub restored : links' ≡ links

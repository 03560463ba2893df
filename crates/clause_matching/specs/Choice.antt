-- What the choice of a clause in storage asks and answers (document 01, "Evaluated terms"; `clauses_of` of `evaluation`).
use Rattle.std.specs.Prelude.{ℕ, suc, ◌+◌, ◌-◌, ◌≤◌, ◌<◌, ◌≡◌, cond, List, length, Option, None, Some}
use Rattle.terms.specs.Numbers.{less}
use Rattle.terms.specs.Term.{Terms}
use Rattle.terms.specs.Bindings.{Bindings, start}
use Rattle.arena.specs.Cells.{headers, cells, arity_of, args, denote}
use Rattle.arena.specs.Copies.{pattern_room}
use Rattle.names.specs.Symbols.{Rows, column, row_at}
use Rattle.evaluation.specs.Matching.{Fitted, misfit, fitted, bind_of}
use Rattle.clause_matching.specs.Stored.{Value, Values, PatternIn, Holds, Links}
use Rattle.clause_matching.specs.Building.{rule_words}
use Rattle.clause_matching.specs.declared.references.Pattern.{Pattern}
use Rattle.clause_matching.specs.declared.references.Pattern.TheVariants.{Variable, Node}

-- A variable, or a node in the pattern's words.
abbrev pub Referable : List ℕ → ℕ → Type 0
Referable pattern reference = (pattern_room ≤ reference → reference - pattern_room < length pattern) × (reference < headers)

abbrev pub pattern_from : List ℕ → ℕ → Pattern
pattern_from pattern reference = cond (less reference pattern_room) (Variable reference) (Node (cells pattern (reference - pattern_room)) (reference - pattern_room + 1))

-- The conclusion of the rule i: its reference, and the patterns that n values are matched with.
abbrev pub conclusion_in : Rows → ℕ → ℕ
conclusion_in rules i = column (row_at rules i) 5

abbrev pub patterns_from : List ℕ → ℕ → ℕ → Terms
patterns_from pattern base n = args (denote pattern_room (cells pattern)) (cells pattern) base n

abbrev pub patterns_in : Rows → List ℕ → ℕ → ℕ → Terms
patterns_in rules pattern i n = patterns_from pattern (suc (conclusion_in rules i - pattern_room)) n

-- The values of a list of references.
abbrev pub values_of : List ℕ → List ℕ → Terms
values_of words values = args (denote 0 (cells words)) (cells values) 0 (length values)

-- Does the clause i fit?
abbrev pub fit_of : Rows → List ℕ → List ℕ → List ℕ → ℕ → Fitted
fit_of rules pattern values words i = bind_of (patterns_in rules pattern i (length values)) (values_of words values) start

-- What is asked of the first pattern and the first value, if there are any.
pub record ApartAsked (pattern : List ℕ) (base : ℕ) (words values : List ℕ) : Type 0 where
  pub size : ℕ
  pub used : ℕ
  pub inside : base + length values ≤ length pattern
  pub patterned : 0 < length values → PatternIn pattern size (cells pattern base) rule_words
  pub stored : Values words used
  pub root : 0 < length values → Value words used (cells values 0)

-- The conclusion of a clause of n patterns: a node of n + 1 arguments.
pub record ConclusionIn (pattern : List ℕ) (size reference n : ℕ) : Type 0 where
  pub patterned : PatternIn pattern size reference rule_words
  pub node : pattern_room ≤ reference
  pub inputs : arity_of (cells pattern (reference - pattern_room)) ≡ suc n

pub record ClauseAsked (rules : Rows) (pattern : List ℕ) (from end : ℕ) (values words : List ℕ) (used : ℕ) (environment links : List ℕ) (stack : Rows) : Type 0 where
  pub size : ℕ
  pub conclusions : (i : ℕ) → from ≤ i → i < end → ConclusionIn pattern size (conclusion_in rules i) (length values)
  pub lent : end ≤ length rules
  pub stored : Values words used
  pub roots : (k : ℕ) → k < length values → Value words used (cells values k)
  pub long : pattern_room ≤ length environment
  pub linked : Links links used
  pub rows : rule_words ≤ length stack

-- The clause i fits, and the environment holds the values of its variables.
pub record Fits (rules : Rows) (pattern values words : List ℕ) (used i : ℕ) (environment : List ℕ) : Type 0 where
  pub β : Bindings
  pub fits : fit_of rules pattern values words i ≡ fitted β
  pub holds : Holds environment words used β

-- The first clause that fits; or none does.
abbrev pub Chooses : Rows → List ℕ → ℕ → ℕ → List ℕ → List ℕ → ℕ → Option ℕ → List ℕ → Type 0
Chooses rules pattern from end values words used (Some i) environment =
    (from ≤ i) × (i < end) × ((j : ℕ) → from ≤ j → j < i → fit_of rules pattern values words j ≡ misfit) × Fits rules pattern values words used i environment
Chooses rules pattern from end values words used None environment = (j : ℕ) → from ≤ j → j < end → fit_of rules pattern values words j ≡ misfit

pub record Chosen (rules : Rows) (pattern : List ℕ) (from end : ℕ) (values words : List ℕ) (used : ℕ) (environment links : List ℕ) (r : Option ℕ)
    (environment' links' : List ℕ) : Type 0 where
  pub chooses : Chooses rules pattern from end values words used r environment'
  pub kept : length environment' ≡ length environment
  pub restored : links' ≡ links

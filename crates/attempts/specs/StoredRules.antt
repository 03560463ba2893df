-- What a stored rule stands for (the Rust's `Rule`), and when it is in form: its words are a part of the signature's pattern words, first those of the
-- premises and then those of the conclusion, and a table gives each variable its place in meeting order.
use Rattle.std.specs.Prelude.{ℕ, ◌+◌, ◌-◌, ◌≤◌, ◌<◌, ◌≡◌, true, List, [], get_or, length}
use Rattle.terms.specs.Term.{Term}
use Rattle.arena.specs.Cells.{headers, denote, WellFormed, cells, terms_of}
use Rattle.arena.specs.Copies.{pattern_room}
use Rattle.arena.specs.Form.{in_form}
use Rattle.resolution.specs.Rules.{Rule}
use Rattle.resolution.specs.Fresh.{elem, place, head_vars, all_vars}
use Rattle.resolution.specs.Search.{words}
use Rattle.attempts.specs.declared.Stored.{Stored}

-- The term of a pattern's reference.
abbrev pub pattern_of : List ℕ → ℕ → Term
pattern_of pattern r = denote pattern_room (cells pattern) r

-- The rule: the terms of its premises and of its conclusion. One attempt looks at neither its name nor its sorts (RuleLaws, `attempt_looks`).
unfoldable pub rule_of : List ℕ → List ℕ → Stored → Rule
rule_of pattern premises stored =
    record { name = []; sorts = []; premises = terms_of (pattern_of pattern) premises; conclusion = pattern_of pattern stored.conclusion }

-- The `count` words of the pattern from the address `from` on can be copied by themselves, and their variables have places below n.
pub record Part (pattern places : List ℕ) (from count n : ℕ) : Type 0 where
  -- they are there, and references to them are below the headers
  pub there : from + count ≤ length pattern
  pub low : pattern_room + from + count ≤ headers
  -- nodes end within the part, and their arguments lie below them
  pub formed : WellFormed pattern_room (cells pattern) pattern_room (from + count)
  -- a variable has a place, below n
  pub listed : (i : ℕ) → i < count → get_or pattern (from + i) 0 < pattern_room → get_or pattern (from + i) 0 < length places
  pub numbered : (i : ℕ) → i < count → get_or pattern (from + i) 0 < pattern_room → get_or places (get_or pattern (from + i) 0) 0 < n
  -- a node that is referred to belongs to the part
  pub inside : (i : ℕ) → i < count → pattern_room ≤ get_or pattern (from + i) 0 → get_or pattern (from + i) 0 < headers → pattern_room + from ≤ get_or pattern (from + i) 0
  pub address : (i : ℕ) → i < count → pattern_room ≤ get_or pattern (from + i) 0 → get_or pattern (from + i) 0 < headers
      → get_or pattern (from + i) 0 < pattern_room + from + count

-- The reference of a judgment: a variable whose place is below n, or a node of the part.
pub record Root (pattern places : List ℕ) (from count n r : ℕ) : Type 0 where
  pub listed : r < pattern_room → r < length places
  pub numbered : r < pattern_room → get_or places r 0 < n
  pub from_on : pattern_room ≤ r → pattern_room + from ≤ r
  pub below : pattern_room ≤ r → r < pattern_room + from + count
  pub header : pattern_room ≤ r → headers ≤ get_or pattern (r - pattern_room) 0

-- A stored rule in form.
pub record StoredRule (pattern premises places : List ℕ) (stored : Stored) : Type 0 where
  -- the words of the premises, and those of the conclusion behind them
  pub body_part : Part pattern places stored.from stored.body stored.variables
  pub head_part : Part pattern places (stored.from + stored.body) stored.head stored.met
  -- each premise is one of the first, and the conclusion one of the second
  pub premise : (i : ℕ) → i < length premises → Root pattern places stored.from stored.body stored.variables (get_or premises i 0)
  pub conclusion : Root pattern places (stored.from + stored.body) stored.head stored.met stored.conclusion
  -- each node of the terms is stored once, and no other: the counts are document 01's
  pub head_words : stored.head ≡ words (rule_of pattern premises stored).conclusion
  pub body_words : stored.body ≡ words (rule_of pattern premises stored).premises
  -- so many variables are met in the conclusion, and in the whole rule
  pub head_variables : stored.met ≡ length (head_vars (rule_of pattern premises stored))
  pub all_variables : stored.variables ≡ length (all_vars (rule_of pattern premises stored))
  pub few : stored.variables ≤ pattern_room
  -- the table has each variable's place in meeting order
  pub placed : (x : ℕ) → elem x (all_vars (rule_of pattern premises stored)) ≡ true → get_or places x 0 ≡ place (all_vars (rule_of pattern premises stored)) x

-- A rule's words are in form over a signature's arities: those of its premises, and those of its conclusion behind them.
pub record RuleInForm (pattern : List ℕ) (stored : Stored) (arities : List ℕ) : Type 0 where
  pub premises : in_form pattern stored.from (stored.from + stored.body) pattern_room pattern_room arities ≡ true
  pub conclusion : in_form pattern (stored.from + stored.body) (stored.from + stored.body + stored.head) pattern_room pattern_room arities ≡ true

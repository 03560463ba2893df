-- The form of one stored rule (document 01, refusal 1; docs/STORAGE.md, "A rule's row"), for a row and words of any contents.
use Rattle.std.specs.Prelude.{ℕ, ◌+◌, ◌≤◌, ◌<◌, ◌≡◌, List, [], length, Option, Some}
use Rattle.arena.specs.Cells.{WellFormed, cells, terms_of}
use Rattle.arena.specs.Copies.{pattern_room}
use Rattle.meeting.specs.Contract.{term_of}
use Rattle.meeting.specs.Places.{numbers_below}
use Rattle.resolution.specs.Rules.{Rule}
use Rattle.resolution.specs.Fresh.{met}
use Rattle.names.specs.NamePlaces.{NamePlace}
use Rattle.names.specs.Symbols.{column, columns}
use Rattle.rules.specs.StoredRows.{titled, heads_in, Kept}

-- The rule that a row and the words denote.
abbrev pub rule_in : List ℕ → List ℕ → List ℕ → Rule
rule_in text words row =
    record {
      name = titled text (column row 0) (column row 1) (column row 2);
      sorts = columns row 26 (column row 3);
      premises = terms_of (term_of words) (heads_in row);
      conclusion = term_of words (column row 5);
    }

-- A rule's name has a place in the text; a clause's number + 1 is at most 1,024, as many as there may be rules.
pub record RuleNamed (text row : List ℕ) : Type 0 where
  pub place : NamePlace text (column row 0) (column row 1)
  pub clause : column row 2 ≤ 1024

-- A rule's row, beside what it is for it to be kept: it is named, its variables have sorts that there are and are numbered in the order in which
-- they appear, premises first, and its words are at most 2 for each of 1,024 nodes.
pub record RuleFormed (text words : List ℕ) (sorts : ℕ) (row : List ℕ) : Type 0 where
  pub named : RuleNamed text row
  pub sorted : (j : ℕ) → j < column row 3 → (0 < column row (26 + j)) × (column row (26 + j) ≤ sorts)
  pub order : met (rule_in text words row).conclusion (met (rule_in text words row).premises []) ≡ numbers_below (column row 3)
  pub small : column row 7 + column row 8 ≤ 2048

-- The row keeps its rule in the words from u up to u', where the words in use end at `used`, and is in form.
pub record RuleListed (text arities words : List ℕ) (sorts used : ℕ) (row : List ℕ) (u u' : ℕ) : Type 0 where
  pub kept : Kept text arities words row (rule_in text words row) u u'
  pub formed : RuleFormed text words sorts row
  pub within : u' ≤ used

-- What `check_rule` asks: the words before the rule's are in form, and those in use are lent and few.
pub record RuleCheckable (words : List ℕ) (used u : ℕ) : Type 0 where
  pub from : u ≤ used
  pub lent : used ≤ length words
  pub few : used ≤ 65536
  pub before : WellFormed pattern_room (cells words) pattern_room u

-- What it answers: the end of the rule's words, exactly where the row and the words are in form.
pub record RuleChecked (text arities words : List ℕ) (sorts used : ℕ) (row : List ℕ) (u : ℕ) (r : Option ℕ) : Type 0 where
  pub sound : (next : ℕ) → r ≡ Some next → RuleListed text arities words sorts used row u next
  pub complete : (next : ℕ) → RuleListed text arities words sorts used row u next → r ≡ Some next

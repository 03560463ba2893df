-- The steps of the test of a stored rule, and what each tells: the numbers of the row, its columns, the parts of the words, and the two orders in which
-- the rule's variables are met.
use Rattle.std.specs.Prelude.{ℕ, ◌+◌, ◌≤◌, ◌<◌, ◌≡◌, ◌≢◌, Bool, true, false, List, [], length, get_or, Option, None}
use Rattle.terms.specs.Term.{Kind, Syn, Term, Terms, mem}
use Rattle.arena.specs.Cells.{headers, Reference, WellFormed, cells, terms_of}
use Rattle.arena.specs.Copies.{pattern_room}
use Rattle.arena.specs.Form.{Place, is_argument, in_form}
use Rattle.meeting.specs.Contract.{term_of}
use Rattle.meeting.specs.Places.{Records, numbers_below}
use Rattle.resolution.specs.Fresh.{met, met_back, place}
use Rattle.resolution.specs.Search.{words}
use Rattle.names.specs.Symbols.{column}
use Rattle.rules.specs.StoredRows.{heads_in}
use Rattle.rule_checks.specs.RuleForm.{RuleNamed}

-- The row

-- The ten numbers: the rule is named, variables and premises are few, and the words start at u, are few, and end where words are in use.
pub record Numbers (text : List ℕ) (used u : ℕ) (row : List ℕ) : Type 0 where
  pub named : RuleNamed text row
  pub variables : column row 3 ≤ 64
  pub premises : column row 4 ≤ 16
  pub from : column row 6 ≡ u
  pub within : u + column row 7 + column row 8 ≤ used
  pub small : column row 7 + column row 8 ≤ 2048

-- The columns from one on are zero, from number n up to m.
abbrev pub Zeros : List ℕ → ℕ → ℕ → ℕ → Type 0
Zeros row at n m = (j : ℕ) → n ≤ j → j < m → column row (at + j) ≡ 0

-- Each variable has a sort that there is.
abbrev pub Sorted : ℕ → List ℕ → Type 0
Sorted sorts row = (j : ℕ) → j < column row 3 → (0 < column row (26 + j)) × (column row (26 + j) ≤ sorts)

pub record Columns (sorts : ℕ) (row : List ℕ) : Type 0 where
  pub heads_clear : Zeros row 10 (column row 4) 16
  pub sorts_clear_lem : Zeros row 26 (column row 3) 64
  pub places_clear : Zeros row 90 (column row 3) 64
  pub sorted : Sorted sorts row

-- The words

-- A place of the part of the words that starts at u.
abbrev pub place_from : List ℕ → ℕ → Place
place_from words u = record { words = words; room = pattern_room; variables = pattern_room; from = u }

-- The references of the premises are of the part from u up to m.
abbrev pub Roots : List ℕ → ℕ → ℕ → List ℕ → Type 0
Roots words u m row = (j : ℕ) → j < column row 4 → is_argument (place_from words u) m (column row (10 + j)) ≡ true

-- The words of the premises and those of the conclusion are in form, and the references are theirs.
pub record Parts (arities words : List ℕ) (u m end : ℕ) (row : List ℕ) : Type 0 where
  pub premises : in_form words u m pattern_room pattern_room arities ≡ true
  pub roots : Roots words u m row
  pub conclusion : in_form words m end pattern_room pattern_room arities ≡ true
  pub root : is_argument (place_from words m) end (column row 5) ≡ true

-- What the walks through the terms ask: words that are well formed up to the end, and references to them.
pub record Walkable (words : List ℕ) (end : ℕ) (row : List ℕ) : Type 0 where
  pub within : end ≤ length words
  pub low : pattern_room + end ≤ headers
  pub formed : WellFormed pattern_room (cells words) pattern_room end
  pub premises : column row 4 ≤ 16
  pub roots : (j : ℕ) → j < column row 4 → Reference pattern_room (cells words) pattern_room end (column row (10 + j))
  pub root : Reference pattern_room (cells words) pattern_room end (column row 5)

-- The same of the reference of a term that is not too large.
pub record TermAsked (pattern : List ℕ) (r : ℕ) : Type 0 where
  pub end : ℕ
  pub within : end ≤ length pattern
  pub low : pattern_room + end ≤ headers
  pub formed : WellFormed pattern_room (cells pattern) pattern_room end
  pub root : Reference pattern_room (cells pattern) pattern_room end r
  pub small : words (term_of pattern r) ≤ 2048

-- Where the words of premises and conclusion end; they and the variables are few.
pub record OrderAsked (u m end : ℕ) (row : List ℕ) : Type 0 where
  pub middle : m ≡ u + column row 7
  pub last : end ≡ u + column row 7 + column row 8
  pub small : column row 7 + column row 8 ≤ 2048
  pub variables : column row 3 ≤ 64

-- The terms of the row's references.
abbrev pub premises_of : List ℕ → List ℕ → Terms
premises_of words row = terms_of (term_of words) (heads_in row)

abbrev pub conclusion_of : List ℕ → List ℕ → Term
conclusion_of words row = term_of words (column row 5)

-- A walk through t, which is to take `size` words: it takes others, or its variables are met behind those met before.
pub record Walked {k : Kind} (t : Syn k) (size : ℕ) (table : List (Option ℕ)) (count : ℕ) (r : Bool) (table' : List (Option ℕ)) (count' : ℕ) : Type 0 where
  pub other : r ≡ false → words t ≢ size
  pub fits : r ≡ true → words t ≡ size
  pub records : r ≡ true → (e : List ℕ) → Records e table count → Records (met t e) table' count'

-- A word that is a variable has a place in the table,
abbrev pub PlacedWord : List (Option ℕ) → ℕ → Type 0
PlacedWord table word = word < pattern_room → get_or table word None ≢ None

-- each variable among the words from a place up to another has one,
abbrev pub Placed : List ℕ → ℕ → ℕ → List (Option ℕ) → Type 0
Placed words from to table = (a : ℕ) → from ≤ a → a < to → PlacedWord table (get_or words a 0)

-- or is one of the term's.
abbrev pub Listed : {k : Kind} → List ℕ → ℕ → ℕ → Syn k → Type 0
Listed words from to t = (a : ℕ) → from ≤ a → a < to → get_or words a 0 < pattern_room → mem (get_or words a 0) t ≡ true

-- In writing order: the terms take the words that the row counts, and their variables are the numbers below its count, in order.
pub record InOrder (pattern : List ℕ) (u : ℕ) (row : List ℕ) : Type 0 where
  pub body : words (premises_of pattern row) ≡ column row 7
  pub listed : Listed pattern u (u + column row 7) (premises_of pattern row)
  pub head : words (conclusion_of pattern row) ≡ column row 8
  pub order : met (conclusion_of pattern row) (met (premises_of pattern row) []) ≡ numbers_below (column row 3)

-- In meeting order: the row counts the conclusion's variables, and has the place of each variable.
pub record InPlaces (pattern : List ℕ) (u : ℕ) (row : List ℕ) : Type 0 where
  pub meets : column row 9 ≡ length (met (conclusion_of pattern row) [])
  pub listed : Listed pattern (u + column row 7) (u + column row 7 + column row 8) (conclusion_of pattern row)
  pub placed : (x : ℕ) → x < column row 3 → column row (90 + x) ≡ place (met_back (premises_of pattern row) (met (conclusion_of pattern row) [])) x

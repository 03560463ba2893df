-- Document 01, The table by place, 1: what is stored must have the form that docs/ lists. The form of a term's rows: exactly those that
-- the parser leaves.
use Rattle.std.specs.Prelude.{ℕ, ◌+◌, ◌≤◌, ◌<◌, ◌≡◌, List, [], ◌∷◌, ◌++◌, length, drop}
use Rattle.source_text.specs.Numerals.{numeral_of}
use Rattle.source_text.specs.Answers.{Told, answers, refuses}
use Rattle.term_parser.specs.Source.{Place, place, Arity, one, Source, numeral, metavariable, name, application, none, more, count}
use Rattle.term_parser.specs.Rows.{Rows, rows_of}
use Rattle.term_parser.specs.Depth.{depth}
use Rattle.term_parser.specs.Standing.{bytes_at}
use Rattle.names.specs.NamePlaces.{NamePlace}
use Rattle.std.specs.Prelude.{Option, Some, None}

-- A word has a name's place: inside the text, of 1 to 64 bytes.
abbrev pub Word : List ℕ → Place → Type 0
Word text (place start n) = NamePlace text start n

-- Each word of a term, or of several, has such a place; a numeral has the value that is read there; an application has arguments.
abbrev pub Worded : {n : Arity} → List ℕ → Source n → Type 0
Worded text (numeral p v) = Word text p × (numeral_of (bytes_at text p) ≡ Some v)
Worded text (metavariable p) = Word text p
Worded text (name p) = Word text p
Worded text (application p ts) = Word text p × (0 < count ts) × Worded text ts
Worded text none = Unit {0}
Worded text (more t ts) = Worded text t × Worded text ts

-- The rows from p on and before q are those of a term, or of several.
pub record Lies {n : Arity} (rows : Rows) (p : ℕ) (t : Source n) (q : ℕ) : Type 0 where
  pub are : drop p rows ≡ rows_of t ++ drop q rows
  pub ends : q ≡ p + length (rows_of t)

-- From p on and before q there are the rows of a term as the parser leaves one, which is at most 131 deep.
pub record TermAt (text : List ℕ) (rows : Rows) (p q : ℕ) : Type 0 where
  pub term : Source one
  pub lies : Lies rows p term q
  pub worded : Worded text term
  pub shallow : depth term ≤ 131

-- What `check_term` answers, by the paper's numbers: where the term ends, or 1.
abbrev pub checked_told : Option ℕ → Told
checked_told (Some q) = answers (q ∷ [])
checked_told None = refuses 1 0

-- The promise of `check_term`: it answers where such a term ends, exactly if there is one.
pub record Checking (text : List ℕ) (rows : Rows) (at : ℕ) (r : Option ℕ) : Type 0 where
  pub sound : (q : ℕ) → r ≡ Some q → TermAt text rows at q
  pub complete : (q : ℕ) → TermAt text rows at q → r ≡ Some q
  pub told : (q : ℕ) → TermAt text rows at q → checked_told r ≡ answers (q ∷ [])
  pub barred : ((q : ℕ) → TermAt text rows at q → ⊥) → checked_told r ≡ refuses 1 0

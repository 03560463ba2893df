-- The walk through a term's rows: what one row is, and how many terms are still to come at each level of the term.
use Rattle.std.specs.Prelude.{ℕ, zero, suc, ◌+◌, ◌≤◌, min, ◌≡◌, Bool, false, cond, ◌||◌, List, [], ◌∷◌, eqb, length, get_or}
use Rattle.words.specs.Names.{name_kind, metavariable_kind, numeral_kind}
use Rattle.source_text.specs.Numerals.{numeral_of}
use Rattle.source_text.specs.Parts.{part_of}
use Rattle.std.specs.Prelude.{Option, Some, None}
use Rattle.term_parser.specs.Source.{Source, many, count}
use Rattle.term_parser.specs.Rows.{Rows, application_kind}
use Rattle.term_parser.specs.Depth.{depth}
use Rattle.names.specs.NamePlaces.{is_word_place}
use Rattle.term_check.specs.TermRows.{Worded, Lies, TermAt}
use Rattle.names.specs.Symbols.{column}

-- One row

-- Does a row hold the value of its numeral, 2^32 - 1 for a larger one?
abbrev pub is_held : Option ℕ → ℕ → Bool
is_held (Some v) k = eqb k (min v 4294967295)
is_held None k = false

-- How many arguments the term takes whose first row has this kind and this number.
abbrev pub takes : ℕ → ℕ → Bool → Option ℕ
takes kind n held =
    cond (eqb kind numeral_kind) (cond held (Some 0) None)
    (cond (eqb kind application_kind) (cond (eqb n 0) None (Some n))
    (cond (eqb n 0) (cond (eqb kind metavariable_kind || eqb kind name_kind) (Some 0) None) None))

abbrev pub word_in : List ℕ → List ℕ → List ℕ
word_in text row = part_of text (column row 1) (column row 2)

-- How many arguments the term takes whose first row this is, if it is one.
unfoldable pub top_of : List ℕ → List ℕ → Option ℕ
top_of text row =
    cond (is_word_place text (column row 1) (column row 2))
    (takes (column row 0) (column row 3) (is_held (numeral_of (word_in text row)) (column row 3)))
    None

-- `top_of`, of a row of four numbers.
pub record Topped (text row : List ℕ) (r : Option ℕ) : Type 0 where
  pub long : length row ≡ 4
  pub is : r ≡ top_of text row

-- Levels

-- From p on and before m there are k terms, at a level with so many levels above it.
pub record Level (text : List ℕ) (rows : Rows) (k above p m : ℕ) : Type 0 where
  pub terms : Source many
  pub lies : Lies rows p terms m
  pub number : count terms ≡ k
  pub worded : Worded text terms
  pub shallow : depth terms + above ≤ 131

-- From p on and before q, so many terms are still to come at each level, the innermost first.
abbrev pub Coming : List ℕ → Rows → ℕ → List ℕ → ℕ → Type 0
Coming text rows q [] p = p ≡ q
Coming text rows q (k ∷ ks) p = (m : ℕ) × Level text rows k (length ks) p m × Coming text rows q ks m

-- The levels of a table of counts, of which the first d are open.
unfoldable pub pending : List ℕ → ℕ → List ℕ
pending left zero = []
pending left (suc d) = get_or left d 0 ∷ pending left d

pub record Iff (A B : Type 0) : Type 0 where
  pub to : A → B
  pub from : B → A

-- A turn of the walk: there is a term from `at` on and before q exactly if what is still to come is there from p on.
pub record Walking (text : List ℕ) (rows : Rows) (at : ℕ) (left : List ℕ) (d p : ℕ) : Type 0 where
  pub few : d ≤ 132
  pub same : (q : ℕ) → Iff (TermAt text rows at q) (Coming text rows q (pending left d) p)

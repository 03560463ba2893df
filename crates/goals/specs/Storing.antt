-- What storing a compiled goal in a session owes: rows of its new names, and its words with the places of its variables put in.
use Rattle.std.specs.Prelude.{ℕ, ◌+◌, ◌-◌, ◌≤◌, ◌<◌, ◌≡◌, List, [], ◌∷◌, length, get_or, take}
use Rattle.std.proofs.lemmas.List.Edits.{sets}
use Rattle.terms.specs.Term.{Term, Below}
use Rattle.arena.specs.Cells.{headers}
use Rattle.arena.specs.Copies.{term_room, pattern_room, moved, copied}
use Rattle.names.specs.Symbols.{Rows, column, row_at}
use Rattle.rules.specs.LayingLaws.{Lying}
use Rattle.sessions.specs.declared.SessionCounts.{SessionCounts}
use Rattle.goals.specs.declared.Goal.{Goal}

-- The row of a variable as that of a name, with the session's variable x.
abbrev pub name_row : List ℕ → ℕ → List ℕ
name_row row x = column row 0 ∷ column row 1 ∷ column row 2 ∷ column row 3 ∷ x ∷ []

-- Names from n up to v are entered behind the first n, with variables from c on; other rows stay.
pub record NamesEntered (vs : Rows) (n v c : ℕ) (names names' : Rows) : Type 0 where
  pub long : length names' ≡ length names
  pub front : take n names' ≡ take n names
  pub new : (i : ℕ) → n ≤ i → i < v → row_at names' i ≡ name_row (row_at vs i) (c + (i - n))
  pub behind : (i : ℕ) → v ≤ i → row_at names' i ≡ row_at names i

-- The table has the variables of the first v names.
abbrev pub PlacesPut : Rows → ℕ → List ℕ → Type 0
PlacesPut names v places = (i : ℕ) → i < v → get_or places i 0 ≡ column (row_at names i) 4

-- The words of the goal p lie in the buffer.
pub record GoalLying (arities : List ℕ) (p : Term) (pattern : List ℕ) (g : Goal) : Type 0 where
  pub lies : Lying arities p pattern 0 (g.node ∷ []) g.words
  pub below : Below g.variables p

-- What `store` asks: a compiled goal whose words lie in a buffer, and a session with room for its names, variables and words.
pub record StoreAsked (vs : Rows) (pattern : List ℕ) (g : Goal) (names : Rows) (words : List ℕ) (n : SessionCounts) : Type 0 where
  pub order : n.names ≤ g.variables
  pub few : g.variables ≤ 64
  pub variables : g.variables ≤ length vs
  pub lent : g.variables ≤ length names
  pub room : n.variables + (g.variables - n.names) ≤ term_room
  -- the variables of the session's names were made
  pub old : (i : ℕ) → i < n.names → column (row_at names i) 4 < n.variables
  pub goal : (arities : List ℕ) × (p : Term) × GoalLying arities p pattern g
  pub space : n.words + g.words ≤ length words
  pub small : term_room + n.words + g.words ≤ headers

-- What it leaves: rows for the new names, and the goal's words with its variables put in, to which the answer refers.
pub record GoalStored (vs : Rows) (pattern : List ℕ) (g : Goal) (names : Rows) (words : List ℕ) (n : SessionCounts) (r : ℕ) (names' : Rows)
    (words' : List ℕ) : Type 0 where
  pub entered : NamesEntered vs n.names g.variables n.variables names names'
  pub places : List ℕ
  pub long : length places ≡ 64
  pub put : PlacesPut names' g.variables places
  pub is : r ≡ moved places 0 pattern_room (term_room + n.words) g.node
  pub written : words' ≡ sets words n.words (copied pattern 0 g.words places term_room n.words 0)

-- What `compile` owes (document 01, "Search"; refusals 19 to 26 and 28): the goal's compilation against a session's names, its words laid
-- into a buffer, and its variables in a table.
use Rattle.std.specs.Prelude.{ℕ, ◌≤◌, ◌<◌, ◌≡◌, List, [], ◌∷◌, map, length, drop, Result, Ok, Err}
use Rattle.terms.specs.Term.{Term}
use Rattle.resolution.specs.Session.{Name, Compiled, refuses, compiles}
use Rattle.names.specs.Symbols.{Rows, Symbol, row_at, variables_of}
use Rattle.names.specs.Standing.{Stands}
use Rattle.patterns.specs.Promises.{LiesIn}
use Rattle.patterns.specs.Laying.{laid, lay}
use Rattle.sessions.specs.Storage.{names_in}
use Rattle.sessions.specs.Goals.{WrittenTerm, name_for, goal_compiled}
use Rattle.refusals.specs.Refusals.{number_of}
use Rattle.refusals.specs.declared.Refusal.{Refusal}
use Rattle.goals.specs.declared.Goal.{Goal}

-- What callers count with: the variables are the session's n names and the new ones, and the words are few.
abbrev pub Bounds : ℕ → Result Goal Refusal → Type 0
Bounds n (Err e) = Unit {0}
Bounds n (Ok g) = (n ≤ g.variables) × (g.variables ≤ 64) × (g.words ≤ 2048)

-- The goal p, which stands from the row `at` on and before q, compiled: its variables past the first n are the new names, which lie where
-- its rows have them, and its words are laid from the start on.
pub record GoalLaid (text : List ℕ) (rows : Rows) (at q n : ℕ) (w : List ℕ) (new : List Name) (p : Term) (g : Goal) (vx : Rows)
    (wx : List ℕ) : Type 0 where
  pub names : map name_for (drop n (variables_of text vx g.variables)) ≡ new
  pub places : (i : ℕ) → n ≤ i → i < g.variables → LiesIn rows at q (row_at vx i)
  pub lies : lay p w 0 ≡ laid (g.node ∷ []) wx g.words

-- What the definition says, and what the code answers and leaves.
abbrev pub Agrees : List ℕ → Rows → ℕ → ℕ → ℕ → List ℕ → Compiled → Result Goal Refusal → Rows → List ℕ → Type 0
Agrees text rows at q n w (refuses e) (Err o) vx wx = number_of o ≡ e
Agrees text rows at q n w (refuses e) (Ok g) vx wx = ⊥
Agrees text rows at q n w (compiles new p) (Err e) vx wx = ⊥
Agrees text rows at q n w (compiles new p) (Ok g) vx wx = GoalLaid text rows at q n w new p g vx wx

-- Whatever term stands at the row is compiled against all the names that are lent.
pub record GoalMade (text : List ℕ) (rows : Rows) (at : ℕ) (symbols : List Symbol) (names : Rows) (w : List ℕ) (r : Result Goal Refusal) (vx : Rows)
    (wx : List ℕ) : Type 0 where
  pub same : (t : WrittenTerm) (q : ℕ) → Stands text rows at t q
      → Agrees text rows at q (length names) w (goal_compiled symbols t (names_in text names (length names))) r vx wx

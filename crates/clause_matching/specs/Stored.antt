-- Values and environments in storage (docs/STORAGE.md, "Stored terms"). Values have no variables: they are stored terms with room for none, so that a reference
-- is an address. An environment has a number for each of 64 variables: 0 for none, else 1 + the reference of its value.
use Rattle.std.specs.Prelude.{ℕ, ◌+◌, ◌-◌, ◌≤◌, ◌<◌, ◌≡◌, true, List, get_or, length}
use Rattle.std.proofs.Math.Option.{Option, none, some}
use Rattle.terms.specs.Term.{Term}
use Rattle.terms.specs.Bindings.{Bindings, lookup}
use Rattle.arena.specs.Cells.{headers, cells, denote, Reference, WellFormed}
use Rattle.arena.specs.Copies.{pattern_room}
use Rattle.arena.specs.Form.{is_header, in_form}
use Rattle.resolution.specs.Search.{words}
-- The term of a pattern's reference.
pub use Rattle.attempts.specs.StoredRules.{pattern_of as pattern_at}

-- The value of a reference.
abbrev pub value_at : List ℕ → ℕ → Term
value_at values r = denote 0 (cells values) r

-- Is r the reference of a value among the first `used` words?
abbrev pub Value : List ℕ → ℕ → ℕ → Type 0
Value values used r = Reference 0 (cells values) 0 used r

-- The first `used` words are values.
pub record Values (values : List ℕ) (used : ℕ) : Type 0 where
  pub formed : WellFormed 0 (cells values) 0 used
  pub within : used ≤ length values
  pub low : used ≤ headers

-- The words in use of a pattern, and a reference into them whose term takes at most so many words.
pub record PatternIn (pattern : List ℕ) (size reference most : ℕ) : Type 0 where
  pub within : size ≤ length pattern
  pub low : pattern_room + size ≤ headers
  pub formed : WellFormed pattern_room (cells pattern) pattern_room size
  pub root : Reference pattern_room (cells pattern) pattern_room size reference
  pub small : words (pattern_at pattern reference) ≤ most

-- What a number of an environment says of its variable.
abbrev pub Valued : List ℕ → ℕ → ℕ → Option Term → Type 0
Valued values used e none = e ≡ 0
Valued values used e (some t) = (0 < e) × Value values used (e - 1) × (value_at values (e - 1) ≡ t)

-- An environment holds the values of the variables.
pub record Holds (environment values : List ℕ) (used : ℕ) (β : Bindings) : Type 0 where
  pub valued : (x : ℕ) → x < pattern_room → Valued values used (get_or environment x 0) (lookup β x)

-- Storage for comparing: a link for each word in use, all zero.
pub record Links (links : List ℕ) (used : ℕ) : Type 0 where
  pub long : used ≤ length links
  pub clear : (i : ℕ) → cells links i ≡ 0

-- Each header among a pattern's words is that of a symbol that has an arity, with this arity.
abbrev pub Headed : List ℕ → List ℕ → Type 0
Headed arities pattern = (a : ℕ) → headers ≤ cells pattern a → is_header arities (cells pattern a) ≡ true

-- The first `used` words are in form over the arities: nodes one behind another, each of a known symbol with its own arity.
abbrev pub Formed : List ℕ → List ℕ → ℕ → Type 0
Formed arities values used = in_form values 0 used 0 0 arities ≡ true

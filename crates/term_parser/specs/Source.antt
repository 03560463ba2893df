-- Source terms: the Rust's `Term`, where a name is its whole place in the text.
use Rattle.std.specs.Prelude.{ℕ, ◌+◌, List, [], ◌∷◌}

-- A start and a length.
pub data Place : Type 0 where
  place : ℕ → ℕ → Place

pub data Arity : Type 0 where
  one many : Arity

-- A term, or the terms that a name is applied to.
pub data Source : Arity → Type 0 where
  numeral : Place → ℕ → Source one
  metavariable : Place → Source one
  name : Place → Source one
  application : Place → Source many → Source one
  none : Source many
  more : Source one → Source many → Source many

-- A list of terms.
unfoldable pub all_of : List (Source one) → Source many
all_of [] = none
all_of (t ∷ ts) = more t (all_of ts)

-- One term more at the end.
unfoldable pub extend : Source many → Source one → Source many
extend none t = more t none
extend (more u us) t = more u (extend us t)

-- How many terms there are.
unfoldable pub count : Source many → ℕ
count none = 0
count (more t ts) = 1 + count ts

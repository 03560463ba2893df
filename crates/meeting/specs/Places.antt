-- The table of places (the Rust's `fresh`, whose map is filled as variables are met): by variable its place in meeting order.
use Rattle.std.specs.Prelude.{ℕ, zero, suc, ◌+◌, ◌<◌, ◌≡◌, ◌≢◌, Bool, true, false, ◌&&◌, cond, eqb, Option, Some, None, List, [], ◌∷◌, ◌++◌, get_or, length, set, map}
use Rattle.std.specs.Option.{unwrap_or, option_eq}
use Rattle.arena.specs.Copies.{pattern_room}
use Rattle.resolution.specs.Fresh.{elem, place}

-- Variables of patterns, none twice.
abbrev pub Variables : List ℕ → Type 0
Variables [] = Unit {0}
Variables (x ∷ e) = (x < pattern_room) × (elem x e ≡ false) × Variables e

-- The table has the place of each variable met, and none of another.
abbrev pub Placed : List ℕ → List (Option ℕ) → Type 0
Placed e table = (x : ℕ) → x < pattern_room → get_or table x None ≡ cond (elem x e) (Some (place e x)) None

-- Table and count are those of the variables e, in meeting order.
pub record Records (e : List ℕ) (table : List (Option ℕ)) (count : ℕ) : Type 0 where
  pub variables : Variables e
  pub placed : Placed e table
  pub counted : count ≡ length e

-- They are those of some variables.
abbrev pub Known : List (Option ℕ) → ℕ → Type 0
Known table count = ∥ ((e : List ℕ) × Records e table count) ∥₁

-- What meeting the variable x does to table and count.
pub record Given (table : List (Option ℕ)) (x count count' : ℕ) (table' : List (Option ℕ)) : Type 0 where
  -- without a place it gets the next,
  pub new : get_or table x None ≡ None → (count' ≡ count + 1) × (table' ≡ set table x (Some count))
  -- and with one it keeps it.
  pub old : get_or table x None ≢ None → (count' ≡ count) × (table' ≡ table)

-- Is a place this number?
abbrev pub is_place : Option ℕ → ℕ → Bool
is_place p x = option_eq eqb p (Some x)

-- Is the place of each variable below n its own number?
unfoldable pub in_order : List (Option ℕ) → ℕ → Bool
in_order table zero = true
in_order table (suc n) = is_place (get_or table n None) n && in_order table n

-- A table's places as numbers, as a rule's row has them; the room for variables is no variable's place.
abbrev pub place_numbers : List (Option ℕ) → List ℕ
place_numbers = map (λ (p : Option ℕ). unwrap_or p pattern_room)

-- The numbers below n, in order.
abbrev pub numbers_below : ℕ → List ℕ
numbers_below zero = []
numbers_below (suc n) = numbers_below n ++ (n ∷ [])

-- The part of a list at a place.
use Rattle.std.specs.Prelude.{cond, List, [], ℕ, ◌+◌, leb, length, take, drop}

-- A place outside the list gives the empty part.
abbrev pub part_of : {A : Type 0} → List A → ℕ → ℕ → List A
part_of t start n = cond (leb (start + n) (length t)) (take n (drop start t)) []

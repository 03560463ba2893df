-- Lists of bytes: ranges, prefixes, equality, and what stands before a place of a given kind.
use Rattle.std.specs.Prelude.{Bool, true, false, cond, ◌&&◌, ◌||◌, List, [], ◌∷◌, ℕ, leb, eqb}

-- Is c from low to high?
abbrev pub within : ℕ → ℕ → ℕ → Bool
within low high c = leb low c && leb c high

-- Is c one of these?
unfoldable pub one_of : List ℕ → ℕ → Bool
one_of [] c = false
one_of (a ∷ more) c = eqb c a || one_of more c

-- Does s start with w?
unfoldable pub starts_with : List ℕ → List ℕ → Bool
starts_with [] s = true
starts_with (a ∷ w) [] = false
starts_with (a ∷ w) (c ∷ s) = eqb c a && starts_with w s

-- Are v and w the same, byte by byte?
unfoldable pub same_bytes : List ℕ → List ℕ → Bool
same_bytes [] [] = true
same_bytes [] (b ∷ w) = false
same_bytes (a ∷ v) [] = false
same_bytes (a ∷ v) (b ∷ w) = eqb a b && same_bytes v w

-- What stands before the first place from which on p holds.
unfoldable pub up_to : (List ℕ → Bool) → List ℕ → List ℕ
up_to p [] = []
up_to p (c ∷ s) = cond (p (c ∷ s)) [] (c ∷ up_to p s)

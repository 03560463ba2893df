-- The order of names by which they are sorted: that of dictionaries, byte by byte. Any order in which two names that differ stand one before the other
-- would serve; what is decided in the end does not speak of it.
use Rattle.std.specs.Prelude.{◌≡◌, Bool, true, false, cond, [], ◌∷◌, ltb}
use Rattle.names.specs.Names.{Name}
use Rattle.std.specs.declared.cmp.Ordering.{Ordering}
use Rattle.std.specs.declared.cmp.Ordering.TheVariants.{Less, Equal, Greater}

-- a stands before b: by the first byte in which they differ, or because it ends first.
unfoldable pub is_before : Name → Name → Bool
is_before [] [] = false
is_before [] (y ∷ b) = true
is_before (x ∷ a) [] = false
is_before (x ∷ a) (y ∷ b) = cond (ltb x y) true (cond (ltb y x) false (is_before a b))

-- How a stands to b.
pub record Ordered (r : Ordering) (a b : Name) : Type 0 where
  pub before : r ≡ Less → is_before a b ≡ true
  pub same : r ≡ Equal → a ≡ b
  pub after : r ≡ Greater → is_before b a ≡ true

-- A limited search refuses, or comes to what the unlimited one comes to: bindings, proofs, steps, counter and words.
-- Here are the definitions; the theorems about them are in proofs/Limited.
use Rattle.std.specs.Prelude.{◌≡◌, ◌⊎◌}
use Rattle.resolution.specs.Search.{Result, refused}

-- Refused, or the same.
abbrev pub Matches : Result → Result → Type 0
Matches o o' = (o ≡ refused) ⊎ (o ≡ o')

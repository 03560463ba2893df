-- A law of lists read from the end.
use mathlib.Core.Path.{◌≡◌, ap, ◌∙◌}
use mathlib.Core.List.{List, reverse}
use Prim.Native.Nat.{ℕ, ◌-◌, ◌<◌}
use native.Mathlib.Omega.{arith}
use lib.ListN.{length, get_or}
use Rattle.std.proofs.lemmas.List.{length-reverse, get_or-reverse, get_or_default}

-- What is read k-th.
pub turn_back : (xs : List ℕ) (k x : ℕ) → (k < length (reverse xs)) × (x ≡ get_or (reverse xs) k x) → (k < length xs) × (x ≡ get_or xs (length xs - k - 1) 0)
turn_back xs k x h =
    let l : k < length xs = rw (length-reverse xs) at h.0 in
    let e : length xs - 1 - k ≡ length xs - k - 1 = omega arith in
    (l, h.1 ∙ get_or-reverse xs k x l ∙ ap (λ m. get_or xs m x) e ∙ get_or_default xs _ x 0 (omega (arith, l)))

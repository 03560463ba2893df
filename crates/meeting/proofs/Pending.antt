-- What is left to be met: the rows of the stack as a list of terms, the turns that they take, and what is met in lists one behind the other.
use Prim.Native.Nat.{ℕ, zero, suc, ◌+◌, ◌*◌, ◌≤◌, ◌<◌}
use native.Mathlib.Omega.{arith}
use mathlib.Core.Path.{◌≡◌, refl}
use mathlib.Core.List.{List, [], ◌∷◌}
use lib.ListN.{get_or, length, set}
use lib.Seq.{get_or-set_same, get_or-set_other}
use Rattle.terms.specs.Term.{nil, cons, Terms, append}
use Rattle.arena.specs.Cells.{Cells, args, denote}
use Rattle.arena.specs.Copies.{pattern_room}
use Rattle.arena.specs.Rows.{Rows, column}
use Rattle.resolution.specs.Fresh.{met}

-- The arguments left in the first d rows, those of the last row first.
abbrev pub unmet : Cells → Rows → ℕ → Terms
unmet w rows zero = nil
unmet w rows (suc d) = append (args (denote pattern_room w) w (column 0 rows d) (column 1 rows d)) (unmet w rows d)

-- The turns that the first d rows take: two for each argument left, and one to close the row.
abbrev pub turns : Rows → ℕ → ℕ
turns rows zero = 0
turns rows (suc d) = 2 * column 1 rows d + 1 + turns rows d

pub met_append : (ts us : Terms) (e : List ℕ) → met (append ts us) e ≡ met us (met ts e)
met_append nil us e = refl
met_append (cons t ts) us e = met_append ts us (met t e)

-- Rows written at d or above leave the first d rows as they are.
unmet_set : (w : Cells) (rows : Rows) (d i : ℕ) (row : List ℕ) → d ≤ i → unmet w (set rows i row) d ≡ unmet w rows d
unmet_set w rows zero i row l = refl
unmet_set w rows (suc d) i row l =
    let e : get_or (set rows i row) d [] ≡ get_or rows d [] = get_or-set_other rows i d row [] (λ q. omega arith) in
    rw (e, unmet_set w rows d i row (omega arith))

turns_set : (rows : Rows) (d i : ℕ) (row : List ℕ) → d ≤ i → turns (set rows i row) d ≡ turns rows d
turns_set rows zero i row l = refl
turns_set rows (suc d) i row l =
    let e : get_or (set rows i row) d [] ≡ get_or rows d [] = get_or-set_other rows i d row [] (λ q. omega arith) in
    rw (e, turns_set rows d i row (omega arith))

-- The row at d written anew.
pub unmet_put : (w : Cells) (rows : Rows) (d p n : ℕ) → d < length rows → unmet w (set rows d (p ∷ n ∷ [])) (suc d) ≡ append (args (denote pattern_room w) w p n) (unmet w rows d)
unmet_put w rows d p n l = rw (get_or-set_same rows d (p ∷ n ∷ []) [] l, unmet_set w rows d d (p ∷ n ∷ []) (omega arith))

pub turns_put : (rows : Rows) (d p n : ℕ) → d < length rows → turns (set rows d (p ∷ n ∷ [])) (suc d) ≡ 2 * n + 1 + turns rows d
turns_put rows d p n l = rw (get_or-set_same rows d (p ∷ n ∷ []) [] l, turns_set rows d d (p ∷ n ∷ []) (omega arith))

-- Laws of names in another order: a list in another order has the same counts, so that a name stands at two places there too.
use mathlib.Core.Path.{refl}
use Rattle.std.specs.List.{sum_by}
use Rattle.std.specs.List.Sorted.{IsPermutation}
use Rattle.std.proofs.Common.{◌≡◌, ℕ, zero, suc, ◌≤◌, ◌<◌, List, [], length, take, arith, add-one}
use Rattle.std.proofs.lemmas.List.Sums.{sum_by_more}
use Rattle.std.proofs.lemmas.List.Sorted.{sum_by-IsPermutation}
use Rattle.std.proofs.Math.Seq.{take-length}
use Rattle.names.specs.Names.{Name}
use Rattle.names.specs.Symbols.{Rows, sort_of}
use Rattle.distinct.specs.Sorting.{name_at, once, tally}
use Rattle.distinct.proofs.TallyLaws.{counted_two, two_places}

-- Some name stands at two places.
abbrev pub Repeated : List ℕ → Rows → Type 0
Repeated text rows = (i : ℕ) × (j : ℕ) × (i < j) × (j < length rows) × (name_at text rows i ≡ name_at text rows j)

-- The count of a name among the first k rows, added up row by row.
counts : List ℕ → Rows → Name → ℕ → ℕ
counts text rows w k = sum_by (λ row. once (sort_of text row) w) (take k rows)

counted : (text : List ℕ) (rows : Rows) (w : Name) (k : ℕ) → k ≤ length rows → counts text rows w k ≡ tally (name_at text rows) w k
unfolding counts tally name_at
counted text rows w zero l = refl
counted text rows w (suc k) l =
    let n = rw add-one at (sum_by_more (λ row. once (sort_of text row) w) rows k [] (omega arith)) in
    let r = counted text rows w k (omega arith) in
    omega arith

-- In another order the same names stand twice.
pub repeated_kept : (text : List ℕ) (xs ys : Rows) → IsPermutation xs ys → Repeated text xs → Repeated text ys
unfolding counts tally
repeated_kept text xs ys p (i, j, a, b, e) =
    let (w, two) = two_places (name_at text xs) 0 i j (length xs) (omega arith) a b e in
    let x = rw take-length at (counted text xs w (length xs) (omega arith)) in
    let y = rw take-length at (counted text ys w (length ys) (omega arith)) in
    let same : sum_by (λ row. once (sort_of text row) w) ys ≡ sum_by (λ row. once (sort_of text row) w) xs = sum_by-IsPermutation (λ row. once (sort_of text row) w) xs ys p in
    counted_two (name_at text ys) w (length ys) (omega arith)

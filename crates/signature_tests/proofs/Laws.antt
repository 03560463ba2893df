-- What was overwritten is put back.
use Rattle.std.proofs.Common.{◌≡◌, ◌<◌, ℕ, List, [], length, slice_index_or, slice_set, ap, ◌∙◌, set-set}
use Rattle.std.proofs.lemmas.List.{set-get_or, get_or-set_same}
use Rattle.signature_tests.specs.Damage.{Stands, number_at, changed, in_rows}
use Rattle.signature_tests.specs.declared.damage.LoadedSignature.{LoadedSignature}
use Rattle.signature_tests.specs.declared.damage.Spot.{Spot}
use Rattle.signature_tests.specs.declared.damage.Spot.TheVariants.{Sort, Symbol, Rule, Word}

rows_back : (rows : List (List ℕ)) (i column value : ℕ) → i < length rows → in_rows (in_rows rows i column value) i column (slice_index_or (slice_index_or rows i []) column 0) ≡ rows
rows_back rows i column value l =
    let row : List ℕ = slice_set (slice_index_or rows i []) column value in
    ap (λ (r : List ℕ). slice_set (slice_set rows i row) i (slice_set r column (slice_index_or (slice_index_or rows i []) column 0))) (get_or-set_same rows i row [] l)
    ∙ simp (set-set, set-get_or)

-- The storage is as it was once the number that stood at a place stands there again.
pub put_back : (spot : Spot) (l : LoadedSignature) (value : ℕ) → Stands spot l → changed spot (changed spot l value) (number_at spot l) ≡ l
put_back (Sort i column) l value h = ap (λ (rows : List (List ℕ)). record l { sorts = record l.sorts { now = rows } }) (rows_back l.sorts.now i column value h.0)
put_back (Symbol i column) l value h = ap (λ (rows : List (List ℕ)). record l { symbols = record l.symbols { now = rows } }) (rows_back l.symbols.now i column value h.0)
put_back (Rule i column) l value h = ap (λ (rows : List (List ℕ)). record l { rules = record l.rules { now = rows } }) (rows_back l.rules.now i column value h.0)
put_back (Word i) l value h = ap (λ (words : List ℕ). record l { words = record l.words { now = words } }) (simp (set-set, set-get_or))

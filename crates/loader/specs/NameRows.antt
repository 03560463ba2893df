-- Laws of declaration rows: the names of an arrow stand in the parser's rows, wherever these are.
use Rattle.std.specs.Prelude.{ℕ, suc, ◌≡◌, refl, List, [], ◌∷◌, ◌++◌, map, length}
use Rattle.std.proofs.Common.{arith, ap, ap₂, append_assoc, length-append}
use Rattle.std.proofs.Math.Seq.{get_or-append_seam}
use Rattle.words.specs.Names.{name_kind}
use Rattle.source_text.specs.Parts.{part_of}
use Rattle.term_parser.specs.Source.{Place, place}
use Rattle.term_parser.specs.Rows.{Rows, rows_of_all, name_rows}
use Rattle.term_parser.specs.Standing.{bytes_at}
use Rattle.names.specs.Names.{Name}
use Rattle.names.specs.Symbols.{column}
use Rattle.loader.specs.Arrows.{names_at}

-- The names in the rows of some places are the bytes at these places.
pub names_at_lem : (text : List ℕ) (before after : Rows) (ps : List Place) → names_at text (before ++ (rows_of_all name_rows ps ++ after)) (length before) (length ps) ≡ map (bytes_at text) ps
unfolding names_at rows_of_all
names_at_lem text before after [] = refl
names_at_lem text before after (place s n ∷ ps) =
    let r : List ℕ = name_kind ∷ s ∷ n ∷ 0 ∷ [] in
    let rest : Rows = rows_of_all name_rows ps ++ after in
    let e : (before ++ (r ∷ [])) ++ rest ≡ before ++ (r ∷ rest) = append_assoc before (r ∷ []) rest in
    let a = length-append before (r ∷ []) in
    let l : length (before ++ (r ∷ [])) ≡ suc (length before) = omega arith in
    let h : names_at text ((before ++ (r ∷ [])) ++ rest) (length (before ++ (r ∷ []))) (length ps) ≡ map (bytes_at text) ps = names_at_lem text (before ++ (r ∷ [])) after ps in
    let h₁ : names_at text (before ++ (r ∷ rest)) (length (before ++ (r ∷ []))) (length ps) ≡ map (bytes_at text) ps = rw e at h in
    let h₂ : names_at text (before ++ (r ∷ rest)) (suc (length before)) (length ps) ≡ map (bytes_at text) ps = rw l at h₁ in
    ap₂ (λ (x : Name) (xs : List Name). x ∷ xs) (ap (λ (row : List ℕ). part_of text (column row 1) (column row 2)) (get_or-append_seam before r rest [])) h₂

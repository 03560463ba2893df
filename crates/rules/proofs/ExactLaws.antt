-- Laws of the row that `keep` writes: it is the rule's own, number by number and place by place.
use mathlib.Core.Path.{◌≡◌, refl, sym, ap, ◌∙◌}
use mathlib.Core.Bool.{true}
use mathlib.Core.List.{List, [], ◌∷◌, map}
use Prim.Native.Nat.{ℕ, ◌+◌, ◌-◌, ◌≤◌}
use native.Mathlib.Omega.{arith}
use lib.ListN.{length, take, get_or, length-map}
use lib.Seq.{length-take-le, get_or-take, ext_get_or}
use Rattle.std.proofs.lemmas.List.{get_or-map}
use Rattle.terms.specs.Term.{count}
use Rattle.resolution.specs.Rules.{Rule}
use Rattle.resolution.specs.Fresh.{elem, met, place, head_vars, all_vars}
use Rattle.resolution.specs.Search.{words}
use Rattle.meeting.specs.Places.{numbers_below}
use Rattle.meeting.specs.PlaceLaws.{numbers_count, number_at}
use Rattle.rules.specs.CountLaws.{all_met}
use Rattle.rules.specs.StoredRows.{rule_row}
use Rattle.rules.specs.Layout.{references, rule_numbers, row_of}
use Rattle.rules.specs.LayoutLaws.{references_length}
use Rattle.rules.specs.declared.Title.{Title}

-- The first v places of the table are those of the variables in order.
pub places_exact : (R : Rule) (v : ℕ) → met R.conclusion (met R.premises []) ≡ numbers_below v → (table : List ℕ) → ((x : ℕ) → elem x (all_vars R) ≡ true → get_or table x 0 ≡ place (all_vars R) x)
    → v ≤ length table → take v table ≡ map (place (all_vars R)) (numbers_below v)
places_exact R v appear table placed long =
    let a : length (take v table) ≡ v = length-take-le v table long in
    let b : length (map (place (all_vars R)) (numbers_below v)) ≡ length (numbers_below v) = length-map (numbers_below v) (place (all_vars R)) in
    let c : length (numbers_below v) ≡ v = numbers_count v in
    ext_get_or 0 (take v table) (map (place (all_vars R)) (numbers_below v)) (omega arith)
    (λ i l. get_or-take v table i 0 (omega arith) ∙ placed i (all_met R v appear i (omega arith))
    ∙ ap (place (all_vars R)) (sym (number_at v i (omega arith))) ∙ sym (get_or-map (place (all_vars R)) (numbers_below v) i 0 0 (omega arith)))

-- The ten numbers.
numbers_exact : (title : Title) (R : Rule) (from middle used conclusion n v meets : ℕ) (heads : List ℕ)
    → heads ≡ references R.premises from → conclusion ∷ [] ≡ references R.conclusion middle → length R.sorts ≡ v → length heads ≡ n
    → middle ≡ from + words R.premises → used ≡ middle + words R.conclusion → meets ≡ length (head_vars R)
    → title.word.start ∷ title.word.size ∷ title.clause ∷ v ∷ n ∷ conclusion ∷ from ∷ (middle - from) ∷ (used - middle) ∷ meets ∷ [] ≡ rule_numbers title from R
numbers_exact title R from middle used conclusion n v meets heads hs ref many number m u counts =
    let a : n ≡ count R.premises = sym number ∙ ap length hs ∙ references_length R.premises from in
    let b : conclusion ≡ get_or (references R.conclusion (from + words R.premises)) 0 0 =
    ap (λ (l : List ℕ). get_or l 0 0) ref ∙ ap (λ (k : ℕ). get_or (references R.conclusion k) 0 0) m in
    let d : middle - from ≡ words R.premises = omega arith in
    let e : used - middle ≡ words R.conclusion = omega arith in
    rw (← many, a, b, d, e, counts) refl

-- The whole row.
pub row_exact : (title : Title) (R : Rule) (from middle used conclusion n v meets : ℕ) (heads sorts places : List ℕ)
    → heads ≡ references R.premises from → conclusion ∷ [] ≡ references R.conclusion middle → sorts ≡ R.sorts → length sorts ≡ v → length heads ≡ n
    → middle ≡ from + words R.premises → used ≡ middle + words R.conclusion → meets ≡ length (head_vars R) → places ≡ map (place (all_vars R)) (numbers_below v)
    → rule_row (title.word.start ∷ title.word.size ∷ title.clause ∷ v ∷ n ∷ conclusion ∷ from ∷ (middle - from) ∷ (used - middle) ∷ meets ∷ []) heads sorts places ≡ row_of title from R
unfolding row_of
row_exact title R from middle used conclusion n v meets heads sorts places hs ref ss many number m u counts ps =
    let l : length R.sorts ≡ v = ap length (sym ss) ∙ many in
    ap (λ (x : List ℕ). rule_row x heads sorts places) (numbers_exact title R from middle used conclusion n v meets heads hs ref l number m u counts)
    ∙ ap (λ (x : List ℕ). rule_row (rule_numbers title from R) x sorts places) hs
    ∙ ap (λ (x : List ℕ). rule_row (rule_numbers title from R) (references R.premises from) x places) ss
    ∙ ap (λ (x : List ℕ). rule_row (rule_numbers title from R) (references R.premises from) R.sorts x) (ps ∙ ap (λ (k : ℕ). map (place (all_vars R)) (numbers_below k)) (sym l))

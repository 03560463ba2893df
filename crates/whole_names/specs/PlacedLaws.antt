-- Stored rows keep each name at the place of its own declaration's word.
use Rattle.std.specs.Prelude.{ℕ, zero, suc, ◌+◌, ◌-◌, ◌<◌, ◌≡◌, refl, length, replicate}
use native.Mathlib.Omega.{arith}
use Rattle.std.proofs.Common.{sym, ap, ap₂, ◌∙◌}
use mathlib.Core.List.{List, [], ◌∷◌}
use Rattle.std.proofs.Math.ListN.{get_or, length-replicate, get_or-append}
use Rattle.std.proofs.lemmas.List.{length-map}
use Rattle.std.proofs.lemmas.List.Edits.{sets}
use Rattle.resolution.specs.Rules.{Rule}
use Rattle.resolution.specs.Fresh.{place as place_in, all_vars}
use Rattle.arena.specs.NodeLaws.{sets_below, sets_within}
use Rattle.meeting.specs.Places.{numbers_below}
use Rattle.term_parser.specs.Source.{Place, place}
use Rattle.names.specs.Symbols.{Rows, Symbol, column, row_at, no_symbol}
use Rattle.rules.specs.Layout.{references, rule_words, rule_numbers, row_of}
use Rattle.rules.specs.declared.Title.{Title}
use Rattle.loader.specs.Rows.{symbol_row}
use Rattle.loader.specs.Legal.{no_rule}
use Rattle.loader.specs.Stored.{sort_row, sort_rows, symbol_row_of, symbol_rows, rule_rows, padded}
use Rattle.loader.specs.StoredLaws.{symbol_rows_length, rule_rows_length}
use Rattle.whole_names.specs.Titles.{row_place, row_title, place_number, title_number}
use Rattle.whole_names.specs.ListLaws.{of_image}

-- What is padded begins with the list.
padded_at : {A : Type 0} (z d : A) (n : ℕ) (l m : List A) → m ≡ padded z n l → (i : ℕ) → i < length l → get_or m i d ≡ get_or l i d
padded_at {A} z d n l m e i h = ap (λ (r : List A). get_or r i d) e ∙ get_or-append l (replicate (n - length l) z) d i h

-- A sort's row

sort_row_place : (p : Place) → row_place (sort_row p) ≡ p
sort_row_place (place a n) = refl

pub sort_placed : (z : List ℕ) (n : ℕ) (ps : List Place) (rows : Rows) → rows ≡ padded z n (sort_rows ps) → (i : ℕ) → i < length ps
    → row_place (row_at rows i) ≡ place_number ps i
sort_placed z n ps rows e i h =
    let l : length (sort_rows ps) ≡ length ps = length-map ps sort_row in
    ap row_place (padded_at z [] n (sort_rows ps) rows e i (omega arith) ∙ sym (of_image sort_row ps (sort_rows ps) (place 0 0) [] refl i (omega arith)))
    ∙ sort_row_place (place_number ps i)

-- A symbol's row

symbol_row_place : (p : Place) (f : Symbol) → row_place (symbol_row_of p f) ≡ p
symbol_row_place (place a n) f =
    let row : List ℕ = symbol_row a n f.output f.function f.first f.clauses (length f.inputs) [] in
    ap₂ place (sets_below f.inputs row 8 0 (omega arith)) (sets_below f.inputs row 8 1 (omega arith))

symbol_rows_at : (ps : List Place) (fs : List Symbol) (i : ℕ) → i < length ps → i < length fs
    → get_or (symbol_rows ps fs) i [] ≡ symbol_row_of (get_or ps i (place 0 0)) (get_or fs i no_symbol)
unfolding symbol_rows
symbol_rows_at [] fs i h k = absurd (omega arith)
symbol_rows_at (p ∷ ps) [] i h k = absurd (omega arith)
symbol_rows_at (p ∷ ps) (f ∷ fs) zero h k = refl
symbol_rows_at (p ∷ ps) (f ∷ fs) (suc i) h k = symbol_rows_at ps fs i (omega arith) (omega arith)

pub symbol_placed : (z : List ℕ) (n : ℕ) (ps : List Place) (fs : List Symbol) (rows : Rows) → length ps ≡ length fs
    → rows ≡ padded z n (symbol_rows ps fs) → (i : ℕ) → i < length ps → row_place (row_at rows i) ≡ place_number ps i
symbol_placed z n ps fs rows same e i h =
    let l = symbol_rows_length ps fs same in
    ap row_place (padded_at z [] n (symbol_rows ps fs) rows e i (omega arith) ∙ symbol_rows_at ps fs i h (omega arith))
    ∙ symbol_row_place (place_number ps i) (get_or fs i no_symbol)

-- A rule's row

module _ (t : Title) (u : ℕ) (R : Rule) where
  abbrev places : List ℕ
  places = mathlib.Core.List.map (place_in (all_vars R)) (numbers_below (length R.sorts))

  abbrev first : List ℕ
  first = sets (replicate 154 0) 0 (rule_numbers t u R)

  abbrev second : List ℕ
  second = sets first 10 (references R.premises u)

  -- The first three numbers of a rule's row are its title.
  number_at : (k : ℕ) → k < 10 → column (row_of t u R) k ≡ get_or (rule_numbers t u R) k 0
  unfolding row_of
  number_at k h =
      let n = length-replicate {A = ℕ} 154 0 in
      let w : get_or first (0 + k) 0 ≡ get_or (rule_numbers t u R) k 0 = sets_within (rule_numbers t u R) (replicate 154 0) 0 k (omega arith) (omega arith) in
      let z : 0 + k ≡ k = omega arith in
      sets_below places (sets second 26 R.sorts) 90 k (omega arith) ∙ sets_below R.sorts second 26 k (omega arith)
      ∙ sets_below (references R.premises u) first 10 k h ∙ rw z at w

  rule_row_title : row_title (row_of t u R) ≡ t
  rule_row_title = rw (number_at 0 (omega arith), number_at 1 (omega arith), number_at 2 (omega arith)) refl

rule_rows_at : (ts : List Title) (Rs : List Rule) (u i : ℕ) → i < length ts → i < length Rs
    → (v : ℕ) × (get_or (rule_rows ts Rs u) i [] ≡ row_of (title_number ts i) v (get_or Rs i no_rule))
unfolding rule_rows
rule_rows_at [] Rs u i h k = absurd (omega arith)
rule_rows_at (t ∷ ts) [] u i h k = absurd (omega arith)
rule_rows_at (t ∷ ts) (R ∷ Rs) u zero h k = (u, refl)
rule_rows_at (t ∷ ts) (R ∷ Rs) u (suc i) h k = rule_rows_at ts Rs (u + length (rule_words u R)) i (omega arith) (omega arith)

pub rule_placed : (z : List ℕ) (n : ℕ) (ts : List Title) (Rs : List Rule) (rows : Rows) → length ts ≡ length Rs → rows ≡ padded z n (rule_rows ts Rs 0)
    → (i : ℕ) → i < length ts → row_title (row_at rows i) ≡ title_number ts i
rule_placed z n ts Rs rows same e i h =
    let l = rule_rows_length ts Rs 0 same in
    let r = rule_rows_at ts Rs 0 i h (omega arith) in
    ap row_title (padded_at z [] n (rule_rows ts Rs 0) rows e i (omega arith) ∙ r.1) ∙ rule_row_title (title_number ts i) r.0 (get_or Rs i no_rule)

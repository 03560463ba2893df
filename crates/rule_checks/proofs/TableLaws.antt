-- Laws of tables of places: in one that a term's walk left just the term's variables have one.
use mathlib.Core.Path.{◌≡◌, refl, sym, ◌∙◌}
use mathlib.Core.Bool.{Bool, true, false, not}
use Rattle.std.specs.List.{list_all}
use Rattle.std.specs.Prelude.{zip, ◌||◌, eqb, leb, EachIndex, slice_index}
use Rattle.std.specs.Option.{option_eq}
use Rattle.std.proofs.lemmas.Bool.{eq-eqb, lt-leb, leb-false}
use Rattle.arena.specs.Copies.{pattern_room}
use Rattle.unifier.specs.Promises.{Tells}
use Rattle.meeting.specs.Places.{is_place}
use Rattle.meeting.specs.PlaceLaws.{place_is}
use mathlib.Core.List.{List, [], ◌∷◌}
use Prim.Native.Nat.{ℕ, zero, suc, ◌≤◌, ◌<◌}
use native.Mathlib.Omega.{arith}
use lib.ListN.{length, get_or}
use Rattle.std.specs.Prelude.{Option, Some, None}
use Rattle.terms.specs.Numbers.{by_bool, true_false}
use Rattle.terms.specs.Term.{Kind, Syn, mem}
use Rattle.meeting.specs.Places.{Records}
use Rattle.meeting.specs.PlaceLaws.{placed_yes, placed_no}
use Rattle.resolution.specs.Fresh.{met, met_back, place}
use Rattle.rules.specs.CountLaws.{elem_met, all_met}
use Rattle.rule_checks.specs.RuleForm.{rule_in}
use Rattle.rule_checks.proofs.PartLaws.{each_passes}
use Rattle.names.specs.Symbols.{column}
use Rattle.rule_checks.specs.Steps.{PlacedWord, Placed, Listed, premises_of, conclusion_of, InOrder}

-- The table that a term's walk left.
module _ {k : Kind} (t : Syn k) {table : List (Option ℕ)} {count : ℕ} (h : Records (met t []) table count) (words : List ℕ) (from to : ℕ) where
  pub placed_listed : Placed words from to table → Listed words from to t
  placed_listed p a l m v = by_bool (mem (get_or words a 0) t) (λ q. q)
      (λ q. absurd (p a l m v (placed_no (met t []) table (get_or words a 0) h.placed v (elem_met (get_or words a 0) t [] ∙ q))))

  pub listed_placed : Listed words from to t → Placed words from to table
  listed_placed p a l m v q =
      let e = elem_met (get_or words a 0) t [] ∙ p a l m v in
      let b = placed_yes (met t []) table (get_or words a 0) h.placed v e in
      let z : ◌≡◌ {A = ℕ} 0 1 = cc in
      omega arith

-- The table that all walks left has each variable's place.
pub table_places : {pattern : List ℕ} {u : ℕ} {row : List ℕ} → InOrder pattern u row → column row 3 ≤ 64 → {table : List (Option ℕ)} {n : ℕ}
    → Records (met_back (premises_of pattern row) (met (conclusion_of pattern row) [])) table n
    → (x : ℕ) → x < column row 3 → get_or table x None ≡ Some (place (met_back (premises_of pattern row) (met (conclusion_of pattern row) [])) x)
table_places {pattern} {u} {row} o few {table} h x l =
    placed_yes (met_back (premises_of pattern row) (met (conclusion_of pattern row) [])) table x h.placed (omega arith)
    (all_met (rule_in [] pattern row) (column row 3) o.order x l)

-- The places beside the columns of a row.
places_columns : (table : List (Option ℕ)) (columns : List ℕ) → length columns ≤ length table → list_all (λ (p : Option ℕ × ℕ). is_place p.0 p.1) (zip table columns) ≡ true
    → (x : ℕ) → x < length columns → get_or table x None ≡ Some (get_or columns x 0)
places_columns table [] l h x k = absurd (omega arith)
places_columns [] (c ∷ columns) l h x k = absurd (omega arith)
places_columns (p ∷ table) (c ∷ columns) l h zero k = by_bool (is_place p c) (λ q. place_is p c q) (λ q. true_false h (rw q))
places_columns (p ∷ table) (c ∷ columns) l h (suc x) k = by_bool (is_place p c) (λ q. places_columns table columns (omega arith) (rw q at h) x (omega arith)) (λ q. true_false h (rw q))

columns_places : (table : List (Option ℕ)) (columns : List ℕ) → length columns ≤ length table → ((x : ℕ) → x < length columns → get_or table x None ≡ Some (get_or columns x 0))
    → list_all (λ (p : Option ℕ × ℕ). is_place p.0 p.1) (zip table columns) ≡ true
columns_places [] [] l h = refl
columns_places (p ∷ table) [] l h = refl
columns_places [] (c ∷ columns) l h = absurd (omega arith)
columns_places (p ∷ table) (c ∷ columns) l h =
    let q : p ≡ Some c = h 0 (omega arith) in
    rw (q, eq-eqb c c refl) (columns_places table columns (omega arith) (λ x k. h (suc x) (omega arith)))

pub columns_tell : (table : List (Option ℕ)) (columns : List ℕ) → length columns ≤ length table → {r : Bool} → r ≡ list_all (λ (p : Option ℕ × ℕ). is_place p.0 p.1) (zip table columns)
    → Tells r ((x : ℕ) → x < length columns → get_or table x None ≡ Some (get_or columns x 0))
columns_tell table columns l e = record { yes = λ q. places_columns table columns l (sym e ∙ q); back = λ h. e ∙ columns_places table columns l h }

-- Is a word no variable, or one with a place?
abbrev pub is_placed : List (Option ℕ) → ℕ → Bool
is_placed table word = leb pattern_room word || not (option_eq eqb (get_or table word None) None)

placed_word : (table : List (Option ℕ)) (word : ℕ) → is_placed table word ≡ true → PlacedWord table word
placed_word table word h l n = true_false h (rw (lt-leb pattern_room word l, n) refl)

word_placed : (table : List (Option ℕ)) (word : ℕ) → PlacedWord table word → is_placed table word ≡ true
word_placed table word h = by_bool (leb pattern_room word) (λ q. rw q refl) (λ q. go (get_or table word None) refl q)
  where
    go : (p : Option ℕ) → get_or table word None ≡ p → leb pattern_room word ≡ false → is_placed table word ≡ true
    go None e q = absurd (h (leb-false pattern_room word q) e)
    go (Some p) e q = rw (q, e) refl

pub placed_words : (table : List (Option ℕ)) (words : List ℕ) (r : Bool) → r ≡ list_all (is_placed table) words
    → Tells r (EachIndex words (λ k. PlacedWord table (slice_index words k)))
placed_words table words r e =
    let t = each_passes (is_placed table) (PlacedWord table) (placed_word table) (word_placed table) words r e in
    record { yes = t.0; back = t.1 }

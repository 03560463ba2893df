-- Laws of a rule that is kept: its terms can be walked through, and its row is what `Kept` says.
use mathlib.Core.Path.{◌≡◌, refl, sym, ap, ◌∙◌, subst}
use mathlib.Core.Bool.{true}
use mathlib.Core.List.{List, [], ◌∷◌}
use Rattle.std.specs.Prelude.{Option}
use Prim.Native.Nat.{ℕ, zero, suc, ◌+◌, ◌-◌, ◌≤◌, ◌<◌}
use native.Mathlib.Omega.{arith}
use lib.ListN.{length, take, get_or}
use lib.Seq.{length-take-le, get_or-take}
use Rattle.terms.specs.Term.{Term, Terms}
use Rattle.arena.specs.Cells.{reference_up, terms_of}
use Rattle.arena.specs.Copies.{pattern_room}
use Rattle.resolution.specs.Rules.{Rule}
use Rattle.resolution.specs.Fresh.{elem, met, met_back, place, head_vars, all_vars}
use Rattle.resolution.specs.Search.{words}
use Rattle.meeting.specs.Places.{Records, numbers_below}
use Rattle.meeting.specs.Contract.{term_of}
use Rattle.names.specs.Symbols.{column, columns}
use Rattle.rules.specs.LayingLaws.{RuleLying, lying_one, rule_same}
use Rattle.rules.specs.CountLaws.{all_count, all_below}
use Rattle.rules.specs.StoredRows.{titled, rule_row, heads_in, places_in, Kept}
use Rattle.rules.specs.Promises.{RootAsked, OrderAsked, Ordered}
use Rattle.rules.proofs.ColumnLaws.{number_at, heads_at, heads_past, sorts_at, sorts_past, places_at, places_past, filled}

-- One of several terms takes no more words than all.
words_one : (g : ℕ → Term) (rs : List ℕ) (i : ℕ) → i < length rs → words (g (get_or rs i 0)) ≤ words (terms_of g rs)
words_one g [] i l = absurd (omega arith)
words_one g (r ∷ rs) zero l = omega arith
words_one g (r ∷ rs) (suc i) l = let h = words_one g rs i (omega arith) in omega arith

-- A rule lies so in the words in use, lent as a part.
pub lying_used : (pattern heads : List ℕ) {arities : List ℕ} {R : Rule} {from middle used conclusion : ℕ}
    → RuleLying arities R pattern from heads middle conclusion used → RuleLying arities R (take used pattern) from heads middle conclusion used
lying_used pattern heads {used = used} lying =
    let long = length-take-le used pattern lying.conclusion.there in
    rule_same (λ i l. sym (get_or-take used pattern i 0 l)) (omega (arith, long)) lying

module _ (heads : List ℕ) {arities : List ℕ} {R : Rule} {pattern : List ℕ} {from middle used conclusion : ℕ}
    (lying : RuleLying arities R pattern from heads middle conclusion used) where
  pub conclusion_is : term_of pattern conclusion ≡ R.conclusion
  conclusion_is = lying_one lying.conclusion

  pub premises_are : terms_of (term_of pattern) heads ≡ R.premises
  premises_are = lying.premises.denotes

  module _ (up : from ≤ middle) where
    head_met : RootAsked pattern used conclusion (used - from)
    head_met =
        let u = lying.conclusion.used in
        record { root = lying.conclusion.reference 0 (omega arith); small = rw conclusion_is (omega arith) }

    body_met : (i : ℕ) → i < length heads → RootAsked pattern used (get_or heads i 0) (used - from)
    body_met i l =
        let u = lying.premises.used in
        let v = lying.conclusion.used in
        let w : words (term_of pattern (get_or heads i 0)) ≤ words (terms_of (term_of pattern) heads) = words_one (term_of pattern) heads i l in
        let w' : words (term_of pattern (get_or heads i 0)) ≤ words R.premises = rw premises_are at w in
        record {
          root = reference_up pattern_room (omega arith) (omega arith) (lying.premises.reference i l);
          small = omega arith;
        }

    -- A rule's terms take no more words than lie between its first and its last.
    pub order_asked : OrderAsked pattern used heads conclusion (used - from)
    order_asked =
        record {
          within = lying.conclusion.there;
          low = lying.conclusion.small;
          formed = lying.conclusion.formed;
          head = head_met;
          body = body_met;
        }

  -- The places that the walk left.
  pub all_recorded : {table : List (Option ℕ)} {met_first count : ℕ} → Ordered pattern heads conclusion met_first table count
      → (met_first ≡ length (head_vars R)) × Records (all_vars R) table count
  all_recorded {table} {met_first} {count} h = (
    h.counted ∙ ap (λ (t : Term). length (met t [])) conclusion_is,
    subst (λ (t : Term). Records (met_back R.premises (met t [])) table count) conclusion_is
        (subst (λ (ts : Terms). Records (met_back ts (met (term_of pattern conclusion) [])) table count) premises_are h.recorded),
  )

  -- The row.
  module _ (text : List ℕ) (v start size clause : ℕ) (sorts table' : List ℕ) (first : ℕ) (rising : (from ≤ middle) × (middle ≤ used)) (n-few : length heads ≤ 16)
      (v-few : v ≤ 64) (long : length table' ≡ 64) (many : length sorts ≡ v) (named : titled text start size clause ≡ R.name) (sorted : sorts ≡ R.sorts)
      (appear : met R.conclusion (met R.premises []) ≡ numbers_below v) (counts : first ≡ length (head_vars R)) (placed : (x : ℕ) → elem x (all_vars R) ≡ true → get_or table' x 0 ≡ place (all_vars R) x) where
    abbrev numbers : List ℕ
    numbers = start ∷ size ∷ clause ∷ v ∷ length heads ∷ conclusion ∷ from ∷ (middle - from) ∷ (used - middle) ∷ first ∷ []

    abbrev row : List ℕ
    row = filled numbers heads sorts (take v table') refl n-few (rw many v-few)
        (rw (length-take-le v table' (rw long v-few)) v-few)

    places_long : length (take v table') ≡ v
    places_long = length-take-le v table' (rw long v-few)

    at : (k : ℕ) → k < 10 → column row k ≡ get_or numbers k 0
    at k l = number_at numbers heads sorts (take v table') refl n-few (rw many v-few) (rw places_long v-few) k l

    heads_are : heads_in row ≡ heads
    heads_are = ap (columns row 10) (at 4 (omega arith)) ∙ heads_at numbers heads sorts (take v table') refl n-few (rw many v-few) (rw places_long v-few)

    places_are : places_in row ≡ take v table'
    places_are = ap (columns row 90) (at 3 (omega arith) ∙ sym places_long) ∙ places_at numbers heads sorts (take v table') refl n-few (rw many v-few) (rw places_long v-few)

    sorts_are_lem : columns row 26 (column row 3) ≡ sorts
    sorts_are_lem = ap (columns row 26) (at 3 (omega arith) ∙ sym many) ∙ sorts_at numbers heads sorts (take v table') refl n-few (rw many v-few) (rw places_long v-few)

    pub row_kept : Kept text arities pattern row R from used
    row_kept =
        let a3 : column row 3 ≡ v = at 3 (omega arith) in
        let a4 : column row 4 ≡ length heads = at 4 (omega arith) in
        let a7 : column row 7 ≡ middle - from = at 7 (omega arith) in
        let a8 : column row 8 ≡ used - middle = at 8 (omega arith) in
        let pl = places_long in
        record {
          named = rw (at 0 (omega arith), at 1 (omega arith), at 2 (omega arith)) named;
          sorted = sorts_are_lem ∙ sorted;
          lying = (let m : from + column row 7 ≡ middle = omega arith in rw (heads_are, m, at 5 (omega arith)) lying);
          from = at 6 (omega arith);
          to = omega arith;
          meets = at 9 (omega arith) ∙ counts;
          variables = a3 ∙ sym (all_count R v appear);
          few = omega arith;
          placed = λ x h. ap (λ (l : List ℕ). get_or l x 0) places_are ∙ get_or-take v table' x 0 (all_below R v appear x h) ∙ placed x h;
          premises = omega arith;
          heads_clear = λ j l k. heads_past numbers heads sorts (take v table') refl n-few (rw many v-few) (rw places_long v-few) j (omega arith) k;
          sorts_clear_lem = λ j l k. sorts_past numbers heads sorts (take v table') refl n-few (rw many v-few) (rw places_long v-few) j (omega arith) k;
          places_clear = λ j l k. places_past numbers heads sorts (take v table') refl n-few (rw many v-few) (rw places_long v-few) j (omega arith) k;
        }

-- The numbers at the row's beginning.
pub title_at_lem : (v : ℕ) (numbers heads sorts table : List ℕ) → length numbers ≡ 10 → length heads ≤ 16 → length sorts ≡ v → v ≤ 64 → length table ≡ 64 → (k : ℕ) → k < 10
    → column (rule_row numbers heads sorts (take v table)) k ≡ get_or numbers k 0
title_at_lem v numbers heads sorts table ten few many small long k l =
    let b : length (take v table) ≡ v = length-take-le v table (omega arith) in
    number_at numbers heads sorts (take v table) ten few (omega arith) (omega arith) k l

-- The parts of a rule's row that are lent to an attempt are the references of its premises and the places of its variables.
use Rattle.std.specs.Prelude.{ℕ, ◌+◌, ◌-◌, ◌≤◌, ◌≡◌, length, take, drop}
use Rattle.std.proofs.Common.{arith, sym, ◌∙◌}
use Rattle.std.proofs.Math.Path.{ap₂}
use mathlib.Core.List.{List}
use Rattle.arena.specs.Copies.{pattern_room, term_room, moved, Movable}
use Rattle.arena.specs.Rows.{Rows}
use Rattle.names.specs.Symbols.{column, row_at}
pub use Rattle.names.specs.SearchLaws.{part_columns}
use Rattle.rules.specs.StoredRows.{heads_in, places_in, stored_in}
use Rattle.attempts.specs.Promises.{Asked, Attempted}
use Rattle.attempts.specs.declared.Stored.{Stored}
use Rattle.search_machine.specs.Storage.{RowAsked, RowTried, PremiseAsked, Attempt}
use Rattle.search_machine.specs.State.{premise_ref}
use Rattle.search_machine.specs.declared.frames.Frame.{Frame}

-- The places of a rule's variables are the part of its row that is lent.
pub places_lent : (row : List ℕ) → column row 3 ≤ 64 → length row ≡ 154 → take (90 + column row 3 - 90) (drop 90 row) ≡ places_in row
places_lent row few long = part_columns row 90 (column row 3) (omega arith)

-- An attempt with the parts is one with the rule.
module _ {most limit : ℕ} {pattern : List ℕ} {rules : Rows} {words : List ℕ} {rows links marks stack : Rows} {counter used bound goal r : ℕ}
    (asked : RowAsked most limit pattern rules words rows links marks stack counter used bound goal r) {heads places : List ℕ} {stored : Stored}
    (lent : heads ≡ heads_in (row_at rules r)) (placed : places ≡ places_in (row_at rules r)) (is : stored ≡ stored_in (row_at rules r)) where
  pub parts_asked : Asked most limit pattern heads places stored words rows links marks stack counter used bound goal
  parts_asked = rw (is, placed, lent) asked.asked

  pub parts_tried : {words' : List ℕ} {rows' links' marks' stack' : Rows} {answer : Attempt}
      → Attempted most limit pattern heads places stored words words' rows rows' links links' marks marks' stack stack' counter used bound goal answer
      → RowTried most limit pattern rules words words' rows rows' links links' marks marks' stack stack' counter used bound goal r answer
  parts_tried h = rw (is, placed, lent) at h

-- What was tried with a workspace was tried with the buffers that it was made of.
pub tried_lent : {most limit : ℕ} {pattern premises places : List ℕ} {stored : Stored} {words words' : List ℕ} {rows rows' links links' links'' marks marks' marks'' stack stack' stack'' : Rows}
    {counter used bound goal : ℕ} {answer : Attempt} → links'' ≡ links' → marks'' ≡ marks' → stack'' ≡ stack'
    → Attempted most limit pattern premises places stored words words' rows rows' links links' marks marks' stack stack' counter used bound goal answer
    → Attempted most limit pattern premises places stored words words' rows rows' links links'' marks marks'' stack stack'' counter used bound goal answer
tried_lent p q o h = rw (p, q, o) h

-- The word of a premise can be moved by the part of the row that has the places.
module _ {rules : Rows} {x : Frame} {k : ℕ} (asked : PremiseAsked rules x k) (long : length (row_at rules x.rule) ≡ 154) where
  pub premise_lent : Movable (take (90 + column (row_at rules x.rule) 3 - 90) (drop 90 (row_at rules x.rule))) x.counter
      (pattern_room + column (row_at rules x.rule) 6)
      (term_room + (x.used + column (row_at rules x.rule) 8)) (column (row_at rules x.rule) (10 + k))
  premise_lent = rw (places_lent (row_at rules x.rule) asked.variables long) asked.movable

-- The word of a premise, moved by the places.
pub premise_is : {rules : Rows} {x : Frame} {k r : ℕ} {places : List ℕ} → PremiseAsked rules x k → places ≡ places_in (row_at rules x.rule)
    → r ≡ moved places x.counter (pattern_room + column (row_at rules x.rule) 6) (term_room + (x.used + column (row_at rules x.rule) 8))
    (column (row_at rules x.rule) (10 + k))
    → r ≡ premise_ref rules x k
unfolding premise_ref
premise_is {rules} {x} {k} asked lent e =
    e ∙ ap₂ (λ (p : List ℕ) (w : ℕ). moved p x.counter (pattern_room + column (row_at rules x.rule) 6)
    (term_room + (x.used + column (row_at rules x.rule) 8)) w) lent (sym asked.premise)

-- The same of a row that is the rule's.
pub premise_of : {rules : Rows} {x : Frame} {k r : ℕ} {places row : List ℕ} → PremiseAsked rules x k → row_at rules x.rule ≡ row
    → places ≡ places_in row
    → r ≡ moved places x.counter (pattern_room + column row 6) (term_room + (x.used + column row 8)) (column row (10 + k))
    → r ≡ premise_ref rules x k
premise_of {places = places} asked is lent e = premise_is {places = places} asked (rw is lent) (rw is e)

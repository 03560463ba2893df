-- Laws of a signature's rule: a part of the pattern's words that `check_words` accepts can be copied, and its conclusion and premises are references of
-- the part.
use Rattle.std.specs.Prelude.{ℕ, ◌+◌, ◌-◌, ◌≤◌, ◌<◌, ◌≡◌, true, List, get_or, length}
use Rattle.std.proofs.Common.{arith}
use Rattle.arena.specs.Cells.{headers, cells}
use Rattle.arena.specs.Copies.{pattern_room, Movable, Copyable, PartReference}
use Rattle.arena.specs.Form.{in_form}
use Rattle.arena.specs.FormLaws.{form_words}

-- A part with k variables, accepted, copied to where there is room; each of its variables has a place, and a number that has room.
pub form_copyable : (pattern : List ℕ) (from count k : ℕ) (arities places words : List ℕ) (room used counter : ℕ) → from + count ≤ length pattern
    → pattern_room + from + count ≤ headers → in_form pattern from (from + count) pattern_room k arities ≡ true → used + count ≤ length words → room + used + count ≤ headers
    → k ≤ length places
    → ((i : ℕ) → i < count → get_or pattern (from + i) 0 < pattern_room → counter + get_or places (get_or pattern (from + i) 0) 0 < room)
    → Copyable pattern from count places words room used counter
form_copyable pattern from count k arities places words room used counter part low accept space small few number =
    let each = form_words pattern from (from + count) pattern_room k arities (omega arith) part (omega arith) accept in
    record {
      part = part;
      space = space;
      low = low;
      small = small;
      listed = λ i l v. let n = (each i (omega arith)).variable v in omega arith;
      number = number;
      inside = λ i l v h. (each i (omega arith)).from_on v h;
      address = λ i l v h. let n = (each i (omega arith)).below v h in omega arith;
    }

-- The reference of a node of the part, as a rule's conclusion and its premises are.
module _ (pattern : List ℕ) (from count : ℕ) (places words : List ℕ) (room used counter nv r : ℕ) (asked : Copyable pattern from count places words room used counter)
    (from_on : pattern_room + from ≤ r) (below : r < pattern_room + from + count) (header : headers ≤ get_or pattern (r - pattern_room) 0) where
  pub root_reference : PartReference places counter nv from (cells pattern) count r
  root_reference = record
      { variable = λ v. let z : ⊥ = omega arith in absurd z; from_on = λ v. from_on; node = λ v. below; header = λ v. header }

  -- It can be moved by `moved_word`.
  pub root_movable : Movable places counter (pattern_room + from) (room + used) r
  root_movable =
      let s = asked.small in
      record {
        listed = λ v. let z : ⊥ = omega arith in absurd z;
        number = λ v. let z : ⊥ = omega arith in absurd z;
        inside = λ v h. from_on;
        address = λ v h. omega arith;
      }

-- Instances by copying (the Rust's `inst` and `fresh`). A signature's patterns are words in the same form, with room for 64 variables; one rule's words
-- are a part of them, and refer to nothing outside that part. Copied behind a search's words, each variable gets a new number by its place, and each
-- address moves by one constant.
use Rattle.std.specs.Prelude.{ℕ, ◌+◌, ◌-◌, ◌≤◌, ◌<◌, cond, List, map, get_or, length}
use Rattle.std.proofs.Math.Seq.{slice}
use Rattle.terms.specs.Numbers.{less}
use Rattle.terms.specs.Term.{Subst, var}
use Rattle.arena.specs.Cells.{headers, Cells}

-- The room for variables in patterns: a rule has at most 64.
abbrev pub pattern_room : ℕ
pattern_room = 64

-- The room for variables in the words of a session: at most 65,536. It is the same under every limit on variables, so that the same words always
-- denote the same terms.
abbrev pub term_room : ℕ
term_room = 65536

-- A pattern's word, moved: variable x becomes the number counter + its place; the reference `first` becomes `base`, and those above it follow; a header
-- stays.
unfoldable pub moved : List ℕ → ℕ → ℕ → ℕ → ℕ → ℕ
moved places counter first base x = cond (less x pattern_room) (counter + get_or places x 0) (cond (less x headers) (base + (x - first)) x)

-- The words that are written for the part of `count` words from the address `from` on, when they are copied to the address `used` of words with room
-- for `room` variables.
abbrev pub copied : List ℕ → ℕ → ℕ → List ℕ → ℕ → ℕ → ℕ → List ℕ
copied pattern from count places room used counter =
    map (moved places counter (pattern_room + from) (room + used)) (slice from (from + count) pattern)

-- The substitution that copying carries out: for variable x the variable whose number is counter + the place of x.
abbrev pub numbered : List ℕ → ℕ → Subst
numbered places counter x = var (counter + get_or places x 0)

-- What moving one word asks, so that no sum is too large.
pub record Movable (places : List ℕ) (counter first base x : ℕ) : Type 0 where
  -- a variable has a place,
  pub listed : x < pattern_room → x < length places
  -- and its number fits;
  pub number : x < pattern_room → counter + get_or places x 0 < headers
  -- a node lies in the part,
  pub inside : pattern_room ≤ x → x < headers → first ≤ x
  -- and its new reference fits.
  pub address : pattern_room ≤ x → x < headers → base + (x - first) < headers

-- What copying a part asks: there is room, and each of its words is a header, a variable or a reference to a node of the part.
pub record Copyable (pattern : List ℕ) (from count : ℕ) (places words : List ℕ) (room used counter : ℕ) : Type 0 where
  -- the part lies in the pattern,
  pub part : from + count ≤ length pattern
  -- and the copy in the words;
  pub space : used + count ≤ length words
  -- all references are below the headers, the pattern's and the new ones;
  pub low : pattern_room + from + count ≤ headers
  pub small : room + used + count ≤ headers
  -- a variable has a place,
  pub listed : (i : ℕ) → i < count → get_or pattern (from + i) 0 < pattern_room → get_or pattern (from + i) 0 < length places
  -- and a new number that has room;
  pub number : (i : ℕ) → i < count → get_or pattern (from + i) 0 < pattern_room → counter + get_or places (get_or pattern (from + i) 0) 0 < room
  -- a node is not before the part,
  pub inside : (i : ℕ) → i < count → pattern_room ≤ get_or pattern (from + i) 0 → get_or pattern (from + i) 0 < headers → pattern_room + from ≤ get_or pattern (from + i) 0
  -- and not behind it.
  pub address : (i : ℕ) → i < count → pattern_room ≤ get_or pattern (from + i) 0 → get_or pattern (from + i) 0 < headers
      → get_or pattern (from + i) 0 < pattern_room + from + count

-- A reference of the part that starts at `from`, to one of its first n words: a variable whose new number is below nv, or a node's.
pub record PartReference (places : List ℕ) (counter nv from : ℕ) (pattern : Cells) (n r : ℕ) : Type 0 where
  -- a variable's new number is below nv;
  pub variable : r < pattern_room → counter + get_or places r 0 < nv
  -- a node is not before the part,
  pub from_on : pattern_room ≤ r → pattern_room + from ≤ r
  -- is among its first n words,
  pub node : pattern_room ≤ r → r < pattern_room + from + n
  -- and has a header.
  pub header : pattern_room ≤ r → headers ≤ pattern (r - pattern_room)

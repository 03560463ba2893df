-- What the pattern of a reference says of it.
use Prim.Native.Nat.{ℕ, ◌+◌, ◌-◌, ◌≤◌, ◌<◌}
use native.Mathlib.Omega.{arith}
use mathlib.Core.Path.{◌≡◌, sym, ◌∙◌}
use mathlib.Core.List.{List}
use lib.ListN.{length, get_or, take, drop, length-drop}
use lib.Seq.{get_or-take, get_or-drop, length-take-le}
use Rattle.std.specs.Option.{SomeIff}
use Rattle.std.specs.Prelude.{Option, None, Some}
use Rattle.terms.specs.Numbers.{by_less}
use Rattle.arena.specs.Cells.{headers, cells}
use Rattle.arena.specs.Copies.{pattern_room}
use Rattle.clause_matching.specs.Stored.{PatternIn}
use Rattle.clause_matching.specs.Choice.{Referable, pattern_from}
use Rattle.clause_matching.specs.declared.references.Pattern.{Pattern}
use Rattle.clause_matching.specs.declared.references.Pattern.TheVariants.{Variable, Node}

-- What is left of a reference past the room for variables is a node's address; where nothing is left, it is a variable.
module _ (reference : ℕ) {r : Option ℕ} (s : SomeIff r (pattern_room ≤ reference) (reference - pattern_room)) where
  pub is_low : r ≡ None → reference < pattern_room
  is_low q = let n = rw q at s in omega arith

  pub is_high : {address : ℕ} → r ≡ Some address → (pattern_room ≤ reference) × (address ≡ reference - pattern_room)
  is_high q = rw q at s

  pub back : {address : ℕ} → r ≡ Some address → address + pattern_room ≡ reference
  back q = let (l, e) = is_high q in omega arith

module _ (pattern : List ℕ) (reference : ℕ) {r : Pattern} (e : r ≡ pattern_from pattern reference) where
  pub variable_is : (index : ℕ) → r ≡ Variable index → (reference < pattern_room) × (index ≡ reference)
  variable_is index q = by_less reference pattern_room
      (λ l t. let p : Variable index ≡ Variable reference = sym q ∙ rw t at e in (l, cc))
      (λ l t. let p : Variable index ≡ Node (cells pattern (reference - pattern_room)) (reference - pattern_room + 1) = sym q ∙ rw t at e in
      absurd (let z : ⊥ = cc in z))

  pub node_is : (header first : ℕ) → r ≡ Node header first
      → (pattern_room ≤ reference) × (header ≡ cells pattern (reference - pattern_room)) × (first ≡ reference - pattern_room + 1)
  node_is header first q = by_less reference pattern_room
      (λ l t. let p : Node header first ≡ Variable reference = sym q ∙ rw t at e in absurd (let z : ⊥ = cc in z))
      (λ l t. let p : Node header first ≡ Node (cells pattern (reference - pattern_room)) (reference - pattern_room + 1) = sym q ∙ rw t at e in
      (l, cc, cc))

-- A pattern in storage may be asked for.
pub in_storage : {pattern : List ℕ} {size reference most : ℕ} → PatternIn pattern size reference most → Referable pattern reference
in_storage {pattern} {size} {reference} p = (
  λ v. let n = p.root.node v in let w = p.within in omega arith,
  by_less reference pattern_room (λ l t. let z : reference < headers = omega arith in z)
      (λ l t. let n = p.root.node l in let b = p.low in let z : reference < headers = omega arith in z),
)

-- The part of n references from an address on, as it is lent.
pub part_long : (pattern : List ℕ) (first n : ℕ) → first + n ≤ length pattern → length (take (first + n - first) (drop first pattern)) ≡ n
part_long pattern first n l =
    let e : first + n - first ≡ n = omega arith in
    let d = length-drop first pattern in
    rw e (length-take-le n (drop first pattern) (omega arith))

pub part_cell : (pattern : List ℕ) (first n k : ℕ) → k < n → get_or (take (first + n - first) (drop first pattern)) k 0 ≡ cells pattern (first + k)
part_cell pattern first n k l =
    let e : first + n - first ≡ n = omega arith in
    rw e (get_or-take n (drop first pattern) k 0 l) ∙ get_or-drop first pattern k 0

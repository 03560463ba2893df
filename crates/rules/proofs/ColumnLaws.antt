-- Laws of a rule's row: what stands in its columns.
use mathlib.Core.Path.{◌≡◌, ◌∙◌}
use mathlib.Core.List.{List}
use Prim.Native.Nat.{ℕ, ◌+◌, ◌≤◌, ◌<◌}
use native.Mathlib.Omega.{arith}
use lib.ListN.{length, get_or, replicate, length-replicate}
use lib.Seq.{sets, length-sets}
use Rattle.arena.specs.NodeLaws.{sets_below, sets_within, sets_past}
use Rattle.names.specs.Symbols.{column, columns}
use Rattle.names.specs.SearchLaws.{columns_are, zero_at}
use Rattle.rules.specs.StoredRows.{rule_row}

module _ (numbers heads sorts places : List ℕ) (ten : length numbers ≡ 10) (few : length heads ≤ 16) (some : length sorts ≤ 64) (as_many : length places ≤ 64) where
  abbrev Z : List ℕ
  Z = replicate 154 0

  abbrev A : List ℕ
  A = sets Z 0 numbers

  abbrev B : List ℕ
  B = sets A 10 heads

  abbrev C : List ℕ
  C = sets B 26 sorts

  abbrev pub filled : List ℕ
  filled = rule_row numbers heads sorts places

  long_Z : length Z ≡ 154
  long_Z = length-replicate {A = ℕ} 154 0

  long_A : length A ≡ 154
  long_A = length-sets Z 0 numbers ∙ long_Z

  long_B : length B ≡ 154
  long_B = length-sets A 10 heads ∙ long_A

  long_C : length C ≡ 154
  long_C = length-sets B 26 sorts ∙ long_B

  -- From the places back to the sorts, the references and the numbers.
  before_places : (k : ℕ) → k < 90 → column filled k ≡ column C k
  before_places k l = sets_below places C 90 k l

  before_sorts : (k : ℕ) → k < 26 → column filled k ≡ column B k
  before_sorts k l = before_places k (omega arith) ∙ sets_below sorts B 26 k l

  pub number_at : (k : ℕ) → k < 10 → column filled k ≡ get_or numbers k 0
  number_at k l =
      let n = long_Z in
      let z : 0 + k ≡ k = omega arith in
      let w : get_or A (0 + k) 0 ≡ get_or numbers k 0 = sets_within numbers Z 0 k (omega arith) (omega arith) in
      before_sorts k (omega arith) ∙ sets_below heads A 10 k l ∙ rw z at w

  pub heads_at : columns filled 10 (length heads) ≡ heads
  heads_at = columns_are filled heads 10 (λ k l. let n = long_A in before_sorts (10 + k) (omega arith) ∙ sets_within heads A 10 k l (omega arith))

  pub heads_past : (j : ℕ) → length heads ≤ j → j < 16 → column filled (10 + j) ≡ 0
  heads_past j l m = before_sorts (10 + j) (omega arith) ∙ sets_past heads A 10 (10 + j) (omega arith) ∙ sets_past numbers Z 0 (10 + j) (omega arith) ∙ zero_at 154 (10 + j)

  pub sorts_at : columns filled 26 (length sorts) ≡ sorts
  sorts_at = columns_are filled sorts 26 (λ k l. let n = long_B in before_places (26 + k) (omega arith) ∙ sets_within sorts B 26 k l (omega arith))

  pub sorts_past : (j : ℕ) → length sorts ≤ j → j < 64 → column filled (26 + j) ≡ 0
  sorts_past j l m =
      before_places (26 + j) (omega arith) ∙ sets_past sorts B 26 (26 + j) (omega arith) ∙ sets_past heads A 10 (26 + j) (omega arith)
      ∙ sets_past numbers Z 0 (26 + j) (omega arith) ∙ zero_at 154 (26 + j)

  pub places_at : columns filled 90 (length places) ≡ places
  places_at = columns_are filled places 90 (λ k l. let n = long_C in sets_within places C 90 k l (omega arith))

  pub places_past : (j : ℕ) → length places ≤ j → j < 64 → column filled (90 + j) ≡ 0
  places_past j l m =
      sets_past places C 90 (90 + j) (omega arith) ∙ sets_past sorts B 26 (90 + j) (omega arith) ∙ sets_past heads A 10 (90 + j) (omega arith)
      ∙ sets_past numbers Z 0 (90 + j) (omega arith) ∙ zero_at 154 (90 + j)

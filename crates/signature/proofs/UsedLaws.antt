-- The rows in use, lent as a part of a table: what is said of all rows of the part is said of the first rows of the table.
use Rattle.std.proofs.Common.{◌≡◌, ℕ, ◌+◌, ◌-◌, ◌≤◌, ◌<◌, List, [], length, take, drop, subst, ◌∙◌, arith, length-take, length-drop, get_or-take, get_or-drop}
use Rattle.names.specs.Symbols.{Rows, column, row_at}
pub use Rattle.names.specs.UsedLaws.{used_length, row_used, used_each, sorts_used, symbols_used}
use Rattle.signature.specs.Parts.{ClausesAsked, ClausesListed}

-- What holds of each row of the part holds of each row in use.
pub each_used : (rows : Rows) (n : ℕ) → n ≤ length rows → (P : List ℕ → Type 0) → ((i : ℕ) → i < length (take n rows) → P (row_at (take n rows) i)) → (i : ℕ) → i < n → P (row_at rows i)
each_used rows n lent P h i l = let e = used_length rows n lent in subst P (row_used rows n lent i l) (h i (omega arith))

-- The rows of a part, from one up to another.
module _ (rows : Rows) (from to : ℕ) where
  pub part_length : to ≤ length rows → length (take (to - from) (drop from rows)) ≡ to - from
  part_length l = omega (arith, length-take (to - from) (drop from rows), length-drop from rows)

  pub part_row : (i : ℕ) → from + i < to → row_at (take (to - from) (drop from rows)) i ≡ row_at rows (from + i)
  part_row i l = get_or-take (to - from) (drop from rows) i [] (omega arith) ∙ get_or-drop from rows i []

-- The clauses of the first m symbols, among the first k rules.
module _ (text words : List ℕ) (symbols rules : Rows) (m k : ℕ) (symbols_lent : m ≤ length symbols) (rules_lent : k ≤ length rules)
    (within : (i : ℕ) → i < m → column (row_at symbols i) 4 + column (row_at symbols i) 5 ≤ k) where
  pub clauses_listed : ClausesListed text (take m symbols) (length (take m symbols)) (take k rules) words → ClausesListed text symbols m rules words
  clauses_listed h i l j b =
      let e = used_length symbols m symbols_lent in
      let w = within i l in
      let r = row_used symbols m symbols_lent i l in
      let c = h i (omega arith) j (rw r b) in
      rw (symbols_used symbols m symbols_lent text, r, row_used rules k rules_lent (column (row_at symbols i) 4 + j) (omega arith)) at c

  pub clauses_used : ClausesListed text symbols m rules words → ClausesListed text (take m symbols) (length (take m symbols)) (take k rules) words
  clauses_used h i l j b =
      let e = used_length symbols m symbols_lent in
      let z : i < m = omega arith in
      let w = within i z in
      let r = row_used symbols m symbols_lent i z in
      let b' : j < column (row_at symbols i) 5 = rw r at b in
      rw (symbols_used symbols m symbols_lent text, r, row_used rules k rules_lent (column (row_at symbols i) 4 + j) (omega arith)) (h i z j b')

  pub used_asked : ((r : ℕ) → r < k → column (row_at rules r) 4 ≤ 16) → ClausesAsked (take m symbols) (take k rules)
  used_asked p =
      record {
        within = λ i l. let e = used_length symbols m symbols_lent in
            let z : i < m = omega arith in
            rw (row_used symbols m symbols_lent i z, used_length rules k rules_lent) (within i z);
        premises = used_each rules k rules_lent (λ row. column row 4 ≤ 16) p;
      }

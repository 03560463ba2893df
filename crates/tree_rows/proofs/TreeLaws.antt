-- Laws of trees in storage: they stay where words and rows are added, rows of several trees stand one behind another, and rows are a tree's preorder.
use Prim.Native.Nat.{ℕ, zero, suc, ◌+◌, ◌-◌, ◌≤◌, ◌<◌}
use native.Mathlib.Omega.{arith}
use Rattle.std.specs.Prelude.{◌≡◌, refl, length, set}
use Rattle.std.proofs.Common.{sym, ap, ap₂, ◌∙◌, get_or-set_same}
use Rattle.std.proofs.Math.Path.{subst}
use mathlib.Core.List.{List, [], ◌∷◌, ◌++◌}
use Rattle.std.proofs.Math.Seq.{get_or-set_other}
use Rattle.terms.specs.Term.{Kind, Term}
use Rattle.terms.specs.Term.Kind.{one as single, many as several}
use Rattle.arena.specs.Cells.{cells, denote, Same, Reference, WellFormed, reference_up, frame_denote}
use Rattle.arena.specs.NodeLaws.{reference_same}
use Rattle.resolution.specs.Rules.{Tree, node, leaf, ◌◂◌, joined}
use Rattle.resolution.specs.Preorder.{Entry, entry, preorder}
use Rattle.arena.specs.Rows.{Rows}
use Rattle.tree_rows.specs.Trees.{row_at, tree_row, RowOf, Lists, entry_of, entries_from}

module _ (room variables : ℕ) where
  pub lists_up : {s : Kind} (words : List ℕ) (used : ℕ) (rows : Rows) (p height : ℕ) (t : Tree s) (q : ℕ) → Lists room variables words used rows p height t q → p ≤ q
  unfolding Lists
  lists_up words used rows p height (node i g ps) q h = let a = lists_up words used rows (suc p) (suc height) ps q h.1 in omega arith
  lists_up words used rows p height leaf q h = let e : q ≡ p = h in omega arith
  lists_up words used rows p height (t ◂ ts) q h =
      let a = lists_up words used rows p height t h.0 h.1 in let b = lists_up words used rows h.0 height ts q h.2 in omega arith

  -- Words that are added behind change nothing.
  module _ (words words' : List ℕ) (used used' : ℕ) (formed : WellFormed room (cells words) variables used) (same : Same room (cells words) (cells words') used) (grows : used ≤ used') where
    row_grown : {row : List ℕ} {height rule : ℕ} {goal : Term} → RowOf room variables words used row height rule goal → RowOf room variables words' used' row height rule goal
    row_grown r = record {
      reference = r.reference;
      is = r.is;
      root = reference_up room (omega arith) grows (reference_same room same r.root);
      says = sym (frame_denote room (cells words) variables used formed (cells words') same r.reference r.root) ∙ r.says;
    }

    pub lists_grown : {s : Kind} (rows : Rows) (p height : ℕ) (t : Tree s) (q : ℕ) → Lists room variables words used rows p height t q
        → Lists room variables words' used' rows p height t q
    unfolding Lists
    lists_grown rows p height (node i g ps) q h = (row_grown h.0, lists_grown rows (suc p) (suc height) ps q h.1)
    lists_grown rows p height leaf q h = h
    lists_grown rows p height (t ◂ ts) q h = (h.0, lists_grown rows p height t h.0 h.1, lists_grown rows h.0 height ts q h.2)

  -- Rows outside are of no concern.
  pub lists_same : {s : Kind} (words : List ℕ) (used : ℕ) (rows rows' : Rows) (p height : ℕ) (t : Tree s) (q : ℕ) → ((j : ℕ) → p ≤ j → j < q → row_at rows' j ≡ row_at rows j)
      → Lists room variables words used rows p height t q → Lists room variables words used rows' p height t q
  unfolding Lists
  lists_same words used rows rows' p height (node i g ps) q e h =
      let a = lists_up words used rows (suc p) (suc height) ps q h.1 in
      (rw (e p (omega arith) (omega arith)) h.0, lists_same words used rows rows' (suc p) (suc height) ps q (λ j b c. e j (omega arith) c) h.1)
  lists_same words used rows rows' p height leaf q e h = h
  lists_same words used rows rows' p height (t ◂ ts) q e h =
      let a = lists_up words used rows p height t h.0 h.1 in let b = lists_up words used rows h.0 height ts q h.2 in (
        h.0,
        lists_same words used rows rows' p height t h.0 (λ j c d. e j c (omega arith)) h.1,
        lists_same words used rows rows' h.0 height ts q (λ j c d. e j (omega arith) d) h.2,
      )

  -- The row of a node, in front of the rows of its premises.
  pub lists_node : (words : List ℕ) (used : ℕ) (rows : Rows) (p height i value : ℕ) (g : Term) (ps : Tree several) (q : ℕ) → p < length rows
      → Reference room (cells words) variables used value → denote room (cells words) value ≡ g → Lists room variables words used rows (suc p) (suc height) ps q
      → Lists room variables words used (set rows p (tree_row height i value)) p height (node i g ps) q
  unfolding Lists
  lists_node words used rows p height i value g ps q l r e h =
      let row : List ℕ = tree_row height i value in
      let there : RowOf room variables words used row height i g = record { reference = value; is = refl; root = r; says = e } in (
        rw (get_or-set_same rows p row [] l) there,
        lists_same words used rows (set rows p row) (suc p) (suc height) ps q (λ j a b. get_or-set_other rows p j row [] (λ c. omega arith)) h,
      )

  -- Trees behind others.
  pub lists_joined : (words : List ℕ) (used : ℕ) (rows : Rows) (p height : ℕ) (ts : Tree several) (m : ℕ) (us : Tree several) (q : ℕ)
      → Lists room variables words used rows p height ts m → Lists room variables words used rows m height us q → Lists room variables words used rows p height (joined ts us) q
  unfolding Lists
  lists_joined words used rows p height leaf m us q h k = subst (λ (x : ℕ). Lists room variables words used rows x height us q) h k
  lists_joined words used rows p height (t ◂ ts) m us q h k = (h.0, h.1, lists_joined words used rows h.0 height ts m us q h.2 k)

  -- One tree as several.
  pub lists_one : (words : List ℕ) (used : ℕ) (rows : Rows) (p height : ℕ) (t : Tree single) (q : ℕ) → Lists room variables words used rows p height t q
      → Lists room variables words used rows p height (t ◂ leaf) q
  unfolding Lists
  lists_one words used rows p height t q h = (q, h, refl)

  -- Entries

  entries_split : (words : List ℕ) (rows : Rows) (p a b : ℕ)
      → entries_from room words rows p (a + b) ≡ entries_from room words rows p a ++ entries_from room words rows (p + a) b
  unfolding entries_from
  entries_split words rows p zero b = let x : 0 + b ≡ b = omega arith in let y : p + 0 ≡ p = omega arith in rw (x, y)
  entries_split words rows p (suc a) b =
      let x : suc a + b ≡ suc (a + b) = omega arith in
      let y : p + suc a ≡ suc p + a = omega arith in
      rw (x, y) (ap (λ (l : List Entry). entry_of room words (row_at rows p) ∷ l) (entries_split words rows (suc p) a b))

  entry_is : {words : List ℕ} {used : ℕ} {row : List ℕ} {height rule : ℕ} {goal : Term} → RowOf room variables words used row height rule goal
      → entry_of room words row ≡ entry height rule goal
  entry_is {height = height} {rule = rule} r = rw r.is (ap (λ (g : Term). entry height rule g) r.says)

  -- The rows are the tree's preorder.
  pub lists_preorder : {s : Kind} (words : List ℕ) (used : ℕ) (rows : Rows) (p height : ℕ) (t : Tree s) (q : ℕ) → Lists room variables words used rows p height t q
      → entries_from room words rows p (q - p) ≡ preorder height t
  unfolding Lists entries_from
  lists_preorder words used rows p height (node i g ps) q h =
      let a = lists_up words used rows (suc p) (suc height) ps q h.1 in
      let e : q - p ≡ suc (q - suc p) = omega arith in
      rw e (ap₂ (λ (x : Entry) (l : List Entry). x ∷ l) (entry_is h.0) (lists_preorder words used rows (suc p) (suc height) ps q h.1))
  lists_preorder words used rows p height leaf q h = let e : q - p ≡ 0 = (let x : q ≡ p = h in omega arith) in rw e
  lists_preorder words used rows p height (t ◂ ts) q h =
      let a = lists_up words used rows p height t h.0 h.1 in let b = lists_up words used rows h.0 height ts q h.2 in
      let e : q - p ≡ (h.0 - p) + (q - h.0) = omega arith in
      let f : p + (h.0 - p) ≡ h.0 = omega arith in
      rw e (entries_split words rows p (h.0 - p) (q - h.0)
      ∙ rw f (ap₂ (λ (x y : List Entry). x ++ y) (lists_preorder words used rows p height t h.0 h.1) (lists_preorder words used rows h.0 height ts q h.2)))

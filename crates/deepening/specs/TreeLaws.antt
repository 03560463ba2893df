-- The frames turned into a proof's rows, one after another, list the applications in the same order; and rows that list a tree's preorder
-- are the tree's.
use Prim.Native.Nat.{ℕ, zero, suc, ◌+◌, ◌-◌, ◌≤◌, ◌<◌}
use native.Mathlib.Omega.{arith}
use Rattle.std.proofs.Common.{le_refl, sym, ◌∙◌, subst, take, drop, min, get_or-take}
use Rattle.std.proofs.Math.Path.{◌≡◌, refl, ap, ap₂}
use mathlib.Core.List.{List, [], ◌∷◌, ◌++◌, append_assoc, append-nil}
use Rattle.std.specs.Prelude.{length}
use Rattle.std.proofs.Math.ListN.{get_or, set, length-set}
use Rattle.std.proofs.Math.Seq.{get_or-set_same, get_or-set_other}
use Rattle.std.proofs.lemmas.List.{set_past, set-append_left, take-append-drop, length-take-le}
use Rattle.terms.specs.Numbers.{by_same}
use Rattle.terms.specs.Term.{Kind, Term, var}
use Rattle.terms.specs.Term.Kind.{one as single}
use Rattle.arena.specs.Copies.{term_room}
use Rattle.arena.specs.Rows.{Rows}
use Rattle.resolution.specs.Rules.{Tree, node, leaf, ◌◂◌}
use Rattle.resolution.specs.Preorder.{Entry, entry, preorder}
use Rattle.tree_rows.specs.Trees.{row_at, tree_row, RowOf, Lists, entry_of, entries_from}
use Rattle.tree_rows.proofs.TreeLaws.{lists_up}
use Rattle.search_machine.specs.State.{term, Refers, frame_of, frame_at, entries}
use Rattle.search_machine.specs.declared.frames.Frame.{Frame}
use Rattle.deepening.specs.Trees.{tree_rows, Node, Nodes}

module _ (D : ℕ) (F : Rows) where
  pub tree_length : (n : ℕ) → length (tree_rows D F n) ≡ length F
  unfolding tree_rows
  tree_length zero = refl
  tree_length (suc n) = length-set (tree_rows D F n) n _ ∙ tree_length n

  -- The rows from n on are as they were.
  pub tree_behind : (n j : ℕ) → n ≤ j → get_or (tree_rows D F n) j [] ≡ get_or F j []
  unfolding tree_rows
  tree_behind zero j l = refl
  tree_behind (suc n) j l = get_or-set_other (tree_rows D F n) n j _ [] (λ e. omega arith) ∙ tree_behind n j (omega arith)

  tree_frame : (n j : ℕ) → n ≤ j → frame_at (tree_rows D F n) j ≡ frame_at F j
  unfolding frame_at
  tree_frame n j l = ap frame_of (tree_behind n j l)

  -- One more.
  pub tree_start : F ≡ tree_rows D F 0
  unfolding tree_rows
  tree_start = refl

  pub tree_next : (n : ℕ) {rows rows' : Rows} {height : ℕ} {x : Frame} → rows ≡ tree_rows D F n → x ≡ frame_at rows n → height ≡ D - x.depth
      → rows' ≡ set rows n (tree_row height x.rule x.goal) → rows' ≡ tree_rows D F (n + 1)
  unfolding tree_rows
  tree_next n {rows} {rows'} {height} {x} e f g h =
      let one : suc n ≡ n + 1 = omega arith in
      let y : x ≡ frame_at F n = f ∙ ap (λ (r : Rows). frame_at r n) e ∙ tree_frame n n (le_refl n) in
      h ∙ ap₂ (λ (r : Rows) (k : ℕ). set r n (tree_row k x.rule x.goal)) e g
      ∙ ap (λ (x : Frame). set (tree_rows D F n) n (tree_row (D - x.depth) x.rule x.goal)) y
      ∙ ap (tree_rows D F) one

  -- There is nothing to turn past the end.
  pub tree_end : (n k : ℕ) → k ≤ n → (k < n → length F ≤ k) → tree_rows D F k ≡ tree_rows D F n
  unfolding tree_rows
  tree_end zero k l h = ap (tree_rows D F) (let e : k ≡ 0 = omega arith in e)
  tree_end (suc n) k l h =
      by_same k (suc n) (λ p e. ap (tree_rows D F) p)
      (λ p e. tree_end n k (omega arith) (λ m. h (omega arith))
      ∙ sym (set_past (tree_rows D F n) n _ (let q = tree_length n in let r : length F ≤ k = h (omega arith) in omega arith)))

  pub tree_row_lem : (n k : ℕ) → k < n → n ≤ length F → get_or (tree_rows D F n) k []
      ≡ tree_row (D - (frame_at F k).depth) (frame_at F k).rule (frame_at F k).goal
  unfolding tree_rows
  tree_row_lem zero k l h = absurd (omega arith)
  tree_row_lem (suc n) k l h =
      by_same k n
      (λ p e. ap (λ (j : ℕ). get_or (tree_rows D F (suc n)) j []) p
      ∙ get_or-set_same (tree_rows D F n) n (tree_row (D - (frame_at F n).depth) (frame_at F n).rule (frame_at F n).goal) []
      (let q = tree_length n in omega arith)
      ∙ ap (λ (j : ℕ). tree_row (D - (frame_at F j).depth) (frame_at F j).rule (frame_at F j).goal) (sym p))
      (λ p e. get_or-set_other (tree_rows D F n) n k (tree_row (D - (frame_at F n).depth) (frame_at F n).rule (frame_at F n).goal) [] p
      ∙ tree_row_lem n k (omega arith) (omega arith))

-- The first frames, lent as a part of the table.
tree_front : (D : ℕ) (F : Rows) (k j : ℕ) → j ≤ k → k ≤ length F → tree_rows D (take k F) j ++ drop k F ≡ tree_rows D F j
unfolding tree_rows frame_at
tree_front D F k zero l m = take-append-drop k F
tree_front D F k (suc j) l m =
    let long = tree_length D (take k F) j in
    let front = length-take-le k F m in
    let e : frame_at (take k F) j ≡ frame_at F j = ap frame_of (get_or-take k F j [] (omega arith)) in
    sym (set-append_left (tree_rows D (take k F) j) (drop k F) j _ (omega (arith, long, front)))
    ∙ ap₂ (λ (r : Rows) (x : Frame). set r j (tree_row (D - x.depth) x.rule x.goal)) (tree_front D F k j (omega arith) m) e

pub tree_part : (D : ℕ) (F : Rows) (n : ℕ) {k : ℕ} {part : Rows} → k ≡ min (length F) n → part ≡ tree_rows D (take k F) (length (take k F))
    → part ++ drop k F ≡ tree_rows D F n
tree_part D F n {k} {part} e h =
    let front : length (take k F) ≡ k = length-take-le k F (omega arith) in
    ap (λ (p : Rows). p ++ drop k F) (h ∙ ap (tree_rows D (take k F)) front)
    ∙ tree_front D F k k (le_refl k) (omega arith) ∙ tree_end D F n k (omega arith) (λ l. omega arith)

-- As many entries as rows.
pub entries_count : (W : List ℕ) (F : Rows) (p n : ℕ) → n ≡ length (entries_from term_room W F p n)
unfolding entries_from
entries_count W F p zero = refl
entries_count W F p (suc n) = ap suc (entries_count W F (suc p) n)

-- Entries at the end of others.
entries_end : (W : List ℕ) (F : Rows) (p n : ℕ) → entries_from term_room W F p (suc n)
    ≡ entries_from term_room W F p n ++ (entry_of term_room W (row_at F (p + n)) ∷ [])
unfolding entries_from
entries_end W F p zero = ap (λ (j : ℕ). entry_of term_room W (row_at F j) ∷ []) (let e : p ≡ p + 0 = omega arith in e)
entries_end W F p (suc n) =
    ap (λ (es : List Entry). entry_of term_room W (row_at F p) ∷ es)
    (entries_end W F (suc p) n
    ∙ ap (λ (j : ℕ). entries_from term_room W F (suc p) n ++ (entry_of term_room W (row_at F j) ∷ []))
    (let e : suc p + n ≡ p + suc n = omega arith in e))

module _ (D : ℕ) (F F' : Rows) (W : List ℕ) (n : ℕ)
    (rows : (k : ℕ) → k < n → get_or F' k [] ≡ tree_row (D - (frame_at F k).depth) (frame_at F k).rule (frame_at F k).goal) where
  -- The rows list what the frames listed.
  listed : (k : ℕ) → k ≤ n → entries_from term_room W F' 0 k ≡ entries D F W k
  unfolding entries_from
  listed zero l = refl
  listed (suc k) l =
      entries_end W F' 0 k
      ∙ ap₂ (λ (es : List Entry) (row : List ℕ). es ++ (entry_of term_room W row ∷ [])) (listed k (omega arith))
      (ap (λ (j : ℕ). get_or F' j []) (let e : 0 + k ≡ k = omega arith in e) ∙ rows k (omega arith))

  pub rows_listed : entries_from term_room W F' 0 n ≡ entries D F W n
  rows_listed = listed n (le_refl n)

  pub rows_nodes : (c u : ℕ) → ((k : ℕ) → k < n → Refers W c u (frame_at F k).goal) → Nodes W c u F' n
  rows_nodes c u h k l = record {
    height = D - (frame_at F k).depth;
    rule = (frame_at F k).rule;
    goal = (frame_at F k).goal;
    is = rows k l;
    refers = h k l;
  }

-- Rows that list a preorder are a tree's

abbrev height_of : Entry → ℕ
height_of (entry h i g) = h

abbrev rule_of : Entry → ℕ
rule_of (entry h i g) = i

abbrev goal_of : Entry → Term
goal_of (entry h i g) = g

abbrev first : List Entry → Entry
first [] = entry 0 0 (var 0)
first (e ∷ es) = e

abbrev others : List Entry → List Entry
others [] = []
others (e ∷ es) = es

abbrev some : List Entry → ℕ
some [] = 0
some (e ∷ es) = 1

module _ (W : List ℕ) (c u : ℕ) (F : Rows) where
  row_of : {row : List ℕ} {h i : ℕ} {g : Term} → Node W c u row → entry_of term_room W row ≡ entry h i g → RowOf term_room c W u row h i g
  row_of {row} {h} {i} {g} x e =
      let q : entry x.height x.rule (term W x.goal) ≡ entry h i g = ap (entry_of term_room W) (sym x.is) ∙ e in
      record {
        reference = x.goal;
        is = x.is ∙ ap₂ (λ (h i : ℕ). tree_row h i x.goal) (ap height_of q) (ap rule_of q);
        root = x.refers;
        says = ap goal_of q;
      }

  -- The rows from p on list a tree, and then the rest.
  pub record Split {s : Kind} (t : Tree s) (p n height : ℕ) (rest : List Entry) : Type 0 where
    pub end : ℕ
    pub left : ℕ
    pub whole : p + n ≡ end + left
    pub lists : Lists term_room c W u F p height t end
    pub behind : entries_from term_room W F end left ≡ rest

  split : {s : Kind} (t : Tree s) (p n height : ℕ) (rest : List Entry) → ((k : ℕ) → p ≤ k → k < p + n → Node W c u (row_at F k))
      → entries_from term_room W F p n ≡ preorder height t ++ rest → Split t p n height rest
  unfolding Lists entries_from
  split (node i g ps) p zero height rest ns e = let x : ◌≡◌ {A = ℕ} 0 1 = ap some e in absurd (let z : ⊥ = omega arith in z)
  split (node i g ps) p (suc n) height rest ns e =
      let k = split ps (suc p) n (suc height) rest (λ j a b. ns j (omega arith) (omega arith)) (ap others e) in
      let w = k.whole in
      record {
        end = k.end;
        left = k.left;
        whole = omega arith;
        lists =
            (row_of (ns p (omega arith) (omega arith)) (ap first e), k.lists);
        behind = k.behind;
      }
  split leaf p n height rest ns e = record { end = p; left = n; whole = refl; lists = refl; behind = e }
  split (t ◂ ts) p n height rest ns e =
      let k = split t p n height (preorder height ts ++ rest) ns (e ∙ append_assoc (preorder height t) (preorder height ts) rest) in
      let w = k.whole in
      let l = lists_up term_room c W u F p height t k.end k.lists in
      let j = split ts k.end k.left height rest (λ i a b. ns i (omega arith) (omega arith)) k.behind in
      let v = j.whole in
      record { end = j.end; left = j.left; whole = omega arith; lists = (k.end, k.lists, j.lists); behind = j.behind }

  none : (p n : ℕ) → entries_from term_room W F p n ≡ [] → n ≡ 0
  unfolding entries_from
  none p zero e = refl
  none p (suc n) e = let x : ◌≡◌ {A = ℕ} 1 0 = ap some e in absurd (let z : ⊥ = omega arith in z)

  -- A tree's rows are all of them.
  pub lists_all : (t : Tree single) (n : ℕ) → Nodes W c u F n → entries_from term_room W F 0 n ≡ preorder 1 t → Lists term_room c W u F 0 1 t n
  lists_all t n ns e =
      let k = split t 0 n 1 [] (λ j a b. ns j (omega arith)) (e ∙ sym (append-nil (preorder 1 t))) in
      let w = k.whole in
      let z : k.left ≡ 0 = none k.end k.left k.behind in
      subst (λ (q : ℕ). Lists term_room c W u F 0 1 t q) (let x : k.end ≡ n = omega arith in x) k.lists

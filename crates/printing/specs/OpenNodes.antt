-- The open nodes of a walk through a stored term, each a row: the address of its next argument, and how many arguments are left. The last row is the
-- innermost one.
use Rattle.std.specs.Prelude.{ℕ, zero, suc, ◌+◌, ◌-◌, ◌≤◌, ◌<◌, ◌≡◌, refl, List, [], ◌∷◌, ◌++◌, get_or, length, set}
use Rattle.std.proofs.Common.{arith, sym, ap, ◌∙◌, append_assoc}
use Rattle.std.proofs.lemmas.List.{get_or-set_same, get_or-set_other}
use Rattle.std.specs.Prelude.{Option, None, Some}
use Rattle.terms.specs.Numbers.{by_same, by_less}
use Rattle.terms.specs.Term.{Term, app}
use Rattle.arena.specs.Cells.{Cells, cells, arity_of, args, Reference, WellFormed, reference_argument}
use Rattle.arena.specs.Rows.{Rows, column}
use Rattle.printing.specs.Pieces.{pieces}
use Rattle.printing.specs.declared.pieces.Piece.{Piece}
use Rattle.printing.specs.declared.pieces.Piece.TheVariants.{Open, Space, Close}

-- n references in use, from the address p on.
pub record References (room : ℕ) (words : List ℕ) (variables used p n : ℕ) : Type 0 where
  pub inside : p + n ≤ used
  pub each : (i : ℕ) → i < n → Reference room (cells words) variables used (cells words (p + i))

-- The arguments left of each of the first d rows are in use.
abbrev pub OpenRows : ℕ → List ℕ → ℕ → ℕ → Rows → ℕ → Type 0
OpenRows room words variables used rows d = (i : ℕ) → i < d → References room words variables used (column 0 rows i) (column 1 rows i)

module _ (g : ℕ → Term) (w : Cells) where
  -- The pieces that are left of the first d rows: those of the arguments left, and a parenthesis behind each row's.
  abbrev pub open_pieces : Rows → ℕ → List Piece
  open_pieces rows zero = []
  open_pieces rows (suc d) = pieces (args g w (column 0 rows d) (column 1 rows d)) ++ (Close ∷ open_pieces rows d)

  -- In front of them, those of a term that comes next.
  abbrev pub ahead_pieces : Option ℕ → List Piece → List Piece
  ahead_pieces None ps = ps
  ahead_pieces (Some r) ps = pieces (g r) ++ ps

  -- Rows written at d or above leave the first d rows as they are.
  open_set : (rows : Rows) (d i : ℕ) (row : List ℕ) → d ≤ i → open_pieces (set rows i row) d ≡ open_pieces rows d
  open_set rows zero i row l = refl
  open_set rows (suc d) i row l =
      let e : get_or (set rows i row) d [] ≡ get_or rows d [] = get_or-set_other rows i d row [] (λ q. absurd (omega (arith, q))) in
      rw (e, open_set rows d i row (omega arith))

  -- A row is written behind the first d rows.
  pub open_put : (rows : Rows) (d p n : ℕ) → d < length rows
      → open_pieces (set rows d (p ∷ n ∷ [])) (suc d) ≡ pieces (args g w p n) ++ (Close ∷ open_pieces rows d)
  open_put rows d p n l = rw (get_or-set_same rows d (p ∷ n ∷ []) [] l, open_set rows d d (p ∷ n ∷ []) (omega arith))

  -- A node with arguments is entered.
  pub open_enter : (rows : Rows) (d p n f : ℕ) → d < length rows → 0 < n
      → pieces (app f (args g w p n)) ++ open_pieces rows d ≡ Open f ∷ open_pieces (set rows d (p ∷ n ∷ [])) (suc d)
  open_enter rows d p zero f l z = absurd (omega arith)
  open_enter rows d p (suc n) f l z =
      ap (λ (ps : List Piece). Open f ∷ ps)
      (append_assoc (pieces (args g w p (suc n))) (Close ∷ []) (open_pieces rows d) ∙ sym (open_put rows d p (suc n) l))

  -- All arguments of the innermost node are done.
  pub open_close : (rows : Rows) (d : ℕ) → column 1 rows d ≡ 0 → open_pieces rows (suc d) ≡ Close ∷ open_pieces rows d
  open_close rows d e = ap (λ (n : ℕ). pieces (args g w (column 0 rows d) n) ++ (Close ∷ open_pieces rows d)) e

  -- Its next argument comes next.
  pub open_next : (rows : Rows) (d n : ℕ) → d < length rows → column 1 rows d ≡ suc n
      → open_pieces rows (suc d)
      ≡ Space ∷ (pieces (g (w (column 0 rows d))) ++ open_pieces (set rows d (suc (column 0 rows d) ∷ n ∷ [])) (suc d))
  open_next rows d n l e =
      ap (λ (k : ℕ). pieces (args g w (column 0 rows d) k) ++ (Close ∷ open_pieces rows d)) e
      ∙ ap (λ (ps : List Piece). Space ∷ ps)
      (append_assoc (pieces (g (w (column 0 rows d)))) (pieces (args g w (suc (column 0 rows d)) n)) (Close ∷ open_pieces rows d)
      ∙ ap (λ (ps : List Piece). pieces (g (w (column 0 rows d))) ++ ps) (sym (open_put rows d (suc (column 0 rows d)) n l)))

module _ {room : ℕ} {words : List ℕ} {variables used : ℕ} where
  -- A row is written behind the first d rows, or in the place of the last of them.
  pub rows_put : (rows : Rows) (d p n : ℕ) → d < length rows → OpenRows room words variables used rows d → References room words variables used p n
      → OpenRows room words variables used (set rows d (p ∷ n ∷ [])) (suc d)
  rows_put rows d p n l h r i m = by_same i d
      (λ q _. rw (q, get_or-set_same rows d (p ∷ n ∷ []) [] l) r)
      (λ q _. rw (get_or-set_other rows d i (p ∷ n ∷ []) [] q) (h i (by_less i d (λ k _. k) (λ k _. absurd (q (omega arith))))))

  -- The arguments of a node.
  pub node_references : (used ≤ length words) → WellFormed room (cells words) variables used → (r : ℕ) → Reference room (cells words) variables used r
      → room ≤ r → References room words variables used (suc (r - room)) (arity_of (cells words (r - room)))
  node_references lent formed r e v = record {
    inside = let n = e.node v in let f = formed.fits (r - room) (omega arith) (e.header v) in omega arith;
    each = λ i l. reference_argument room (cells words) variables used formed r i e v l;
  }

  -- The first of several, and the others.
  module _ (p n : ℕ) (h : References room words variables used p (suc n)) where
    pub first_reference : Reference room (cells words) variables used (cells words p)
    first_reference = let e : p + 0 ≡ p = omega arith in
        let r : Reference room (cells words) variables used (cells words (p + 0)) = h.each 0 (omega arith) in rw e at r

    pub other_references : References room words variables used (suc p) n
    other_references = record {
      inside = let a = h.inside in omega arith;
      each = λ i l. let e : p + suc i ≡ suc p + i = omega arith in
          let r : Reference room (cells words) variables used (cells words (p + suc i)) = h.each (suc i) (omega arith) in rw e at r;
    }

-- Rows that stand for source terms. They are the parser's rows (docs/STORAGE.md), and those that flattening writes, in which a row of kind 27 is the
-- name of a variable of flattening.
use Rattle.std.specs.Prelude.{ℕ, ◌+◌, ◌<◌, min, ◌≡◌, true, ◌||◌, List, eqb, length}
use Rattle.std.proofs.Common.{arith, eq-eqb, ne_eqb}
use Rattle.words.specs.Names.{name_kind, metavariable_kind, numeral_kind}
use Rattle.term_parser.specs.Source.{Arity}
use Rattle.term_parser.specs.Rows.{application_kind}
use Rattle.term_parser.specs.Standing as parsed
use Rattle.term_parser.specs.Standing.{Written, number, meta, called, applied, nil as none, cons as more, size}
use Rattle.names.specs.Names.{Name, name_in, result_kind}
use Rattle.names.specs.Symbols.{Rows, column, row_at}

-- The row at a place has a name, and says that k parts follow.
pub record Named (text : List ℕ) (rows : Rows) (p k : ℕ) (w : Name) : Type 0 where
  pub within : p < length rows
  pub spells : name_in text (row_at rows p) ≡ w
  pub counts : column (row_at rows p) 3 ≡ k

-- The rows from p on and before q stand for a term, or for several terms.
unfoldable pub Stands : {n : Arity} → List ℕ → Rows → ℕ → Written n → ℕ → Type 0
Stands text rows p (number v) q = (p < length rows) × (column (row_at rows p) 0 ≡ numeral_kind) × (column (row_at rows p) 3 ≡ min v 4294967295) × (q ≡ p + 1)
Stands text rows p (meta w) q = Named text rows p 0 w × (column (row_at rows p) 0 ≡ metavariable_kind) × (q ≡ p + 1)
Stands text rows p (called w) q = Named text rows p 0 w × ((eqb (column (row_at rows p) 0) name_kind || eqb (column (row_at rows p) 0) result_kind) ≡ true) × (q ≡ p + 1)
Stands text rows p (applied w ts) q = Named text rows p (size ts) w × (column (row_at rows p) 0 ≡ application_kind) × Stands text rows (p + 1) ts q
Stands text rows p none q = q ≡ p
Stands text rows p (more t ts) q = (m : ℕ) × Stands text rows p t m × Stands text rows m ts q

-- The parser's rows stand for what the parser says.
named : (text : List ℕ) (rows : Rows) (p kind k : ℕ) (w : Name) → (kind ≡ result_kind → ⊥) → parsed.RowAt text rows p kind k w → Named text rows p k w
unfolding name_in
named text rows p kind k w other h =
    record {
      within = h.within;
      spells = (let e : column (row_at rows p) 0 ≡ kind = h.kinded in rw (ne_eqb (column (row_at rows p) 0) 27 (λ i. other (let j : kind ≡ 27 = cc in j))) h.spells);
      counts = h.counts;
    }

pub parsed_stands : {n : Arity} (text : List ℕ) (rows : Rows) (p : ℕ) (t : Written n) (q : ℕ) → parsed.Stands text rows p t q → Stands text rows p t q
unfolding Stands parsed.Stands
parsed_stands text rows p (number v) q h = h
parsed_stands text rows p (meta w) q h = (named text rows p metavariable_kind 0 w (λ e. omega arith) h.0, h.0.kinded, h.1)
parsed_stands text rows p (called w) q h =
    (named text rows p name_kind 0 w (λ e. omega arith) h.0, (let e : column (row_at rows p) 0 ≡ 12 = h.0.kinded in rw (eq-eqb (column (row_at rows p) 0) 12 e)), h.1)
parsed_stands text rows p (applied w ts) q h =
    (named text rows p application_kind (size ts) w (λ e. omega arith) h.0, h.0.kinded, parsed_stands text rows (p + 1) ts q h.1)
parsed_stands text rows p none q h = h
parsed_stands text rows p (more t ts) q h = (h.0, parsed_stands text rows p t h.0 h.1, parsed_stands text rows h.0 ts q h.2)

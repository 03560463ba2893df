-- The first row of a term.
use Prim.Native.Nat.{ℕ, suc, ◌+◌, ◌<◌, min}
use native.Mathlib.Omega.{arith}
use mathlib.Core.Path.{◌≡◌, refl, sym, ◌∙◌}
use mathlib.Core.Bool.{Bool, true, false, ◌&&◌}
use mathlib.Core.List.{List}
use lib.ListN.{length}
use borrow.Author.Tests.{ne_eqb}
use Rattle.term_parser.specs.Source.{one, many}
use Rattle.term_parser.specs.Standing.{Written, number, meta, called, applied, nil as none, size, Stands}
use Rattle.source_text.specs.Parts.{part_of}
use Rattle.names.specs.Names.{Name, name_of}
use Rattle.names.specs.Symbols.{Rows, Symbol, column, row_at, symbol_at}
use Rattle.names.specs.RowNames.{kind_at}
use Rattle.resolution.specs.Rules.{Rule}
use Rattle.evaluation.specs.Calls.{Spent}
use Rattle.evaluation.specs.Expressions.{is_ground, is_called_with, is_forward_call, within, with_symbol, apply_of, expression_of}

pub row_within : (text : List ℕ) (rows : Rows) (p q : ℕ) (t : Written one) → Stands text rows p t q → p < length rows
unfolding Stands
row_within text rows p q (number v) h = h.0
row_within text rows p q (meta w) h = h.0.within
row_within text rows p q (called w) h = h.0.within
row_within text rows p q (applied w ts) h = h.0.within

-- A row that names its term's symbol: the parts stand behind it.
pub record Head (text : List ℕ) (rows : Rows) (p : ℕ) (t : Written one) (q : ℕ) : Type 0 where
  pub name : Name
  pub parts : Written many
  pub spells : name_of text (column (row_at rows p) 0) (column (row_at rows p) 1) (column (row_at rows p) 2) ≡ name
  pub written : part_of text (column (row_at rows p) 1) (column (row_at rows p) 2) ≡ name
  pub counts : column (row_at rows p) 3 ≡ size parts
  pub stands : Stands text rows (p + 1) parts q
  pub forward : (symbols : List Symbol) → is_forward_call symbols t ≡ (is_called_with symbols name (size parts) && is_ground t)
  pub comes : (limit : ℕ) (symbols : List Symbol) (rules : List Rule) (sorts : List ℕ) (depth : ℕ) (c : Spent) → expression_of limit symbols rules t sorts depth c
      ≡ within depth (λ _. with_symbol limit symbols rules name (size parts) (λ i.
      apply_of limit symbols rules i depth (expression_of limit symbols rules parts (symbol_at symbols i).inputs (suc depth) c)))

and_true : (b : Bool) → b ≡ (b && true)
and_true true = refl
and_true false = refl

spelled : (text : List ℕ) (rows : Rows) (p kind : ℕ) (w : Name) → (kind ≡ 27 → ⊥) → kind_at rows p ≡ kind
    → part_of text (column (row_at rows p) 1) (column (row_at rows p) 2) ≡ w
    → name_of text (kind_at rows p) (column (row_at rows p) 1) (column (row_at rows p) 2) ≡ w
spelled text rows p kind w other k e = rw (ne_eqb (kind_at rows p) 27 (λ i. other (sym k ∙ i))) e

pub head_of : (text : List ℕ) (rows : Rows) (p q : ℕ) (t : Written one) → Stands text rows p t q → (kind_at rows p ≡ 14 → ⊥) → (kind_at rows p ≡ 13 → ⊥) → Head text rows p t q
unfolding Stands is_forward_call is_ground size expression_of
head_of text rows p q (number v) h n m = absurd (n h.1)
head_of text rows p q (meta w) h n m = absurd (m h.0.kinded)
head_of text rows p q (called w) h n m = record {
  name = w;
  parts = none;
  spells = spelled text rows p 12 w (λ e. let z : ⊥ = omega arith in z) h.0.kinded h.0.spells;
  written = h.0.spells;
  counts = h.0.counts;
  stands = h.1;
  forward = λ symbols. and_true (is_called_with symbols w 0);
  comes = λ limit symbols rules sorts depth c. refl;
}
head_of text rows p q (applied w ts) h n m = record {
  name = w;
  parts = ts;
  spells = spelled text rows p 24 w (λ e. let z : ⊥ = omega arith in z) h.0.kinded h.0.spells;
  written = h.0.spells;
  counts = h.0.counts;
  stands = h.1;
  forward = λ symbols. refl;
  comes = λ limit symbols rules sorts depth c. refl;
}

-- A numeral's row, and a metavariable's.
pub number_row : (text : List ℕ) (rows : Rows) (p q : ℕ) (t : Written one) → Stands text rows p t q → kind_at rows p ≡ 14
    → (v : ℕ) × (t ≡ number v) × (column (row_at rows p) 3 ≡ min v 4294967295) × (q ≡ p + 1)
unfolding Stands
number_row text rows p q (number v) h k = (v, refl, h.2, h.3)
number_row text rows p q (meta w) h k = absurd (let e = h.0.kinded in let z : ⊥ = omega arith in z)
number_row text rows p q (called w) h k = absurd (let e = h.0.kinded in let z : ⊥ = omega arith in z)
number_row text rows p q (applied w ts) h k = absurd (let e = h.0.kinded in let z : ⊥ = omega arith in z)

pub meta_row : (text : List ℕ) (rows : Rows) (p q : ℕ) (t : Written one) → Stands text rows p t q → kind_at rows p ≡ 13 → (w : Name) × (t ≡ meta w)
unfolding Stands
meta_row text rows p q (number v) h k = absurd (let e = h.1 in let z : ⊥ = omega arith in z)
meta_row text rows p q (meta w) h k = (w, refl)
meta_row text rows p q (called w) h k = absurd (let e = h.0.kinded in let z : ⊥ = omega arith in z)
meta_row text rows p q (applied w ts) h k = absurd (let e = h.0.kinded in let z : ⊥ = omega arith in z)

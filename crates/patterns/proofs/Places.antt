-- Laws of the places of variables' names: of those that `enter` sets and enters, and of the rows of a term and of terms one behind another.
use mathlib.Core.Path.{◌≡◌, refl, sym, ap, ◌∙◌, subst}
use mathlib.Core.List.{List, [], ◌∷◌}
use Prim.Native.Nat.{ℕ, ◌+◌, ◌≤◌, ◌<◌}
use native.Mathlib.Omega.{arith}
use lib.ListN.{length, set}
use lib.Seq.{get_or-set_same, get_or-set_other}
use Rattle.words.specs.Names.{numeral_kind}
use Rattle.terms.specs.Numbers.{by_less, by_same}
use Rattle.term_parser.specs.Rows.{application_kind}
use Rattle.names.specs.Symbols.{Rows, column, row_at}
use Rattle.patterns.specs.Promises.{NextIs, place_of, Placed, LiesAt, LiesIn, MadePlaced, NoneNew}
use Rattle.std.specs.Prelude.{Result, Ok, Err}
use Rattle.refusals.specs.declared.Refusal.{Refusal}
use Rattle.patterns.specs.declared.CompiledTerm.{CompiledTerm}

-- `enter`

-- Nothing is changed.
pub placed_kept : (P : List ℕ → Type 0) (rs : Rows) (n : ℕ) → Placed P rs n rs n
placed_kept P rs n = record { old = λ i l. refl; new = λ i l k. absurd (omega arith) }

-- A sort is set.
module _ (P : List ℕ → Type 0) (rs : Rows) (n i s : ℕ) (inside : i < length rs) where
  abbrev row : List ℕ
  row = column (row_at rs i) 0 ∷ column (row_at rs i) 1 ∷ column (row_at rs i) 2 ∷ s ∷ []

  here : place_of (row_at (set rs i row) i) ≡ place_of (row_at rs i)
  here = ap place_of (get_or-set_same rs i row [] inside)

  pub placed_sort : Placed P rs n (set rs i row) n
  placed_sort = record {
    old = λ j l. by_same j i (λ e _. subst (λ (k : ℕ). place_of (row_at (set rs i row) k) ≡ place_of (row_at rs k)) (sym e) here)
        (λ e _. ap place_of (get_or-set_other rs i j row [] e));
    new = λ j l k. absurd (omega arith);
  }

-- A variable is new.
module _ (rs : Rows) (n k a b s : ℕ) (inside : n < length rs) where
  abbrev last : List ℕ
  last = k ∷ a ∷ b ∷ s ∷ []

  pub placed_new : Placed (LiesAt k a b) rs n (set rs n last) (n + 1)
  placed_new = record {
    old = λ i l. ap place_of (get_or-set_other rs n i last [] (λ e. omega arith));
    new = λ i l m.
        let e : n ≡ i = omega arith in
        subst (λ (j : ℕ). LiesAt k a b (row_at (set rs n last) j)) e (ap place_of (get_or-set_same rs n last [] inside));
  }

-- A term

-- A row that lies in some rows lies in more of them, and so does a row at the same place.
lies_wider : {rows : Rows} {p₀ p q q₁ : ℕ} {row other : List ℕ} → p₀ ≤ p → q ≤ q₁ → place_of other ≡ place_of row → LiesIn rows p q row
    → LiesIn rows p₀ q₁ other
lies_wider a b e x =
    let low = x.from in
    let high = x.before in
    record {
      at = x.at;
      from = omega arith;
      before = omega arith;
      no_numeral = x.no_numeral;
      no_application = x.no_application;
      same = e ∙ x.same;
    }

module _ (rows : Rows) (p : ℕ) (vs : Rows) (nv : ℕ) where
  abbrev LiesHere : ℕ → List ℕ → Type 0
  LiesHere _ = LiesAt (column (row_at rows p) 0) (column (row_at rows p) 1) (column (row_at rows p) 2)

  -- It is a variable.
  pub placed_variable : (vx : Rows) (r : Result CompiledTerm Refusal) → (column (row_at rows p) 0 ≡ numeral_kind → ⊥)
      → (column (row_at rows p) 0 ≡ application_kind → ⊥) → NextIs (p + 1) r → MadePlaced LiesHere vs nv r vx
      → MadePlaced (LiesIn rows p) vs nv r vx
  placed_variable vx (Ok r) a b e h = record {
    old = h.old;
    new = λ i l k.
        record { at = p; from = omega arith; before = omega arith; no_numeral = a; no_application = b; same = h.new i l k };
  }
  placed_variable vx (Err e) a b f h = tt

  -- It has no variable.
  pub placed_none : (r : Result CompiledTerm Refusal) → NoneNew nv r → MadePlaced (LiesIn rows p) vs nv r vs
  placed_none (Ok r) e = record { old = λ i l. refl; new = λ i l k. absurd (omega arith) }
  placed_none (Err e) f = tt

  -- It is a node, whose arguments have the rows behind its first.
  pub placed_node : (vx : Rows) (r : Result CompiledTerm Refusal) → MadePlaced (LiesIn rows (p + 1)) vs nv r vx → MadePlaced (LiesIn rows p) vs nv r vx
  placed_node vx (Ok r) h =
      record { old = h.old; new = λ i l k. lies_wider (omega arith) (omega arith) refl (h.new i l k) }
  placed_node vx (Err e) h = tt

-- One term behind another.
pub placed_more : (rows : Rows) {p₀ p q : ℕ} {vs₀ vs vx : Rows} {n₀ n n₁ : ℕ} → p₀ ≤ p → p ≤ q → n₀ ≤ n
    → Placed (LiesIn rows p₀ p) vs₀ n₀ vs n → Placed (LiesIn rows p q) vs n vx n₁ → Placed (LiesIn rows p₀ q) vs₀ n₀ vx n₁
placed_more rows {n = n} a b c f g = record {
  old = λ i l. g.old i (omega arith) ∙ f.old i l;
  new = λ i l k. by_less i n (λ m _. lies_wider (omega arith) b (g.old i m) (f.new i l m))
      (λ m _. lies_wider a (omega arith) refl (g.new i m k));
}

-- The loop of `walk`: it goes the way that the values lead, and the number of bindings still to meet falls.
use Rattle.std.specs.Prelude.{ℕ, suc, ◌<◌, ◌≡◌, List, length}
use Rattle.std.proofs.Common.{arith}
use Rattle.terms.specs.Loops.{walk_length}
use Rattle.arena.specs.Cells.{cells, denote, Reference}
use Rattle.arena.specs.Rows.{Rows, column}
use Rattle.bindings.specs.Stored.{held, Form, WalksTo, bound}
use Rattle.bindings.specs.Promises.{Walked}
use Rattle.bindings.specs.Holding.{form_holds, walks, walks_end, walk_falls}

-- From q on it goes as from r.
pub record Walking (N : ℕ) (w : List ℕ) (b : Rows) (variables used k r q : ℕ) : Type 0 where
  pub form : Form N w b variables used k
  pub first : Reference N (cells w) variables used r
  pub in_form : Reference N (cells w) variables used q
  pub on : (p : ℕ) → WalksTo N (column 0 b) q p → WalksTo N (column 0 b) r p

-- How many bindings are still to meet.
abbrev pub ahead : ℕ → List ℕ → Rows → ℕ → ℕ → ℕ
ahead N w b k q = walk_length (held N w b k) (denote N (cells w) q)

module _ {N : ℕ} {w : List ℕ} {b : Rows} {variables used k r q : ℕ} (h : Walking N w b variables used k r q) where
  pub walk_in : q < N → q < length b
  walk_in l = let a = h.in_form.variable l in let c = h.form.lent_rows in omega arith

  pub walk_next : (x : ℕ) → q < N → column 0 b q ≡ suc x → Walking N w b variables used k r x
  walk_next x l e = record {
    form = h.form;
    first = h.first;
    in_form = h.form.references q x (h.in_form.variable l) e;
    on = λ p m. h.on p (bound l e m);
  }

  pub walk_less : (x : ℕ) → q < N → column 0 b q ≡ suc x → ahead N w b k x < ahead N w b k q
  walk_less x l e = let f = walk_falls h.form.words (form_holds h.form) q x h.in_form l e in omega arith

  pub walk_end : WalksTo N (column 0 b) q q → Walked N w b variables used k r q
  walk_end v = record {
    is = walks h.form.words (form_holds h.form) h.first (h.on q v);
    way = h.on q v;
    in_form = h.in_form;
    ends = walks_end h.form.words (form_holds h.form) v;
  }

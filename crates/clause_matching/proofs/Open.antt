-- Open nodes on a stack, a row for each: the arguments that are left, and the laws of matching that they need.
use Prim.Native.Nat.{ℕ, zero, suc, ◌+◌, ◌≤◌, ◌<◌}
use native.Mathlib.Omega.{arith}
use mathlib.Core.Path.{◌≡◌, refl, ap}
use mathlib.Core.Logic.{◌≢◌}
use mathlib.Core.List.{List, []}
use lib.ListN.{get_or, length, set}
use lib.Seq.{get_or-set_same, get_or-set_other}
use Rattle.terms.specs.Term.{nil, cons, Term, Terms, count, append, size}
use Rattle.terms.specs.Bindings.{Bindings}
use Rattle.arena.specs.Cells.{Cells, args, denote, Reference}
use Rattle.arena.specs.Rows.{Rows, column}
use Rattle.evaluation.specs.Matching.{Fitted, misfit, fitted, if_fitted, bind_of}

-- The arguments left in the first d rows, those of the last row first: column 2 says how many, and column k where they stand.
abbrev pub unmet : ℕ → ℕ → Cells → Rows → ℕ → Terms
unmet N k w rows zero = nil
unmet N k w rows (suc d) = append (args (denote N w) w (column k rows d) (column 2 rows d)) (unmet N k w rows d)

-- n references in use, from the address p on.
pub record Row (N : ℕ) (w : Cells) (variables used p n : ℕ) : Type 0 where
  pub inside : p + n ≤ used
  pub references : (i : ℕ) → i < n → Reference N w variables used (w (p + i))

pub size_append : (ts us : Terms) → size (append ts us) + 1 ≡ size ts + size us
size_append nil us = omega arith
size_append (cons t ts) us = let h = size_append ts us in omega arith

-- Rows written at d or above leave the first d rows as they are.
unmet_set : (N k : ℕ) (w : Cells) (rows : Rows) (d i : ℕ) (row : List ℕ) → d ≤ i → unmet N k w (set rows i row) d ≡ unmet N k w rows d
unmet_set N k w rows zero i row l = refl
unmet_set N k w rows (suc d) i row l =
    let e : get_or (set rows i row) d [] ≡ get_or rows d [] = get_or-set_other rows i d row [] (λ q. omega arith) in
    rw (e, unmet_set N k w rows d i row (omega arith))

-- The row at d written anew.
pub unmet_put : (N k : ℕ) (w : Cells) (rows : Rows) (d : ℕ) (row : List ℕ) → d < length rows
    → unmet N k w (set rows d row) (suc d) ≡ append (args (denote N w) w (get_or row k 0) (get_or row 2 0)) (unmet N k w rows d)
unmet_put N k w rows d row l = rw (get_or-set_same rows d row [] l, unmet_set N k w rows d d row (omega arith))

-- Matching of several terms in two parts.
pub bind_append : (ps ts qs us : Terms) (β : Bindings) → count ps ≡ count ts
    → bind_of (append ps qs) (append ts us) β ≡ if_fitted (bind_of ps ts β) (λ γ. bind_of qs us γ)
unfolding bind_of
bind_append nil nil qs us β e = refl
bind_append nil (cons t ts) qs us β e = absurd (let z : ⊥ = omega arith in z)
bind_append (cons p ps) nil qs us β e = absurd (let z : ⊥ = omega arith in z)
bind_append (cons p ps) (cons t ts) qs us β e = go (bind_of p t β) (λ γ. bind_append ps ts qs us γ (omega arith))
  where
    go : (o : Fitted) → ((γ : Bindings) → bind_of (append ps qs) (append ts us) γ ≡ if_fitted (bind_of ps ts γ) (λ δ. bind_of qs us δ))
        → if_fitted o (λ γ. bind_of (append ps qs) (append ts us) γ) ≡ if_fitted (if_fitted o (λ γ. bind_of ps ts γ)) (λ γ. bind_of qs us γ)
    go misfit h = refl
    go (fitted γ) h = h γ

-- Lists of different lengths do not fit.
pub bind_uneven : (ps ts : Terms) (β : Bindings) → count ps ≢ count ts → bind_of ps ts β ≡ misfit
unfolding bind_of
bind_uneven nil nil β n = absurd (n refl)
bind_uneven nil (cons t ts) β n = refl
bind_uneven (cons p ps) nil β n = refl
bind_uneven (cons p ps) (cons t ts) β n = go (bind_of p t β) (λ γ. bind_uneven ps ts γ (λ e. n (ap suc e)))
  where
    go : (o : Fitted) → ((γ : Bindings) → bind_of ps ts γ ≡ misfit) → if_fitted o (λ γ. bind_of ps ts γ) ≡ misfit
    go misfit h = refl
    go (fitted γ) h = h γ

pub bind_alone : (p t : Term) (β : Bindings) → bind_of (cons p nil) (cons t nil) β ≡ bind_of p t β
unfolding bind_of
bind_alone p t β = go (bind_of p t β)
  where
    go : (o : Fitted) → if_fitted o (λ γ. bind_of nil nil γ) ≡ o
    go misfit = refl
    go (fitted γ) = refl

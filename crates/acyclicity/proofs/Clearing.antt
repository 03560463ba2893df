-- Rows set to zero, and scratch restored: what the search leaves in the rows for references is zero again, and so is all the rest.
use Prim.Native.Nat.{ℕ, ◌+◌, ◌-◌, ◌≤◌, ◌<◌}
use Rattle.std.proofs.Common.{min, get_or-drop, get_or-take, length-append, length-drop, length-take}
use Rattle.std.proofs.Math.ListN.{get_or-append, length-replicate, get_or-replicate}
use Rattle.std.proofs.lemmas.List.{get_or-append_right}
use Rattle.std.proofs.lemmas.List.Edits.{paste_all}
use Rattle.std.proofs.lemmas.Slice.{put_mid-paste}
use borrow.Rule.Slice.PartMut.{put_mid}
use native.Mathlib.Omega.{arith}
use mathlib.Core.Path.{◌≡◌, refl, sym, ap, ap₂, ◌∙◌}
use mathlib.Core.Logic.{inl, inr, ⊎_elim}
use mathlib.Core.List.{List, [], ◌∷◌, ◌++◌}
use mathlib.Core.Bool.{Bool}
use lib.ListN.{get_or, length, take, drop, replicate}
use lib.Seq.{ext_get_or}
use Rattle.terms.specs.Numbers.{by_less}
use Rattle.arena.specs.Rows.{Rows, pair_is}
use Rattle.acyclicity.specs.Contract.{Ready}
use Rattle.acyclicity.specs.Edges.{Searchable, Searched, Cleared, Pairs}

-- A part of the rows overwritten by as many zero rows.
pub cleared_part : (rows zeros : Rows) (from to k : ℕ) → from ≤ to → to ≤ length rows → k ≡ to - from → zeros ≡ replicate k (0 ∷ 0 ∷ [])
    → Cleared rows from to (take from rows ++ (zeros ++ drop to rows))
cleared_part rows zeros from to k o l q e =
    let n : length zeros ≡ to - from = ap length e ∙ (length-replicate k _ ∙ q) in
    let front : length (take from rows) ≡ from = length-take from rows ∙ (let m : min from (length rows) ≡ from = omega arith in m) in
    record {
      long = length-append (take from rows) _ ∙ (let b = length-append zeros (drop to rows) in let d = length-drop to rows in omega arith);
      inside = λ a b c.
          get_or-append_right (take from rows) (zeros ++ drop to rows) from a [] front b
          ∙ get_or-append zeros (drop to rows) [] (a - from) (omega arith)
          ∙ ap (λ (z : Rows). get_or z (a - from) []) e
          ∙ get_or-replicate k (a - from) (0 ∷ 0 ∷ []) [] (omega arith);
      outside = λ a p. ⊎_elim
          (λ b. get_or-append (take from rows) (zeros ++ drop to rows) [] a (omega arith) ∙ get_or-take from rows a [] b)
          (λ b. get_or-append_right (take from rows) (zeros ++ drop to rows) from a [] front (omega arith)
          ∙ get_or-append_right zeros (drop to rows) (to - from) (a - from) [] n (omega arith)
          ∙ get_or-drop to rows (a - from - (to - from)) []
          ∙ ap (λ (k : ℕ). get_or rows k []) (let d : to + (a - from - (to - from)) ≡ a = omega arith in d))
          p;
    }

-- The same, as a part of a slice is overwritten.
pub overwritten : (rows zeros : Rows) (from to k : ℕ) → from ≤ to → to ≤ length rows → k ≡ to - from → zeros ≡ replicate k (0 ∷ 0 ∷ [])
    → put_mid from (to - from) rows zeros ≡ take from rows ++ (zeros ++ drop to rows)
overwritten rows zeros from to k o l q e =
    let n : to - from ≡ length zeros = sym (ap length e ∙ (length-replicate k _ ∙ q)) in
    let d : from + (to - from) ≡ to = omega arith in
    put_mid-paste from (to - from) rows zeros zeros (to - from) refl refl n ∙ (paste_all rows from zeros (to - from) n ∙ rw d)

pub searchable : {words : List ℕ} {bindings : Rows} {N variables used : ℕ} {rows : Rows} → Ready words bindings N variables used rows → Searchable words bindings N variables used rows
searchable h = record { stored = h.stored; long = h.long; unmarked = h.zeros 0 }

pub restored : {words : List ℕ} {bindings : Rows} {N variables used : ℕ} {rows rows₁ rows₂ rows₃ : Rows} {answer : Bool} → Ready words bindings N variables used rows → Pairs rows (N + used)
    → Searched words bindings N variables used rows answer rows₁ → Cleared rows₁ 0 variables rows₂ → Cleared rows₂ N (N + used) rows₃ → rows₃ ≡ rows
restored {N = N} {variables} {used} {rows} {rows₁} {rows₂} {rows₃} h w s c d =
    let n : length rows₃ ≡ length rows = d.long ∙ (c.long ∙ s.long) in
    ext_get_or [] rows₃ rows n (λ a l.
    let before : a < N + used → 0 ∷ 0 ∷ [] ≡ get_or rows a [] = λ k. sym (pair_is (get_or rows a []) (w a k) ∙ ap₂ (λ (x y : ℕ). x ∷ y ∷ []) (h.zeros 0 a) (h.zeros 1 a)) in
    by_less a N
    (λ p q. d.outside a (inl p) ∙ by_less a variables
    (λ v r. c.inside a (omega arith) v ∙ before (omega arith))
    (λ v r. c.outside a (inr v) ∙ s.outside a (v, inl p)))
    (λ p q. by_less a (N + used)
    (λ v r. d.inside a p v ∙ before v)
    (λ v r. let f = h.stored.few in
    d.outside a (inr v) ∙ (c.outside a (inr (omega arith)) ∙ s.outside a (omega arith, inr v)))))

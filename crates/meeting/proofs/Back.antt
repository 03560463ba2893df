-- Laws of walks through several terms, from the last to the first.
use mathlib.Core.Path.{◌≡◌, sym, ap, ◌∙◌, subst}
use mathlib.Core.List.{List, [], ◌∷◌}
use Rattle.std.specs.Prelude.{Option}
use Prim.Native.Nat.{ℕ, suc, ◌-◌, ◌≤◌, ◌<◌}
use native.Mathlib.Omega.{arith}
use lib.ListN.{length, drop, get_or, drop_of_length-le}
use lib.Seq.{drop-cons}
use Rattle.terms.specs.Term.{Term}
use Rattle.arena.specs.Cells.{terms_of}
use Rattle.resolution.specs.Fresh.{met, met_back}
use Rattle.meeting.specs.Places.{Records}

-- The terms from number k on are met, behind those of the table at the start.
abbrev pub Back : (ℕ → Term) → List ℕ → List (Option ℕ) → ℕ → ℕ → List (Option ℕ) → ℕ → Type 0
Back g references table₀ count₀ k table count = (e : List ℕ) → Records e table₀ count₀ → Records (met_back (terms_of g (drop k references)) e) table count

module _ (g : ℕ → Term) (references : List ℕ) (table₀ : List (Option ℕ)) (count₀ : ℕ) where
  -- none of them
  pub back_none : Back g references table₀ count₀ (length references) table₀ count₀
  back_none x h = let e : drop (length references) references ≡ [] = drop_of_length-le references (omega arith) in rw e h

  -- one more
  pub back_more : (k : ℕ) → 0 < k → k ≤ length references → (table : List (Option ℕ)) (count : ℕ) → Back g references table₀ count₀ k table count
      → (table' : List (Option ℕ)) (count' : ℕ) → ((e : List ℕ) → Records e table count → Records (met (g (get_or references (k - 1) 0)) e) table' count')
      → Back g references table₀ count₀ (k - 1) table' count'
  back_more k some few table count h table' count' f x b =
      let i : suc (k - 1) ≡ k = omega arith in
      let e : drop (k - 1) references ≡ get_or references (k - 1) 0 ∷ drop k references =
      drop-cons references (k - 1) 0 (omega arith) ∙ ap (λ (m : ℕ). get_or references (k - 1) 0 ∷ drop m references) i in
      subst (λ (l : List ℕ). Records (met_back (terms_of g l) x) table' count') (sym e) (f (met_back (terms_of g (drop k references)) x) (h x b))

-- What calls of a closure give that gives one value each time and is left as it was.
use mathlib.Core.Path.{◌≡◌, refl, sym, subst, ap}
use mathlib.Core.List.{List, [], ◌∷◌}
use lib.ListN.{length, replicate}
use Rattle.std.specs.List.{FoldsTo}

module _ {F A : Type 0} (R : F → A → F → Type 0) (f : F) (z : A) (h : (x : A) (f' : F) → R f x f' → (x ≡ z) × (f' ≡ f)) where
  given : (xs : List A) (g last : F) → g ≡ f → FoldsTo R g xs last → xs ≡ replicate (length xs) z
  given [] g last e t = refl
  given (x ∷ xs) g last e t =
      let one = h x t.0 (subst (λ (y : F). R y x t.0) e t.1) in
      rw (sym (given xs t.0 last one.1 t.2)) (ap (λ (y : A). y ∷ xs) one.0)

  pub replicate-from_FoldsTo : (xs : List A) (last : F) → FoldsTo R f xs last → xs ≡ replicate (length xs) z
  replicate-from_FoldsTo xs last t = given xs f last refl t

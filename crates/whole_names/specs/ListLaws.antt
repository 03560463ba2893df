-- Laws of lists: what holds of each item, and images.
use Rattle.std.specs.Prelude.{ℕ, zero, suc, ◌<◌, ◌≡◌, List, [], ◌∷◌, ◌++◌, map, length, get_or, take, set}
use Rattle.std.proofs.Common.{arith, sym, ap, ◌∙◌, get_or-take}
use Rattle.std.proofs.lemmas.List.{length-map, get_or-map}
pub use Rattle.std.proofs.lemmas.List.{map_push as map_more}
use Rattle.term_parser.specs.ReaderLaws.{Each}
use Rattle.names.specs.Symbols.{Rows, row_at}

-- P holds of each item that is taken,
pub each_take : {A : Type 0} (P : A → Type 0) (n : ℕ) (l : List A) → Each P l → Each P (take n l)
each_take P zero l h = tt
each_take P (suc n) [] h = tt
each_take P (suc n) (a ∷ l) h = (h.0, each_take P n l h.1)

-- and of each when one is replaced.
pub each_set : {A : Type 0} (P : A → Type 0) (l : List A) (i : ℕ) (a : A) → P a → Each P l → Each P (set l i a)
each_set P [] i a p h = tt
each_set P (b ∷ l) zero a p h = (p, h.1)
each_set P (b ∷ l) (suc i) a p h = (h.0, each_set P l i a p h.1)

pub each_map : {A : Type 0} (P Q : A → Type 0) (l : List A) → ((a : A) → P a → Q a) → Each P l → Each Q l
each_map P Q [] f h = tt
each_map P Q (a ∷ l) f h = (f a h.0, each_map P Q l f h.1)

-- Images

-- Two images that are equal, with one item more of each.
pub both_more : {A B C : Type 0} (f : A → C) (g : B → C) (l : List A) (m : List B) (a : A) (b : B) → map f l ≡ map g m → f a ≡ g b
    → map f (l ++ (a ∷ [])) ≡ map g (m ++ (b ∷ []))
both_more f g l m a b e q =
    map_more f l a ∙ ap (λ x. map f l ++ (x ∷ [])) q ∙ ap (λ x. x ++ (g b ∷ [])) e ∙ sym (map_more g m b)

-- The item with number i of a list that is an image, and of one that is the image of as many rows.
pub of_image : {A B : Type 0} (f : A → B) (l : List A) (m : List B) (a : A) (b : B) → map f l ≡ m → (i : ℕ) → i < length m
    → f (get_or l i a) ≡ get_or m i b
of_image f l m a b e i k =
    let n : length l ≡ length m = sym (length-map l f) ∙ ap length e in
    sym (get_or-map f l i a b (omega arith)) ∙ ap (λ (z : List _). get_or z i b) e

pub of_rows : {B : Type 0} (f : List ℕ → B) (rows : Rows) (m : List B) (b : B) → map f (take (length m) rows) ≡ m → (i : ℕ)
    → i < length m → f (row_at rows i) ≡ get_or m i b
of_rows f rows m b e i k = ap f (sym (get_or-take (length m) rows i [] k)) ∙ of_image f (take (length m) rows) m [] b e i k
